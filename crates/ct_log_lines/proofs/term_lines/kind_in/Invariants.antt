use Rattle.std.proofs.Common.{◌≡◌, length, find}
use Rattle.ct_sexpr.specs.View.{expression_of}
use Rattle.ct_log_lines.specs.Forms.{is_word}
use Rattle.ct_log_lines.specs.TermLines.{kind_word, kinds}
use Rattle.ct_log_lines.proofs.term_lines.kind_in.Given as goal

abbrev pub invariant-loop-rest : goal.invariant-loop-rest
invariant-loop-rest l = find (λ x. is_word (kind_word x) (expression_of l.expr)) l.rest ≡ find (λ x. is_word (kind_word x) (expression_of l.expr)) kinds

abbrev pub decreases-loop-rest : goal.decreases-loop-rest
decreases-loop-rest l = length l.rest
