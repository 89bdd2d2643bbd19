use Rattle.std.proofs.Common.{◌≡◌, length, find}
use Rattle.ct_sexpr.specs.View.{expression_of}
use Rattle.ct_log_lines.specs.Forms.{is_word}
use Rattle.ct_log_lines.specs.Gates.{gate_name, gates}
use Rattle.ct_log_lines.proofs.gates.gate_in.Given as goal

abbrev pub invariant-loop-rest : goal.invariant-loop-rest
invariant-loop-rest l = find (λ x. is_word (gate_name x) (expression_of l.expr)) l.rest ≡ find (λ x. is_word (gate_name x) (expression_of l.expr)) gates

abbrev pub decreases-loop-rest : goal.decreases-loop-rest
decreases-loop-rest l = length l.rest
