use Rattle.std.proofs.Common.{◌≡◌, ◌++◌, length}
use Rattle.ct_sexpr.specs.Written.{written_after}
use Rattle.ct_log_text.specs.Written.{numbers, term_numbers}
use Rattle.ct_log_text.proofs.put.put_terms.Given as goal

abbrev pub invariant-loop-rest : goal.invariant-loop-rest
invariant-loop-rest l = l.out.items ++ written_after (numbers (term_numbers l.rest)) ≡ l.fn.out.items ++ written_after (numbers (term_numbers l.terms))

abbrev pub decreases-loop-rest : goal.decreases-loop-rest
decreases-loop-rest l = length l.rest
