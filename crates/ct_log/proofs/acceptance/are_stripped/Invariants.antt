use Rattle.std.proofs.Common.{take, All}
use Rattle.ct_terms.specs.Literal.{IsStripped}
use Rattle.ct_log.proofs.acceptance.are_stripped.Given as goal

abbrev pub invariant-loop-l : goal.invariant-loop-l
invariant-loop-l l = All (λ x. IsStripped l.table x.term) (take l.l-index l.clause)
