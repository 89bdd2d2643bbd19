use Rattle.std.proofs.Common.{take, All}
use Rattle.ct_terms.specs.Terms.{IsBoolean}
use Rattle.ct_terms.proofs.sorting.are_boolean.Given as goal

abbrev pub invariant-loop-t : goal.invariant-loop-t
invariant-loop-t l = All (IsBoolean l.table) (take l.t-index l.terms)
