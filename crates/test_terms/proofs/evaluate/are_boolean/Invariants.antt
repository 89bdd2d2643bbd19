use Rattle.std.proofs.Common.{All, take}
use Rattle.ct_terms.specs.Terms.{IsBoolean}
use Rattle.test_terms.proofs.evaluate.are_boolean.Given as goal

abbrev pub invariant-loop-t : goal.invariant-loop-t
invariant-loop-t l = All (IsBoolean l.table) (take l.t-index l.terms)
