use Rattle.std.proofs.Common.{All}
use Rattle.ct_terms.specs.Terms.{IsBoolean}
use Rattle.test_derivations.proofs.table.asserts_of.Given as goal

abbrev pub invariant-loop-part : goal.invariant-loop-part
invariant-loop-part l = All (IsBoolean l.table) l.asserts.items
