use Rattle.std.proofs.Common.{All}
use Rattle.ct_sorts.specs.Declarations.{IsSort}
use Rattle.ct_cases.proofs.declarations.sorts_of.Given as goal

abbrev pub invariant-loop-part : goal.invariant-loop-part
invariant-loop-part l = All (IsSort l.sig) l.sorts.items
