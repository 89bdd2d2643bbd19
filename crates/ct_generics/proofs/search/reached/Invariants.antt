use Rattle.std.proofs.Common.{◌+◌, length}
use Rattle.ct_generics.specs.Marks.{unmarked}
use Rattle.ct_generics.specs.Search.{IsSearch}
use Rattle.ct_generics.proofs.search.reached.Given as goal

abbrev pub invariant-loop-i : goal.invariant-loop-i
invariant-loop-i l = IsSearch l.graph l.start l.marks.items l.stack.items

abbrev pub decreases-loop-i : goal.decreases-loop-i
decreases-loop-i l = unmarked l.marks.items + length l.stack.items
