use Rattle.std.proofs.Common.{All, take}
use Rattle.ct_restriction.specs.Restricted.{IsMarked}
use Rattle.ct_kept.proofs.naming.are_marked.Given as goal

abbrev pub invariant-loop-t : goal.invariant-loop-t
invariant-loop-t l = All (IsMarked l.marks) (take l.t-index l.terms)
