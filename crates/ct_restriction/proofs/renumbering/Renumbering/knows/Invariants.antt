use Rattle.std.proofs.Common.{All, take}
use Rattle.ct_restriction.specs.Renumbered.{IsKnown}
use Rattle.ct_restriction.proofs.renumbering.Renumbering.knows.Given as goal

abbrev pub invariant-loop-t : goal.invariant-loop-t
invariant-loop-t l = All (IsKnown l.self) (take l.t-index l.terms)
