use Rattle.std.proofs.Common.{take}
use Rattle.ct_core.specs.Core.{AreAt}
use Rattle.ct_shrink.proofs.asking.chosen_terms.Given as goal

abbrev pub invariant-loop-place : goal.invariant-loop-place
invariant-loop-place l = AreAt l.asserts (take l.place-index l.places) l.terms.items
