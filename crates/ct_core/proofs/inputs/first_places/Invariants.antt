use Rattle.ct_core.specs.Inputs.{IsChosen}
use Rattle.ct_core.proofs.inputs.first_places.Given as goal

abbrev pub invariant-loop-place : goal.invariant-loop-place
invariant-loop-place l = IsChosen l.asserts l.initial.marks.items l.place l.chosen.places.items l.chosen.terms.items l.marks.items
