use Rattle.std.proofs.Common.{◌≡◌, ◌-◌, length}
use Rattle.ct_card.specs.Made.{IsPrepared}
use Rattle.ct_build.specs.ClassValues.{AreApartWith}
use Rattle.ct_build.specs.Chosen.{AreChosen}
use Rattle.ct_build.proofs.choice.choose.Given as goal

abbrev pub invariant-loop-gap : goal.invariant-loop-gap
invariant-loop-gap l = l.chosen ≡ l.initial.chosen

abbrev pub invariant-loop-alloc : goal.invariant-loop-alloc
invariant-loop-alloc l = record {
  are_chosen : AreChosen l.classes l.chosen.graph l.defaults l.unbuilt l.chosen.nodes.items;
  apart : AreApartWith l.classes l.chosen.graph l.defaults l.unbuilt l.chosen.nodes.items;
  prepared : IsPrepared l.classes.declarations l.sizes l.chosen.graph l.chosen.prepared;
}

abbrev pub decreases-loop-alloc : goal.decreases-loop-alloc
decreases-loop-alloc l = length l.unbuilt - length l.chosen.nodes.items
