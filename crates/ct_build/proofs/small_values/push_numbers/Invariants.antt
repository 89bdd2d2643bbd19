use Rattle.std.proofs.Common.{List, length, ◌-◌}
use Rattle.ct_values.specs.declared.node.NodeId.{NodeId}
use Rattle.ct_card.specs.Made.{IsPrepared}
use Rattle.ct_build.specs.Chosen.{AreChosen}
use Rattle.ct_build.proofs.small_values.push_numbers.Given as goal

abbrev pub invariant-loop-chosen : goal.invariant-loop-chosen
invariant-loop-chosen l = record {
  prepared : IsPrepared l.classes.declarations l.sizes l.chosen.graph l.chosen.prepared;
  chosen : (defaults : List NodeId) → AreChosen l.classes l.initial.chosen.graph defaults l.unbuilt l.initial.chosen.nodes.items → AreChosen l.classes l.chosen.graph defaults l.unbuilt l.chosen.nodes.items;
}

abbrev pub decreases-loop-chosen : goal.decreases-loop-chosen
decreases-loop-chosen l = length l.unbuilt - length l.chosen.nodes.items
