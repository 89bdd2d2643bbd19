use Rattle.std.proofs.Common.{ℕ, ◌-◌, length}
use Rattle.ct_sorts.specs.declared.ids.SortId.{SortId}
use Rattle.ct_card.specs.Made.{IsPrepared}
use Rattle.ct_card.specs.Nth.{IsNth}
use Rattle.ct_values.specs.Agreement.{Point}
use Rattle.ct_build.specs.Chosen.{AreChosen, AreSpread}
use Rattle.ct_build.proofs.choice.push_all.Given as goal

abbrev pub invariant-loop-chosen : goal.invariant-loop-chosen
invariant-loop-chosen l = record {
  are_chosen : AreChosen l.classes l.chosen.graph l.defaults l.unbuilt l.chosen.nodes.items;
  spread : AreSpread l.classes (λ (s : SortId) (n : ℕ) (p : Point). IsNth l.classes.declarations l.sizes s.0 n p) l.gap l.unbuilt (length l.initial.chosen.nodes.items) l.chosen.graph l.chosen.nodes.items;
  prepared : IsPrepared l.classes.declarations l.sizes l.chosen.graph l.chosen.prepared;
}

abbrev pub decreases-loop-chosen : goal.decreases-loop-chosen
decreases-loop-chosen l = length l.unbuilt - length l.chosen.nodes.items
