use Rattle.std.proofs.Common.{◌≡◌, ℕ, length, slice_get, Some}
use Rattle.ct_sorts.specs.declared.ids.SortId.{SortId}
use Rattle.ct_values.specs.Agreement.{Point}
use Rattle.ct_card.specs.Nth.{IsNth}
use Rattle.ct_terms.specs.Terms.{IsOfSort}
use Rattle.ct_build.specs.declared.open_classes.OpenClass.{OpenClass}
use Rattle.ct_build.specs.Trials.{AreRefused}
use Rattle.ct_build.proofs.choice.settle.Given as goal

abbrev pub invariant-loop-number : goal.invariant-loop-number
invariant-loop-number l = record {
  same : l.chosen ≡ l.initial.chosen;
  refused : (class : OpenClass) (s : SortId) → slice_get l.unbuilt (length l.initial.chosen.nodes.items) ≡ Some class → IsOfSort l.classes.terms class.rep s → AreRefused l.classes (λ (n : ℕ) (p : Point). IsNth l.classes.declarations l.sizes s.0 n p) l.initial.chosen.graph l.defaults l.unbuilt l.initial.chosen.nodes.items 0 l.number;
}
