use Rattle.std.proofs.Common.{◌≡◌, ℕ, ◌<◌, List, length, slice_get, Some, sym, ◌∙◌, ap, subst}
use Rattle.ct_values.specs.declared.node.NodeId.{NodeId}
use Rattle.ct_build.specs.Chosen.{AreGiven}
use Rattle.ct_build.proofs.DefaultLemmas.{all_sorts_longer}
use Rattle.ct_build.proofs.SmallLemmas.{chosen_below}
use Rattle.ct_build.proofs.ValueLemmas.{given_within}
use Rattle.ct_build.proofs.small_values.nodes_over.Goals as goal

pub given_values-requires-clause-defaults : goal.given_values-requires-clause-defaults
given_values-requires-clause-defaults c = ap length c.deref.ensures.value ∙ c.requires.chosen.of_sorts.long

pub given_values-requires-clause-within : goal.given_values-requires-clause-within
given_values-requires-clause-within c = chosen_below c.args.classes.now c.args.graph c.args.defaults.items c.args.unbuilt.now c.args.chosen.now c.requires.classes c.requires.chosen

pub class_graph-requires-clause-long : goal.class_graph-requires-clause-long
class_graph-requires-clause-long c = ap length c.deref-2.ensures.value ∙ c.in_ok-values.ensures.given.long

pub class_graph-requires-clause-within : goal.class_graph-requires-clause-within
class_graph-requires-clause-within c =
    let state = c.args.classes.now in
    let g = c.given_values.new.g in
    let defaults = c.args.defaults.items in
    let unbuilt = c.args.unbuilt.now in
    let chosen = c.args.chosen.now in
    let values = c.in_ok-values.values.items in
    let of_sorts = all_sorts_longer state.declarations c.args.graph g defaults c.in_ok-values.ensures.grown c.requires.chosen.of_sorts in
    let given : AreGiven state g defaults unbuilt chosen values = subst (λ (l : List NodeId). AreGiven state g l unbuilt chosen values) c.deref.ensures.value c.in_ok-values.ensures.given in
    subst (λ (l : List NodeId). (t : ℕ) (n : NodeId) → slice_get l t ≡ Some n → n.0 < length g) (sym c.deref-2.ensures.value)
    (given_within state g defaults unbuilt chosen values of_sorts given)
