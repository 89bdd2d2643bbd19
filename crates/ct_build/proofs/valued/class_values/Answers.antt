use Rattle.std.proofs.Common.{◌≡◌, ℕ, ◌<◌, List, length, slice_get, Some, sym, ◌∙◌, ap, subst, arith}
use Rattle.ct_sorts.specs.Grown.{Begins}
use Rattle.ct_values.specs.declared.node.NodeId.{NodeId}
use Rattle.ct_values.specs.Graph.{Nodes}
use Rattle.ct_values.specs.WellFormed.{IsWellFormedGraph}
use Rattle.ct_build.specs.Nodes.{AreAssigned, HaveSortedNodes}
use Rattle.ct_build.specs.Chosen.{AreGiven}
use Rattle.ct_build.proofs.DefaultLemmas.{all_sorts_longer}
use Rattle.ct_build.proofs.KnownLemmas.{chosen_within, valued_over}
use Rattle.ct_build.proofs.ValueLemmas.{given_sorted, given_within}
use Rattle.ct_build.proofs.valued.class_values.Goals as goal

pub given_values-requires-clause-defaults : goal.given_values-requires-clause-defaults
given_values-requires-clause-defaults c = c.requires.all.are_chosen.of_sorts.long

pub given_values-requires-clause-within : goal.given_values-requires-clause-within
given_values-requires-clause-within c = chosen_within c.args.classes.now c.known.ensures.known c.requires.buildable.0 c.requires.buildable.1 c.args.defaults.now c.args.unbuilt.now c.requires.classes c.args.g.now c.args.chosen.now c.requires.all.are_chosen

pub class_graph-requires-clause-quiet : goal.class_graph-requires-clause-quiet
class_graph-requires-clause-quiet c = c.requires.buildable.1.quiet

pub class_graph-requires-clause-own : goal.class_graph-requires-clause-own
class_graph-requires-clause-own c = c.requires.buildable.1.own

pub class_graph-requires-clause-long : goal.class_graph-requires-clause-long
class_graph-requires-clause-long c = ap length c.deref.ensures.value ∙ c.in_ok-values.ensures.given.long

pub class_graph-requires-clause-within : goal.class_graph-requires-clause-within
class_graph-requires-clause-within c =
    let state = c.args.classes.now in
    let g = c.given_values.new.g in
    let of_sorts = all_sorts_longer state.declarations c.args.g.now g c.args.defaults.now c.in_ok-values.ensures.grown c.requires.all.are_chosen.of_sorts in
    subst (λ (l : List NodeId). (t : ℕ) (n : NodeId) → slice_get l t ≡ Some n → n.0 < length g) (sym c.deref.ensures.value)
    (given_within state g c.args.defaults.now c.args.unbuilt.now c.args.chosen.now c.in_ok-values.values.items of_sorts c.in_ok-values.ensures.given)

pub returns : goal.returns
returns c =
    let state = c.args.classes.now in
    let d = state.declarations in
    let known = c.known.ensures.known in
    let defaults = c.args.defaults.now in
    let unbuilt = c.args.unbuilt.now in
    let chosen = c.args.chosen.now in
    let before = c.args.g.now in
    let g = c.given_values.new.g in
    let longer = c.class_graph.new.g in
    let values = c.in_ok-values.values.items in
    let nodes = c.in_ok-nodes.nodes.items in
    let all = c.requires.all in
    let kept : g ≡ before = c.in_ok-values.ensures.kept (omega (arith, all.all)) in
    let given : AreGiven state before defaults unbuilt chosen values = subst (λ (h : Nodes). AreGiven state h defaults unbuilt chosen values) kept c.in_ok-values.ensures.given in
    let assigned : AreAssigned state before values longer nodes =
    subst (λ (h : Nodes). AreAssigned state h values longer nodes) kept
    (subst (λ (l : List NodeId). AreAssigned state g l longer nodes) c.deref.ensures.value c.in_ok-nodes.ensures.assigned) in
    let grown : Begins before longer = subst (λ (h : Nodes). Begins h longer) kept c.in_ok-nodes.ensures.grown in
    let formed : IsWellFormedGraph d g = subst (λ (h : Nodes). IsWellFormedGraph d h) (sym kept) all.are_chosen.formed in
    let have : HaveSortedNodes d state.terms g c.deref.result.now =
    subst (λ (l : List NodeId). HaveSortedNodes d state.terms g l) (sym c.deref.ensures.value)
    (subst (λ (h : Nodes). HaveSortedNodes d state.terms h values) (sym kept) (given_sorted state before defaults unbuilt chosen values all.are_chosen all.all given)) in
    let sorted = c.in_ok-nodes.ensures.sorted formed have in
    record {
      well_formed = sorted.0;
      nodes = sorted.1;
      defaults = all_sorts_longer d before longer defaults grown all.are_chosen.of_sorts;
      valued = valued_over state known c.requires.buildable.0 c.requires.buildable.1 defaults unbuilt c.requires.classes before chosen values all given longer grown (known.closed longer sorted.0.fits) nodes assigned;
    }
