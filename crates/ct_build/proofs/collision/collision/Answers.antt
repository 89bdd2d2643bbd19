use Rattle.std.proofs.Common.{◌≡◌, ℕ, ◌<◌, List, Some, length, slice_get, sym, ◌∙◌, ap, subst}
use Rattle.ct_sorts.specs.Grown.{Begins}
use Rattle.ct_values.specs.declared.node.NodeId.{NodeId}
use Rattle.ct_values.specs.Graph.{Nodes, IsClosed}
use Rattle.ct_terms.specs.declared.ids.TermId.{TermId}
use Rattle.ct_congr.specs.State.{AreEqual}
use Rattle.ct_eval.specs.EvaluationStep.{node_under}
use Rattle.ct_build.specs.ClassValues.{AreApart, Collide}
use Rattle.ct_build.specs.Nodes.{term_point, AreAssigned}
use Rattle.ct_build.specs.Chosen.{AreGiven}
use Rattle.ct_build.proofs.AnswerLemmas.{if_none, if_some}
use Rattle.ct_build.proofs.DefaultLemmas.{all_sorts_longer}
use Rattle.ct_build.proofs.KnownLemmas.{chosen_within, values_over}
use Rattle.ct_build.proofs.ValueLemmas.{given_within}
use Rattle.ct_build.proofs.collision.collision.Goals as goal

pub given_values-requires-clause-defaults : goal.given_values-requires-clause-defaults
given_values-requires-clause-defaults c = c.requires.chosen.of_sorts.long

pub given_values-requires-clause-within : goal.given_values-requires-clause-within
given_values-requires-clause-within c =
    subst (λ (l : List NodeId). (i : ℕ) (n : NodeId) → slice_get l i ≡ Some n → n.0 < length c.in_ok-scratch.scratch) (sym c.deref.ensures.value)
    (subst (λ (h : Nodes). (i : ℕ) (n : NodeId) → slice_get c.args.chosen.now.nodes.items i ≡ Some n → n.0 < length h) (sym c.in_ok-scratch.ensures.value)
    (chosen_within c.args.classes.now c.known.ensures.known c.requires.buildable.0 c.requires.buildable.1 c.args.defaults.now c.args.unbuilt.now c.requires.classes c.args.chosen.now.graph c.args.chosen.now.nodes.items c.requires.chosen))

pub class_graph-requires-clause-quiet : goal.class_graph-requires-clause-quiet
class_graph-requires-clause-quiet c = c.requires.buildable.1.quiet

pub class_graph-requires-clause-own : goal.class_graph-requires-clause-own
class_graph-requires-clause-own c = c.requires.buildable.1.own

pub class_graph-requires-clause-long : goal.class_graph-requires-clause-long
class_graph-requires-clause-long c = ap length c.deref-2.ensures.value ∙ c.in_ok-values.ensures.given.long

pub class_graph-requires-clause-within : goal.class_graph-requires-clause-within
class_graph-requires-clause-within c =
    let state = c.args.classes.now in
    let g1 = c.given_values.new.g in
    let values = c.in_ok-values.values.items in
    let grown : Begins c.args.chosen.now.graph g1 = subst (λ (h : Nodes). Begins h g1) c.in_ok-scratch.ensures.value c.in_ok-values.ensures.grown in
    subst (λ (l : List NodeId). (t : ℕ) (n : NodeId) → slice_get l t ≡ Some n → n.0 < length g1) (sym c.deref-2.ensures.value)
    (given_within state g1 c.args.defaults.now c.args.unbuilt.now c.deref.result.now values (all_sorts_longer state.declarations c.args.chosen.now.graph g1 c.args.defaults.now grown c.requires.chosen.of_sorts) c.in_ok-values.ensures.given)

pub first_collision-requires : goal.first_collision-requires
first_collision-requires c =
    let state = c.args.classes.now in
    let assigned = c.in_ok-nodes.ensures.assigned in
    record {
      own = c.requires.buildable.1.own;
      long = ap length c.deref-3.ensures.value ∙ assigned.long;
      within = subst (λ (h : Nodes). (t : ℕ) (n : NodeId) → slice_get c.deref-3.result.now t ≡ Some n → n.0 < length h) (sym c.in_ok-shared.ensures.value)
          (subst (λ (l : List NodeId). (t : ℕ) (n : NodeId) → slice_get l t ≡ Some n → n.0 < length c.class_graph.new.g) (sym c.deref-3.ensures.value) assigned.within);
      one_node = subst (λ (l : List NodeId). (t u : TermId) → AreEqual state t u → node_under l t ≡ node_under l u) (sym c.deref-3.ensures.value) assigned.one_node;
    }

pub returns-clause-none : goal.returns-clause-none
returns-clause-none c =
    let state = c.args.classes.now in
    let g0 = c.args.chosen.now.graph in
    let g1 = c.given_values.new.g in
    let g2 = c.class_graph.new.g in
    let chosen = c.args.chosen.now.nodes.items in
    let values = c.in_ok-values.values.items in
    let nodes = c.in_ok-nodes.nodes.items in
    let grown : Begins g0 g1 = subst (λ (h : Nodes). Begins h g1) c.in_ok-scratch.ensures.value c.in_ok-values.ensures.grown in
    let given : AreGiven state g1 c.args.defaults.now c.args.unbuilt.now chosen values = subst (λ (l : List NodeId). AreGiven state g1 c.args.defaults.now c.args.unbuilt.now l values) c.deref.ensures.value c.in_ok-values.ensures.given in
    let assigned : AreAssigned state g1 values g2 nodes = subst (λ (l : List NodeId). AreAssigned state g1 l g2 nodes) c.deref-2.ensures.value c.in_ok-nodes.ensures.assigned in
    let closed : IsClosed g2 = subst (λ (h : Nodes). IsClosed h) c.in_ok-shared.ensures.value c.in_ok-found.ensures.closed in
    let are = values_over state c.known.ensures.known c.requires.buildable.0 c.requires.buildable.1 c.args.defaults.now c.args.unbuilt.now c.requires.classes g0 chosen c.requires.chosen g1 values grown given g2 closed nodes assigned in
    if_none (AreApart state (term_point c.in_ok-shared.shared c.deref-3.result.now)) _ c.in_ok-found.found
    (λ apart. record {
      value = term_point g2 nodes;
      values = are;
      apart = subst (λ (l : List NodeId). AreApart state (term_point g2 l)) c.deref-3.ensures.value (subst (λ (h : Nodes). AreApart state (term_point h c.deref-3.result.now)) c.in_ok-shared.ensures.value apart);
    }) c.in_ok-found.ensures.none

pub returns-clause-some : goal.returns-clause-some
returns-clause-some c =
    let state = c.args.classes.now in
    let g0 = c.args.chosen.now.graph in
    let g1 = c.given_values.new.g in
    let g2 = c.class_graph.new.g in
    let chosen = c.args.chosen.now.nodes.items in
    let values = c.in_ok-values.values.items in
    let nodes = c.in_ok-nodes.nodes.items in
    let grown : Begins g0 g1 = subst (λ (h : Nodes). Begins h g1) c.in_ok-scratch.ensures.value c.in_ok-values.ensures.grown in
    let given : AreGiven state g1 c.args.defaults.now c.args.unbuilt.now chosen values = subst (λ (l : List NodeId). AreGiven state g1 c.args.defaults.now c.args.unbuilt.now l values) c.deref.ensures.value c.in_ok-values.ensures.given in
    let assigned : AreAssigned state g1 values g2 nodes = subst (λ (l : List NodeId). AreAssigned state g1 l g2 nodes) c.deref-2.ensures.value c.in_ok-nodes.ensures.assigned in
    let closed : IsClosed g2 = subst (λ (h : Nodes). IsClosed h) c.in_ok-shared.ensures.value c.in_ok-found.ensures.closed in
    let are = values_over state c.known.ensures.known c.requires.buildable.0 c.requires.buildable.1 c.args.defaults.now c.args.unbuilt.now c.requires.classes g0 chosen c.requires.chosen g1 values grown given g2 closed nodes assigned in
    if_some (λ pair. Collide state (term_point c.in_ok-shared.shared c.deref-3.result.now) pair.0 pair.1) _ c.in_ok-found.found
    (λ pair collide. record {
      value = term_point g2 nodes;
      values = are;
      collide = subst (λ (l : List NodeId). Collide state (term_point g2 l) pair.0 pair.1) c.deref-3.ensures.value (subst (λ (h : Nodes). Collide state (term_point h c.deref-3.result.now) pair.0 pair.1) c.in_ok-shared.ensures.value collide);
    }) c.in_ok-found.ensures.some
