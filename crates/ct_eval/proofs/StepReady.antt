-- What is known before a step: the terms under the term have nodes.
use Rattle.std.proofs.Common.{ℕ, ◌<◌, List, map, length, All}
use Rattle.std.proofs.lemmas.List.Elements.{All-from_recursion}
use Rattle.ct_sorts.specs.declared.ids.CtorId.{CtorId}
use Rattle.ct_sorts.specs.declared.ids.SelId.{SelId}
use Rattle.ct_sorts.specs.Declarations.{Declarations, bool_sort}
use Rattle.ct_values.specs.declared.node.NodeId.{NodeId}
use Rattle.ct_values.specs.Graph.{Nodes}
use Rattle.ct_values.specs.Value.{Value}
use Rattle.ct_terms.specs.declared.ids.TermId.{TermId}
use Rattle.ct_terms.specs.declared.term.Core.{Core}
use Rattle.ct_terms.specs.declared.term.Core.TheVariants.{Con, Sel, Test, Eq, Not, And, Or, Iff, Ite}
use Rattle.ct_terms.specs.Terms.{Terms, Has, AreSorted, HasArgumentsBelow}
use Rattle.ct_eval.specs.declared.interp.Interp.{Interp}
use Rattle.ct_eval.specs.EvaluationStep.{AreValued, HasNode, node_under, IsEvaluable}
use Rattle.ct_eval.proofs.StepTerms.{fields_sorted, booleans_sorted, has_node, have_nodes, are_representatives, first_within}

module _ (d : Declarations) (i : Interp) (g : Nodes) (nodes : List NodeId) where
  pub ready_Con : (c : CtorId) (args : List TermId) → IsEvaluable d i g nodes (Con c args) → All (λ n. n.0 < length g) (map (node_under nodes) args)
  ready_Con c args r =
      first_within i.graph g (map (node_under nodes) args) (map r.value args) (are_representatives d i r.terms g nodes r.value r.valued args (fields_sorted d r.terms args r.sorted.ctor.sels r.sorted.fields) r.below)

  pub ready_Test : (c : CtorId) (t : TermId) → IsEvaluable d i g nodes (Test c t) → HasNode g nodes t
  ready_Test c t r = has_node d i r.terms g nodes r.value r.valued t r.sorted.ctor.sort r.sorted.sorted r.below.0

  pub ready_Sel : (s : SelId) (t : TermId) → IsEvaluable d i g nodes (Sel s t) → HasNode g nodes t
  ready_Sel s t r = has_node d i r.terms g nodes r.value r.valued t r.sorted.ctor.sort r.sorted.sorted r.below.0

  pub ready_Eq : (a b : TermId) → IsEvaluable d i g nodes (Eq a b) → HasNode g nodes a × HasNode g nodes b
  ready_Eq a b r = (
    has_node d i r.terms g nodes r.value r.valued a r.sorted.side r.sorted.left r.below.0,
    has_node d i r.terms g nodes r.value r.valued b r.sorted.side r.sorted.right r.below.1.0,
  )

  pub ready_Not : (t : TermId) → IsEvaluable d i g nodes (Not t) → HasNode g nodes t
  ready_Not t r = has_node d i r.terms g nodes r.value r.valued t bool_sort r.sorted.0 r.below.0

  pub ready_And : (args : List TermId) → IsEvaluable d i g nodes (And args) → All (HasNode g nodes) args
  ready_And args r =
      All-from_recursion (HasNode g nodes) args (have_nodes d i r.terms g nodes r.value r.valued args (booleans_sorted r.terms args r.sorted.booleans) r.below)

  pub ready_Or : (args : List TermId) → IsEvaluable d i g nodes (Or args) → All (HasNode g nodes) args
  ready_Or args r =
      All-from_recursion (HasNode g nodes) args (have_nodes d i r.terms g nodes r.value r.valued args (booleans_sorted r.terms args r.sorted.booleans) r.below)

  pub ready_Iff : (a b : TermId) → IsEvaluable d i g nodes (Iff a b) → HasNode g nodes a × HasNode g nodes b
  ready_Iff a b r = (
    has_node d i r.terms g nodes r.value r.valued a bool_sort r.sorted.0 r.below.0,
    has_node d i r.terms g nodes r.value r.valued b bool_sort r.sorted.1 r.below.1.0,
  )

  pub ready_Ite : (c a b : TermId) → IsEvaluable d i g nodes (Ite c a b) → HasNode g nodes c × HasNode g nodes a × HasNode g nodes b
  ready_Ite c a b r = (
    has_node d i r.terms g nodes r.value r.valued c bool_sort r.sorted.0 r.below.0,
    has_node d i r.terms g nodes r.value r.valued a r.sort r.sorted.1 r.below.1.0,
    has_node d i r.terms g nodes r.value r.valued b r.sort r.sorted.2 r.below.1.1.0,
  )

-- a term of a well-sorted table is ready where the terms before it have their nodes
pub ready_at : (d : Declarations) (i : Interp) (terms : Terms) (g : Nodes) (nodes : List NodeId) (value : TermId → Value) (t : ℕ) (core : Core) → AreValued d i terms g nodes value → AreSorted d terms → Has terms core t → HasArgumentsBelow (length nodes) core → IsEvaluable d i g nodes core
ready_at d i terms g nodes value t core valued sorted has below =
    record { terms = terms; value = value; sort = has.0; valued = valued; sorted = sorted t core has.0 has.1; below = below }
