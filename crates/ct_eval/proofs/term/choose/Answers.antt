use Rattle.std.proofs.Common.{◌≡◌, Bool, true, false, if◌then◌else◌, ap, sym, subst, ◌∙◌}
use Rattle.ct_sorts.specs.declared.ids.SortId.{SortId}
use Rattle.ct_sorts.specs.Declarations.{Declarations, bool_sort}
use Rattle.ct_values.specs.declared.node.NodeId.{NodeId}
use Rattle.ct_values.specs.Graph.{Nodes}
use Rattle.ct_values.specs.Value.{Value}
use Rattle.ct_eval.specs.declared.interp.Interp.{Interp}
use Rattle.ct_values.specs.TruthValue.{is_true}
use Rattle.ct_eval.specs.EvaluationStep.{HasValue, node_under}
use Rattle.ct_eval.proofs.StepTerms.{true_alike, valued_under}
use Rattle.ct_eval.proofs.StepReady.{ready_Ite}
use Rattle.ct_eval.proofs.term.choose.Goals as goal

pub is_true-requires : goal.is_true-requires
is_true-requires c =
    let r = c.requires.ready in
    record { there = (ready_Ite r.0 r.1 c.args.shared.now c.args.nodes.now c.args.c c.args.a c.args.b r.2).0 }

pub node_at-requires : goal.node_at-requires
node_at-requires c =
    let r = c.requires.ready in
    record { there = (ready_Ite r.0 r.1 c.args.shared.now c.args.nodes.now c.args.c c.args.a c.args.b r.2).1 }

pub node_at-requires-2 : goal.node_at-requires-2
node_at-requires-2 c =
    let r = c.requires.ready in
    record { there = (ready_Ite r.0 r.1 c.args.shared.now c.args.nodes.now c.args.c c.args.a c.args.b r.2).2 }

-- the choice by a test is what it chooses
choice : (b : Bool) (v w : Value) (test : Bool) → b ≡ test → (if test then v else w) ≡ (if b then v else w)
choice b v w test is = ap (λ (x : Bool). if x then v else w) (sym is)

-- the chosen node is the value of the choice
chosen : (d : Declarations) (i : Interp) (g : Nodes) (u : Value) (sort : SortId) (m n : NodeId) → {x : Value} → x ≡ u → n ≡ m → HasValue d i g u sort m → HasValue d i g x sort n
chosen d i g u sort m n is one h = subst (λ (y : Value). HasValue d i g y sort n) (sym is) (subst (λ (k : NodeId). HasValue d i g u sort k) (sym one) h)

pub returns-then-is_true : goal.returns-then-is_true
returns-then-is_true c = record {
  value = λ d i fits terms value sort valued sorted.
      let g = c.args.shared.now in
      let nodes = c.args.nodes.now in
      let below = c.requires.ready.2.below in
      let test : true ≡ is_true i.graph (value c.args.c) = sym c.if-is_true.true ∙ c.is_true.ensures.value ∙ true_alike d i terms g nodes value valued c.theorems.ensures.theorems c.args.c bool_sort sorted.0 below.0 in
      (fits, chosen d i g (value c.args.a) sort (node_under nodes c.args.a) c.node_at.result (choice true (value c.args.a) (value c.args.b) (is_true i.graph (value c.args.c)) test) c.node_at.ensures.value (valued_under d i terms g nodes value valued c.args.a sort sorted.1 below.1.0));
}

pub returns : goal.returns
returns c = record {
  value = λ d i fits terms value sort valued sorted.
      let g = c.args.shared.now in
      let nodes = c.args.nodes.now in
      let below = c.requires.ready.2.below in
      let test : false ≡ is_true i.graph (value c.args.c) = sym c.if-is_true.false ∙ c.is_true.ensures.value ∙ true_alike d i terms g nodes value valued c.theorems.ensures.theorems c.args.c bool_sort sorted.0 below.0 in
      (fits, chosen d i g (value c.args.b) sort (node_under nodes c.args.b) c.node_at-2.result (choice false (value c.args.a) (value c.args.b) (is_true i.graph (value c.args.c)) test) c.node_at-2.ensures.value (valued_under d i terms g nodes value valued c.args.b sort sorted.2 below.1.1.0));
}
