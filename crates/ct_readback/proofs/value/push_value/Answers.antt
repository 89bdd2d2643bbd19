use Rattle.std.proofs.Common.{Option, sym, subst, ◌∙◌}
use Rattle.ct_sexpr.specs.View.{expression_of}
use Rattle.ct_values.specs.declared.node.NodeId.{NodeId}
use Rattle.ct_readback.specs.declared.value.Said.TheVariants as said
use Rattle.ct_readback.specs.Trees.{tree_at}
use Rattle.ct_readback.specs.TreeNode.{IsNodeOf}
use Rattle.ct_readback.proofs.AnswerLemmas.{ok_map}
use Rattle.ct_readback.proofs.SaidLemmas.{value_of_graph, value_of_tree, tree_unsaid, tree_said}
use Rattle.ct_readback.proofs.value.push_value.Goals as goal

pub returns-then-begins_graph-clause-said : goal.returns-then-begins_graph-clause-said
returns-then-begins_graph-clause-said c =
    ok_map _ _ c.push_graph.result
    (λ found h. value_of_graph c.args.sig.now c.push_graph.new.graph c.args.s (expression_of c.args.expr.now) found (sym c.begins_graph.ensures.value ∙ c.if-begins_graph.true) h)
    c.push_graph.ensures.said

pub returns-in-None-clause-said : goal.returns-in-None-clause-said
returns-in-None-clause-said c =
    let d = c.args.sig.now in
    let g = c.push_tree.new.graph in
    let e = expression_of c.args.expr.now in
    value_of_tree d g c.args.s e said.Nothing (sym c.begins_graph.ensures.value ∙ c.if-begins_graph.false)
    (tree_unsaid d g c.args.s e (subst (λ (o : Option NodeId). IsNodeOf d c.args.s (tree_at d c.args.s e) g o) c.in-None.is c.in_ok-push_tree.ensures.node))

pub returns-in-Some-clause-said : goal.returns-in-Some-clause-said
returns-in-Some-clause-said c =
    let d = c.args.sig.now in
    let g = c.push_tree.new.graph in
    let e = expression_of c.args.expr.now in
    value_of_tree d g c.args.s e (said.Value c.in-Some.n) (sym c.begins_graph.ensures.value ∙ c.if-begins_graph.false)
    (tree_said d g c.args.s e c.in-Some.n (subst (λ (o : Option NodeId). IsNodeOf d c.args.s (tree_at d c.args.s e) g o) c.in-Some.is c.in_ok-push_tree.ensures.node))
