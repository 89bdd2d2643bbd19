use Rattle.std.proofs.Common.{◌≡◌, ◌+◌, ◌-◌, List, Option, Some, IfOk, length, get_or, take, drop, slice_get, refl, sym, ap, subst, ◌∙◌, arith}
use Rattle.std.proofs.lemmas.Option.{slice_get-get_or}
use Rattle.ct_sorts.specs.declared.ids.SelId.{SelId}
use Rattle.ct_sorts.proofs.PieceLemmas.{Begins-self, Begins-trans}
use Rattle.ct_sexpr.specs.Expression.{Expressions}
use Rattle.ct_sexpr.specs.View.{expression_of, expressions_of}
use Rattle.ct_values.specs.declared.node.NodeId.{NodeId}
use Rattle.ct_readback.specs.Trees.{tree_at, application_at}
use Rattle.ct_readback.specs.TreeNode.{IsNodeOf, AreNodesOf}
use Rattle.ct_readback.proofs.NestingLemmas.{nests_item}
use Rattle.ct_readback.proofs.RestLemmas.{count_of, items_split}
use Rattle.ct_readback.proofs.AnswerLemmas.{ok_map}
use Rattle.ct_readback.proofs.ApplicationLemmas.{element_free, application_args, application_node}
use Rattle.ct_readback.proofs.TreeSteps.{AreTreesSoFar, trees_start, trees_uncounted}
use Rattle.ct_readback.proofs.IndexLemmas.{field_sort_is, tree_next, tree_all}
use Rattle.ct_readback.proofs.trees.+push_tree.Goals as goal

abbrev zeroth : SelId
zeroth = record { 0 = 0 }

pub push_application-returns-in-Some-pushed-clause-node : goal.push_application-returns-in-Some-pushed-clause-node
push_application-returns-in-Some-pushed-clause-node t c =
    let d = c.args.sig.now in
    let items = c.args.items.now in
    let head = expression_of c.head-item.result in
    let es = expressions_of (take (length items - 1) (drop 1 items)) in
    let fields = c.ctor_sels.result.now in
    let split = items_split items c.head-item.result c.in-len1-up.len_at_least c.head-item.is in
    let args = application_args d fields es c.push_trees.new.graph c.in-Some-pushed.children
    (subst (λ (o : Option (List NodeId)). AreNodesOf d fields es c.push_trees.new.graph o) c.in-Some-pushed.is c.in_ok-pushed.ensures.nodes) in
    subst (λ (all : Expressions). IfOk c.push_constructor.result (IsNodeOf d c.args.s (application_at d c.args.s all) c.push_constructor.new.graph)) (sym split)
    (ok_map _ _ c.push_constructor.result
    (λ found h. application_node d c.args.s c.push_constructor.new.graph head es c.in-Some.c fields args.0 found (sym c.in-Some.ensures.value) c.ctor_sels.ensures.value c.in-Some.ensures.sort args.1 (h fields args.0 c.ctor_sels.ensures.value args.2))
    c.push_constructor.ensures.node)

pub push_tree-push_element-requires-clause-free : goal.push_tree-push_element-requires-clause-free
push_tree-push_element-requires-clause-free t c = element_free c.args.sig.now c.args.s (expression_of c.args.expr.now) c.in-Some.number (sym c.in-Some.ensures.value)

pub push_trees-returns-then-fields-exprs-clause-nodes : goal.push_trees-returns-then-fields-exprs-clause-nodes
push_trees-returns-then-fields-exprs-clause-nodes t c =
    trees_uncounted c.args.sig.now c.args.graph.now c.args.fields.now (expressions_of c.args.exprs.now) (λ same. omega (arith, c.if-fields-exprs.true, same, count_of c.args.exprs.now))

pub push_trees-loop-expr-init : goal.push_trees-loop-expr-init
push_trees-loop-expr-init t c =
    let d = c.args.sig.now in
    let g = c.args.graph.now in
    let fields = c.args.fields.now in
    let es = expressions_of c.args.exprs.now in (
      refl,
      omega (arith, c.if-fields-exprs.false),
      Begins-self g,
      c.requires.well_formed,
      subst (λ (ns : List NodeId). AreTreesSoFar d g fields es fields es ns) (sym c.new-nodes.ensures.items) (trees_start d g fields es),
    )

pub push_trees-push_tree-requires : goal.push_trees-push_tree-requires
push_trees-push_tree-requires t c = (
  omega (arith, nests_item c.args.exprs.now c.loop-expr.expr-index c.expr-item.result c.loop-expr-test.true c.expr-item.is, c.decreases),
  (c.sel_sort.ensures.sort, c.loop-expr.invariant.3),
)

pub push_trees-loop-expr-preserved : goal.push_trees-loop-expr-preserved
push_trees-loop-expr-preserved t c =
    let d = c.args.sig.now in
    let fields = c.args.fields.now in
    let exprs = c.args.exprs.now in
    let i = c.loop-expr.expr-index in
    let held = c.loop-expr.invariant in
    let s = get_or fields c.loop-expr.place zeroth in
    let sort = c.sel_sort.result in
    let x = c.expr-item.result in
    let at : slice_get fields i ≡ Some s = ap (slice_get fields) (sym held.0) ∙ slice_get-get_or fields c.loop-expr.place zeroth (omega (arith, c.loop-expr-test.true, held.0, held.1)) in
    let found = subst (λ (o : Option NodeId). IsNodeOf d sort (tree_at d sort (expression_of x)) c.push_tree.new.graph o) c.in-Some.is c.in_ok-found.ensures.node in (
      ap (λ n. n + 1) held.0,
      held.1,
      Begins-trans c.args.graph.now c.loop-expr.graph c.push_tree.new.graph held.2 c.in_ok-found.ensures.grown,
      c.in_ok-found.ensures.well_formed,
      subst (λ (ns : List NodeId). AreTreesSoFar d c.push_tree.new.graph fields (expressions_of exprs) (drop (i + 1) fields) (expressions_of (drop (i + 1) exprs)) ns) (sym c.in_ok-push.ensures.items)
          (tree_next d fields exprs i c.loop-expr.nodes.items held.1 c.loop-expr.graph c.push_tree.new.graph s sort x c.in-Some.n held.3 c.in_ok-found.ensures.grown c.loop-expr-test.true at c.expr-item.is
          (field_sort_is d s sort c.sel_sort.ensures.value) found held.4),
    )

pub push_trees-returns-clause-nodes : goal.push_trees-returns-clause-nodes
push_trees-returns-clause-nodes t c =
    let d = c.args.sig.now in
    let held = c.loop-expr.invariant in
    subst (λ (ns : List NodeId). AreNodesOf d c.args.fields.now (expressions_of c.args.exprs.now) c.loop-expr.graph (Some ns)) (sym c.new.ensures.value)
    (tree_all d c.args.fields.now c.args.exprs.now c.loop-expr.expr-index c.loop-expr.nodes.items held.1 c.loop-expr.graph (omega (arith, c.loop-expr-test.false)) held.4)
