use Rattle.std.proofs.Common.{◌≡◌, Option, Some, option_map, option_and_then, IfOk, sym, ap, subst, ◌∙◌}
use Rattle.ct_sexpr.specs.Expression.{Expression}
use Rattle.ct_sexpr.specs.View.{expression_of, expressions_of}
use Rattle.ct_values.specs.declared.node.Node.{Node}
use Rattle.ct_readback.specs.GraphText.{node_text, node_at}
use Rattle.ct_readback.proofs.graph_text.said_at.Goals as goal

pub returns-in-None-clause-value : goal.returns-in-None-clause-value
returns-in-None-clause-value c =
    sym (ap (λ (o : Option Expression). option_and_then (node_at c.args.sig.now c.args.s) (option_and_then (node_text c.args.i) o)) (c.row_at.ensures.value ∙ ap (λ o. option_map (λ e. expression_of e.now) o) c.in-None.is))

pub returns-in-Some-clause-value : goal.returns-in-Some-clause-value
returns-in-Some-clause-value c =
    let same = ap (λ (o : Option Expression). option_and_then (node_at c.args.sig.now c.args.s) (option_and_then (node_text c.args.i) o)) (c.row_at.ensures.value ∙ ap (λ o. option_map (λ e. expression_of e.now) o) c.in-Some.is) in
    subst (λ (x : Option Node). IfOk c.row_node.result (λ node. node ≡ x)) (sym same) c.row_node.ensures.value
