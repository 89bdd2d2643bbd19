use Rattle.std.proofs.Common.{List, [], ◌∷◌, ◌++◌, sym, ap, subst, ◌∙◌}
use Rattle.ct_sexpr.specs.Expression.{none, more}
use Rattle.ct_sexpr.specs.View.{expression_of}
use Rattle.ct_values.specs.declared.node.NodeId.{NodeId}
use Rattle.ct_readback.specs.declared.value.Said.{Said}
use Rattle.ct_readback.specs.declared.item.Part.TheVariants as parts
use Rattle.ct_readback.specs.ItemAt.{IsEquationAt, AreEquationsAt}
use Rattle.ct_readback.specs.Said.{IsSaid, IsPart, AreNodesFor, all_points}
use Rattle.ct_readback.proofs.PartLemmas.{single_none, single_cycle, single_node}
use Rattle.ct_readback.proofs.item.read_single.Goals as goal

pub returns-in-Nothing-clause-args : goal.returns-in-Nothing-clause-args
returns-in-Nothing-clause-args c =
    let d = c.args.sig.now in
    let g = c.read_equation.new.graph in
    let e = expression_of c.args.equation.now in
    single_none d g g c.args.s e (subst (λ (x : Said). IsSaid d g (IsEquationAt d 0 c.args.s e) c.args.s x) c.in-Nothing.is c.in_ok-read_equation.ensures.said)

pub returns-in-Cycle-clause-args : goal.returns-in-Cycle-clause-args
returns-in-Cycle-clause-args c =
    let d = c.args.sig.now in
    let g = c.read_equation.new.graph in
    let e = expression_of c.args.equation.now in
    single_cycle d g g c.args.s e (subst (λ (x : Said). IsSaid d g (IsEquationAt d 0 c.args.s e) c.args.s x) c.in-Cycle.is c.in_ok-read_equation.ensures.said)

pub returns-in_ok-push-in-Value-clause-args : goal.returns-in_ok-push-in-Value-clause-args
returns-in_ok-push-in-Value-clause-args c =
    let d = c.args.sig.now in
    let g = c.read_equation.new.graph in
    let e = expression_of c.args.equation.now in
    let n = c.in-Value.n in
    subst (λ (ns : List NodeId). IsPart d (AreEquationsAt d 0 (c.args.s ∷ []) (more e none)) all_points (AreNodesFor d g (c.args.s ∷ [])) (parts.Fine ns))
    (sym (c.new.ensures.value ∙ c.in_ok-push-in-Value.ensures.items ∙ ap (λ (ns : List NodeId). ns ++ n ∷ []) c.in_ok-nodes-in-Value.ensures.items))
    (single_node d g c.args.s e n (subst (λ (x : Said). IsSaid d g (IsEquationAt d 0 c.args.s e) c.args.s x) c.in-Value.is c.in_ok-read_equation.ensures.said))
