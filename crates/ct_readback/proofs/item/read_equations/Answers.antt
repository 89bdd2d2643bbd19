use Rattle.std.proofs.Common.{◌+◌, List, drop, get_or, false, sym, subst, arith}
use Rattle.std.proofs.lemmas.Option.{slice_get-get_or}
use Rattle.ct_sorts.specs.declared.ids.SortId.{SortId}
use Rattle.ct_sorts.proofs.PieceLemmas.{Begins-self, Begins-trans}
use Rattle.ct_sexpr.specs.View.{expression_of, expressions_of}
use Rattle.ct_values.specs.declared.node.NodeId.{NodeId}
use Rattle.ct_readback.specs.declared.value.Said.{Said}
use Rattle.ct_readback.specs.declared.item.Part.TheVariants as parts
use Rattle.ct_readback.specs.ItemAt.{IsEquationAt, AreEquationsAt}
use Rattle.ct_readback.specs.Said.{IsSaid, IsPart, AreNodesFor, all_points}
use Rattle.ct_readback.proofs.PartLemmas.{AreEquationsSoFar, equations_start}
use Rattle.ct_readback.proofs.IndexLemmas.{equation_stop, equation_cycle, equation_node, equation_all, equation_all_cyclic}
use Rattle.ct_readback.proofs.item.read_equations.Goals as goal

abbrev zeroth : SortId
zeroth = record { 0 = 0 }

pub loop-i-init : goal.loop-i-init
loop-i-init c =
    let d = c.args.sig.now in
    let g = c.args.graph.now in
    let sorts = c.args.sorts.now in
    let es = expressions_of c.args.equations.now in
    (Begins-self g, c.requires.well_formed, subst (λ (ns : List NodeId). AreEquationsSoFar d g sorts es 0 sorts es false ns) (sym c.in_ok-nodes.ensures.items) (equations_start d g sorts es))

pub returns-in-Nothing-clause-args : goal.returns-in-Nothing-clause-args
returns-in-Nothing-clause-args c =
    let d = c.args.sig.now in
    let g = c.read_equation.new.graph in
    let sorts = c.args.sorts.now in
    let i = c.loop-i.i in
    let s = get_or sorts i zeroth in
    let x = c.index-equations-i.result in
    equation_stop d sorts c.args.equations.now i c.loop-i.cyclic c.loop-i.nodes.items c.requires.one_each c.loop-i.graph g g s x c.loop-i-test.true (slice_get-get_or sorts i zeroth c.loop-i-test.true) c.index-equations-i.is
    (subst (λ (y : Said). IsSaid d g (IsEquationAt d i s (expression_of x)) s y) c.in-Nothing.is c.in_ok-read_equation.ensures.said) c.loop-i.invariant.2

pub loop-i-preserved-in-Cycle : goal.loop-i-preserved-in-Cycle
loop-i-preserved-in-Cycle c =
    let d = c.args.sig.now in
    let g = c.read_equation.new.graph in
    let sorts = c.args.sorts.now in
    let i = c.loop-i.i in
    let s = get_or sorts i zeroth in
    let x = c.index-equations-i.result in (
      Begins-trans c.args.graph.now c.loop-i.graph g c.loop-i.invariant.0 c.in_ok-read_equation.ensures.grown,
      c.in_ok-read_equation.ensures.well_formed,
      equation_cycle d sorts c.args.equations.now i c.loop-i.cyclic c.loop-i.nodes.items c.requires.one_each c.loop-i.graph g g s x c.loop-i-test.true (slice_get-get_or sorts i zeroth c.loop-i-test.true) c.index-equations-i.is
          (subst (λ (y : Said). IsSaid d g (IsEquationAt d i s (expression_of x)) s y) c.in-Cycle.is c.in_ok-read_equation.ensures.said) c.loop-i.invariant.2,
    )

pub loop-i-preserved : goal.loop-i-preserved
loop-i-preserved c =
    let d = c.args.sig.now in
    let g = c.read_equation.new.graph in
    let sorts = c.args.sorts.now in
    let equations = c.args.equations.now in
    let i = c.loop-i.i in
    let s = get_or sorts i zeroth in
    let x = c.index-equations-i.result in (
      Begins-trans c.args.graph.now c.loop-i.graph g c.loop-i.invariant.0 c.in_ok-read_equation.ensures.grown,
      c.in_ok-read_equation.ensures.well_formed,
      subst (λ (ns : List NodeId). AreEquationsSoFar d g sorts (expressions_of equations) (i + 1) (drop (i + 1) sorts) (expressions_of (drop (i + 1) equations)) c.loop-i.cyclic ns) (sym c.in_ok-push.ensures.items)
          (equation_node d sorts equations i c.loop-i.cyclic c.loop-i.nodes.items c.requires.one_each c.loop-i.graph g s x c.in-Value.n c.loop-i.invariant.1 c.in_ok-read_equation.ensures.grown c.loop-i-test.true
          (slice_get-get_or sorts i zeroth c.loop-i-test.true) c.index-equations-i.is
          (subst (λ (y : Said). IsSaid d g (IsEquationAt d i s (expression_of x)) s y) c.in-Value.is c.in_ok-read_equation.ensures.said) c.loop-i.invariant.2),
    )

pub returns-then-cyclic-clause-args : goal.returns-then-cyclic-clause-args
returns-then-cyclic-clause-args c =
    equation_all_cyclic c.args.sig.now c.args.sorts.now c.args.equations.now c.loop-i.i c.loop-i.cyclic c.loop-i.nodes.items c.requires.one_each c.loop-i.graph c.loop-i.graph c.if-cyclic.true (omega (arith, c.loop-i-test.false)) c.loop-i.invariant.2

pub returns-clause-args : goal.returns-clause-args
returns-clause-args c =
    let d = c.args.sig.now in
    let g = c.loop-i.graph in
    let sorts = c.args.sorts.now in
    let es = expressions_of c.args.equations.now in
    subst (λ (ns : List NodeId). IsPart d (AreEquationsAt d 0 sorts es) all_points (AreNodesFor d g sorts) (parts.Fine ns)) (sym c.new.ensures.value)
    (equation_all d sorts c.args.equations.now c.loop-i.i c.loop-i.cyclic c.loop-i.nodes.items c.requires.one_each g c.if-cyclic.false (omega (arith, c.loop-i-test.false)) c.loop-i.invariant.2)
