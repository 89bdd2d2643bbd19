use Rattle.std.proofs.Common.{[], ◌∷◌, ◌++◌, inr, refl, sym, subst, arith}
use Rattle.ct_values.specs.declared.node.Node.{Node}
use Rattle.ct_values.specs.declared.node.Node.TheVariants.{Elem}
use Rattle.ct_values.specs.Graph.{Nodes}
use Rattle.ct_values.specs.Fitting.{FitsGraph}
use Rattle.ct_eval.proofs.StepSorts.{FitsGraph-grown}
use Rattle.ct_trial.specs.Growth.{IsAppended}
use Rattle.ct_trial.proofs.GraphLemmas.{appended_none, appended_one, appended_further}
use Rattle.ct_trial.proofs.supply.add_elements.Goals as goal

pub returns-then-first-count-clause-appended : goal.returns-then-first-count-clause-appended
returns-then-first-count-clause-appended c = appended_none c.args.graph.now

pub loop-k-init : goal.loop-k-init
loop-k-init c = (appended_none c.args.graph.now, c.requires.fits)

pub loop-k-preserved : goal.loop-k-preserved
loop-k-preserved c =
    let start = c.args.graph.now in
    let g = c.loop-k.graph in
    let node : Node = Elem c.args.s c.loop-k.k in
    let is = c.in_ok-push.ensures.ok.1 in (
      subst (λ (h : Nodes). IsAppended start h) (sym is) (appended_further start g (g ++ node ∷ []) c.loop-k.invariant.0 (appended_one g node (λ k e within. absurd (omega arith)))),
      subst (λ (h : Nodes). FitsGraph c.args.sig.now h) (sym is) (FitsGraph-grown c.args.sig.now g (g ++ node ∷ []) node c.loop-k.invariant.1 c.requires.free (inr refl)),
    )
