use Rattle.std.proofs.Common.{◌≡◌, ◌+◌, List, map, take, sym, subst}
use Rattle.ct_formulas.specs.declared.tree.Tree.{Tree}
use Rattle.ct_formulas.specs.TreeFormula.{formula_of}
use Rattle.ct_listing.specs.Listing.{listed}
use Rattle.ct_finite.specs.ClosedFormula.{formula_of_value}
use Rattle.ct_finite.proofs.ValueLemmas.{value_step}
use Rattle.ct_finite.proofs.finite.Finite.values.Goals as goal

pub loop-k-preserved : goal.loop-k-preserved
loop-k-preserved c =
    let vs = listed c.args.sig.now c.args.s in
    subst (λ (l : List Tree). map formula_of l ≡ map formula_of_value (take (c.loop-k.k + 1) vs)) (sym c.in_ok-push.ensures.items)
    (value_step vs c.loop-k.trees.items c.in_ok-tree.tree c.loop-k.k c.loop-k.invariant c.in_ok-tree.ensures.tree)
