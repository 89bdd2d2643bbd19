use Rattle.std.proofs.Common.{◌≡◌, map, take}
use Rattle.ct_formulas.specs.TreeFormula.{formula_of}
use Rattle.ct_finite.specs.ClosedFormula.{formula_of_value}
use Rattle.ct_finite.specs.Entries.{under_at, weight_at}
use Rattle.ct_finite.proofs.trees.+tree_at.Given as goal

abbrev pub decreases-tree_at : goal.decreases-tree_at
decreases-tree_at l = weight_at l.sig.now l.s l.k

abbrev pub invariant-loop-i : goal.invariant-loop-i
invariant-loop-i l = map formula_of l.args.items ≡ map formula_of_value (take l.i (under_at l.sig l.fn.s l.k))
