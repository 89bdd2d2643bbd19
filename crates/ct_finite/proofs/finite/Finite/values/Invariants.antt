use Rattle.std.proofs.Common.{◌≡◌, map, take}
use Rattle.ct_formulas.specs.TreeFormula.{formula_of}
use Rattle.ct_listing.specs.Listing.{listed}
use Rattle.ct_finite.specs.ClosedFormula.{formula_of_value}
use Rattle.ct_finite.proofs.finite.Finite.values.Given as goal

abbrev pub invariant-loop-k : goal.invariant-loop-k
invariant-loop-k l = map formula_of l.trees.items ≡ map formula_of_value (take l.k (listed l.sig l.s))
