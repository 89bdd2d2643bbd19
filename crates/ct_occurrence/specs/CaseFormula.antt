-- The cases of a formula that cases of a tree stand for.
use Rattle.std.specs.Prelude.{List, map}
use Rattle.ct_formulas.specs.declared.tree.Pattern.{Pattern}
use Rattle.ct_formulas.specs.declared.tree.Case.{Case}
use Rattle.ct_formulas.specs.declared.tree.Tree.TheFolds.{fold-Case}
use Rattle.ct_formulas.specs.Formula.{Formula, Cases}
use Rattle.ct_formulas.specs.TreeFormula.{cases_of, case_layer, formula_layer}

-- the pattern of a case, and the formula of its body
abbrev pub case_of : Case → Pattern × Formula
case_of = fold-Case Formula (Pattern × Formula) formula_layer case_layer

-- the cases of several
abbrev pub cases_of_trees : List Case → Cases
cases_of_trees cs = cases_of (map case_of cs)
