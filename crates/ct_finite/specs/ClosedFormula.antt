-- Closed values as formulas.
use Rattle.ct_formulas.specs.Formula.{Formula, Formulas, Con, no_formulas, with_formula}
use Rattle.ct_listing.specs.Closed.{ClosedValue, ClosedValues, build, no_closed, with_closed}

abbrev mutual
  -- a closed value as a formula: its constructor over what stands under it
  pub formula_of_value : ClosedValue → Formula
  formula_of_value (build c vs) = Con c (formulas_under vs)

  -- several closed values as arguments
  pub formulas_under : ClosedValues → Formulas
  formulas_under no_closed = no_formulas
  formulas_under (with_closed v vs) = with_formula (formula_of_value v) (formulas_under vs)
