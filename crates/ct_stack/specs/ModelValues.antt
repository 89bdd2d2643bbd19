-- The values in a model of terms that were asked for.
use Rattle.ct_sorts.specs.Declarations.{Declarations}
use Rattle.ct_sorts.specs.Grown.{Begins}
use Rattle.ct_terms.specs.Terms.{Terms, AreSorted}
use Rattle.ct_eval.specs.declared.interp.Interp.{Interp}
use Rattle.ct_eval.specs.Evaluator.{IsEvaluator}
use Rattle.ct_stack.specs.declared.model_values.ModelValues.{ModelValues}

-- the terms are well sorted, and the values found so far are those of some first ones
pub record AreModelValues (d : Declarations) (i : Interp) (v : ModelValues) : Type 0 where
  pub sorted : AreSorted d v.table
  pub valued : Terms
  pub first : Begins valued v.table
  pub found : IsEvaluator d i valued v.evaluator
