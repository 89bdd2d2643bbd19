use Rattle.std.proofs.Common.{suc}
use Rattle.ct_sorts.specs.Declarations.{bool_sort}
use Rattle.ct_eval.specs.Evaluation.{value_of}
use Rattle.ct_eval.proofs.EvaluationLemmas.{value_of-unfolds, value_below-longer}
use Rattle.ct_eval.proofs.ValueLemmas.{SortTheorems, value_of-sorted, value_of-over, truth_of-literal}
use Rattle.ct_eval.proofs.theorems.evaluation.Goals as goal

-- the theorems on values with sorts that the call gives
sorts : goal.After-boolean_values → SortTheorems
sorts c = record {
  over = c.well_sorted_values.ensures.over;
  built = c.well_sorted_values.ensures.built;
  field = c.well_sorted_values.ensures.field;
}

pub returns-clause-unfolds : goal.returns-clause-unfolds
returns-clause-unfolds c = value_of-unfolds

pub returns-clause-longer : goal.returns-clause-longer
returns-clause-longer c = λ d i terms more t ordered within. value_below-longer d i terms more ordered (suc t.0) t within

pub returns-clause-over : goal.returns-clause-over
returns-clause-over c = λ d i terms t consistent proper ordered sorted. value_of-over (sorts c) d i consistent proper terms ordered sorted t

pub returns-clause-sorted : goal.returns-clause-sorted
returns-clause-sorted c = λ d i terms t sort consistent proper ordered sorted of.
    value_of-sorted (sorts c) d i consistent proper terms ordered sorted t sort of

pub returns-clause-boolean : goal.returns-clause-boolean
returns-clause-boolean c = λ d i terms t consistent proper ordered sorted boolean.
    let v = value_of d i terms t in
    let of = value_of-sorted (sorts c) d i consistent proper terms ordered sorted t bool_sort boolean in
    c.boolean_values.ensures.same i.graph i.graph v _ (c.boolean_values.ensures.truth d i.graph v consistent proper.graph.fits of)

pub returns-clause-literals : goal.returns-clause-literals
returns-clause-literals c = λ d i terms t ordered. truth_of-literal d i terms ordered t
