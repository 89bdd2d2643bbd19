use Rattle.ct_eval.proofs.ValueLemmas.{SortTheorems}
use Rattle.ct_eval.proofs.TermLemmas.{ctor_head, ctor_children, off_value, selected_value, argument_value}
use Rattle.ct_eval.proofs.theorems.constructor_terms.Goals as goal

-- the theorems on values with sorts that the call gives
sorts : goal.After-well_sorted_values → SortTheorems
sorts c = record {
  over = c.well_sorted_values.ensures.over;
  built = c.well_sorted_values.ensures.built;
  field = c.well_sorted_values.ensures.field;
}

pub returns-clause-head : goal.returns-clause-head
returns-clause-head c = λ d i terms t k args s ordered at. ctor_head d i terms ordered t k args s at

pub returns-clause-children : goal.returns-clause-children
returns-clause-children c = λ d i terms t k args s ordered at. ctor_children d i terms ordered t k args s at

pub returns-clause-selected : goal.returns-clause-selected
returns-clause-selected c = λ d i terms t a s selector r consistent proper ordered sorted at declared built.
    selected_value d i terms ordered (sorts c) consistent proper sorted t a s selector r at declared built

pub returns-clause-wrongly_applied : goal.returns-clause-wrongly_applied
returns-clause-wrongly_applied c = λ d i terms t a s selector r ordered at declared other. off_value d i terms ordered t a s selector r at declared other

pub returns-clause-argument : goal.returns-clause-argument
returns-clause-argument c = λ d i terms t a b s selector args q r ordered at declared at_a there.
    argument_value d i terms ordered (sorts c) t a b s selector args q r at declared at_a there
