use Rattle.std.proofs.Common.{ℕ, ◌⊎◌, inl, inr}
use Rattle.ct_sorts.specs.declared.ids.CtorId.{CtorId}
use Rattle.ct_sorts.specs.declared.ids.SortId.{SortId}
use Rattle.ct_sorts.specs.Declarations.{Declarations}
use Rattle.ct_values.specs.Graph.{Nodes}
use Rattle.ct_values.specs.Value.{Value}
use Rattle.ct_values.specs.ValueSort.{HasValueSort}
use Rattle.ct_values.specs.Inversion.{IsElementOf, IsConstructed}
use Rattle.ct_values.proofs.SortedLemmas.{HasValueSort-over, inverted, element_sorted, constructed_sorted, with_element, with_ctor, not_element, is_element, field_there, one_head, agreeing_sorted}
use Rattle.ct_values.proofs.BooleanLemmas.{built_by}
use Rattle.ct_values.proofs.LastingLemmas.{value_longer, value_lasting}
use Rattle.ct_values.proofs.theorems.well_sorted_values.Goals as goal

-- what an element or a constructor makes has the sort
sorted_by : (d : Declarations) (g : Nodes) (v : Value) (s : SortId) → ((number : ℕ) × IsElementOf d g v number s) ⊎ ((c : CtorId) × IsConstructed d g v c s) → HasValueSort d g v s
sorted_by d g v s (inl is) = element_sorted d g v is.0 s is.1
sorted_by d g v s (inr is) = constructed_sorted d g v is.0 s is.1

pub returns-clause-over : goal.returns-clause-over
returns-clause-over c = HasValueSort-over

pub returns-clause-inversion : goal.returns-clause-inversion
returns-clause-inversion c = λ d g v s fits. (inverted d g fits v s, sorted_by d g v s)

pub returns-clause-element : goal.returns-clause-element
returns-clause-element c = λ d g v sort s number fits sorted headed. with_element d g fits v sort s number sorted headed

pub returns-clause-constructor : goal.returns-clause-constructor
returns-clause-constructor c = λ d g v s k fits sorted headed. with_ctor d g fits v s k sorted headed

pub returns-clause-uninterpreted : goal.returns-clause-uninterpreted
returns-clause-uninterpreted c = λ d g v s sort consistent fits sorted declared free.
    is_element d g v s sort consistent (c.structure.ensures.of_their_sorts d consistent) fits sorted declared free

pub returns-clause-constructed : goal.returns-clause-constructed
returns-clause-constructed c = not_element

pub returns-clause-built : goal.returns-clause-built
returns-clause-built c = built_by

pub returns-clause-field : goal.returns-clause-field
returns-clause-field c = λ d g v sort s selector consistent fits sorted declared headed.
    field_there d g v sort s selector (c.structure.ensures.of_their_constructors d consistent) fits declared sorted headed

pub returns-clause-one_sort : goal.returns-clause-one_sort
returns-clause-one_sort c = one_head

pub returns-clause-same_sort : goal.returns-clause-same_sort
returns-clause-same_sort c = λ d g h v w s fits sorted alike. agreeing_sorted d g h fits v w s sorted alike

pub returns-clause-longer : goal.returns-clause-longer
returns-clause-longer c = value_longer

pub returns-clause-lasting : goal.returns-clause-lasting
returns-clause-lasting c = λ later earlier g v s more sorted. value_lasting later earlier more g v s sorted
