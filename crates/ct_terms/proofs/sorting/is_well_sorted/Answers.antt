use Rattle.std.proofs.Common.{refl}
use Rattle.ct_sorts.specs.Declarations.{bool_sort}
use Rattle.ct_terms.proofs.sorting.is_well_sorted.Goals as goal

pub returns-in-Not : goal.returns-in-Not
returns-in-Not c =
    let reported = c.is_of_sort.ensures.sorted in
    rw c.in-Not.is (record { sorted = (λ yes. (bool_sort, (reported.0 yes, refl)), λ h. reported.1 h.1.0) })

pub returns-then-is_of_sort : goal.returns-then-is_of_sort
returns-then-is_of_sort c =
    let first = c.is_of_sort-in-Iff.ensures.sorted in
    let second = c.is_of_sort-then-is_of_sort.ensures.sorted in
    rw c.in-Iff.is
    (record { sorted = (λ yes. (bool_sort, (first.0 c.if-is_of_sort.true, second.0 yes, refl)), λ h. second.1 h.1.1) })
