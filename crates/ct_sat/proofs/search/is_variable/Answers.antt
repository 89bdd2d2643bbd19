use Rattle.ct_sat.proofs.search.is_variable.Goals as goal

pub returns-in-Not : goal.returns-in-Not
returns-in-Not c = record { value = λ stripped. stripped.1 c.in-Not.field-0 (rw c.in-Not.is at c.core.ensures.value) }
