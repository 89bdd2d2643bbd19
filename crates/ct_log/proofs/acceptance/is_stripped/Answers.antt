use Rattle.ct_log.proofs.acceptance.is_stripped.Goals as goal

pub returns-in-Not : goal.returns-in-Not
returns-in-Not c = record { stripped = (λ e. cc, λ h. absurd (h.1 c.in-Not.field-0 (rw c.in-Not.is at c.core.ensures.value))) }
