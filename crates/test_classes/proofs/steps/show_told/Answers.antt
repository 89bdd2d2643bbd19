use Rattle.std.proofs.Common.{subst}
use Rattle.ct_terms.specs.Literal.{IsStripped}
use Rattle.ct_terms.specs.Terms.{Terms}
use Rattle.test_classes.proofs.steps.show_told.Goals as goal

pub tell-requires : goal.tell-requires
tell-requires c = record { stripped = subst (λ (q : Terms). IsStripped q c.in_ok-l.l.term) c.table.ensures.value c.in_ok-l.ensures.stripped }
