use Rattle.std.proofs.Common.{All, sym, subst, ◌∙◌}
use Rattle.ct_terms.specs.declared.ids.Lit.{Lit}
use Rattle.ct_terms.specs.Terms.{Terms}
use Rattle.ct_terms.specs.Literal.{IsStripped}
use Rattle.test_classes.proofs.prepare.prepare.Goals as goal

pub classes_of-requires-clause-stripped : goal.classes_of-requires-clause-stripped
classes_of-requires-clause-stripped c =
    subst (λ (t : Terms). All (λ (l : Lit). IsStripped t l.term) c.deref-4.result.now)
    (c.deref.ensures ∙ sym c.deref-3.ensures)
    (rw c.deref-4.ensures.value c.in_ok-hyps.ensures.stripped)

pub returns-clause-stripped : goal.returns-clause-stripped
returns-clause-stripped c =
    subst (λ (t : Terms). All (λ (l : Lit). IsStripped t l.term) c.in_ok-hyps.hyps.items) c.deref.ensures c.in_ok-hyps.ensures.stripped
