use Rattle.std.proofs.Common.{sym, subst, ◌∙◌}
use Rattle.ct_congr.specs.State.{State}
use Rattle.ct_terms.specs.Literal.{IsStripped}
use Rattle.ct_theory.proofs.asking.Theory.consult.Goals as goal

pub ask-requires-clause-stripped : goal.ask-requires-clause-stripped
ask-requires-clause-stripped c =
    λ l has. subst (λ (s : State). IsStripped s.terms l.term) (sym (c.deref_mut.ensures.value ∙ c.self.view_is)) (c.requires.stripped l has)
