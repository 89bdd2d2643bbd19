use Rattle.std.proofs.Common.{sym, subst, ◌∙◌}
use Rattle.ct_congr.specs.State.{State}
use Rattle.ct_terms.specs.Literal.{IsStripped}
use Rattle.ct_theory.proofs.asking.Theory.refute.Goals as goal

pub refute-requires-clause-stripped : goal.refute-requires-clause-stripped
refute-requires-clause-stripped c =
    λ l has. subst (λ (s : State). IsStripped s.terms l.term) (sym (c.deref_mut.ensures.value ∙ c.self.view_is)) (c.requires.stripped l has)
