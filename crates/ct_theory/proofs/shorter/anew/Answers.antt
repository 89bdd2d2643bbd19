use Rattle.std.proofs.Common.{sym, subst}
use Rattle.ct_congr.specs.State.{State}
use Rattle.ct_terms.specs.Literal.{IsStripped}
use Rattle.ct_theory.proofs.shorter.anew.Goals as goal

pub answer_at_once-requires-clause-stripped : goal.answer_at_once-requires-clause-stripped
answer_at_once-requires-clause-stripped c =
    λ l has. subst (λ (s : State). IsStripped s.terms l.term) (sym c.deref_mut.ensures.value) (c.requires.stripped l has)
