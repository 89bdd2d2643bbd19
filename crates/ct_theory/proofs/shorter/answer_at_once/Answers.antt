use Rattle.std.proofs.Common.{List, Contains, sym, subst, ◌∙◌}
use Rattle.ct_terms.specs.declared.ids.Lit.{Lit}
use Rattle.ct_terms.specs.Literal.{IsStripped}
use Rattle.ct_terms.specs.Terms.{Terms}
use Rattle.ct_theory.proofs.ReadyLemmas.{HaveInCommon-none}
use Rattle.ct_theory.proofs.shorter.answer_at_once.Goals as goal

pub turn_to-requires-2-clause-stripped : goal.turn_to-requires-2-clause-stripped
turn_to-requires-2-clause-stripped c =
    λ l has. subst (λ (t : Terms). IsStripped t l.term) (sym c.in_ok-turn_to.ensures.terms) (c.requires.stripped l has)

pub answer-requires-clause-stripped : goal.answer-requires-clause-stripped
answer-requires-clause-stripped c =
    let ensures = c.in_ok-turn_to-2.ensures in
    λ l has. subst (λ (t : Terms). IsStripped t l.term) (sym (ensures.terms ∙ c.in_ok-turn_to.ensures.terms))
    (c.requires.stripped l (subst (λ (ls : List Lit). Contains ls l) ensures.hypotheses has))

pub turn_to-requires-clause-shared : goal.turn_to-requires-clause-shared
turn_to-requires-clause-shared c = HaveInCommon-none _ _

pub turn_to-requires-2-clause-shared : goal.turn_to-requires-2-clause-shared
turn_to-requires-2-clause-shared c = HaveInCommon-none _ _
