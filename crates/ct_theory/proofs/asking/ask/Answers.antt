use Rattle.std.proofs.Common.{List, Contains, sym, subst, ◌∙◌}
use Rattle.ct_sorts.specs.Declarations.{Declarations}
use Rattle.ct_terms.specs.declared.ids.Lit.{Lit}
use Rattle.ct_terms.specs.Literal.{IsStripped}
use Rattle.ct_terms.specs.Terms.{Terms}
use Rattle.ct_theory.specs.declared.asking.Consulted.{Consulted}
use Rattle.ct_theory.specs.Entailment.{IsSaturation}
use Rattle.ct_theory.specs.Consulting.{IsConsulted}
use Rattle.ct_theory.proofs.ForestLemmas.{spare_same}
use Rattle.ct_theory.proofs.asking.ask.Goals as goal

pub answer-requires-clause-stripped : goal.answer-requires-clause-stripped
answer-requires-clause-stripped c =
    let ensures = c.in_ok-turn_to.ensures in
    λ l has. subst (λ (t : Terms). IsStripped t l.term) (sym ensures.terms) (c.requires.stripped l (subst (λ (ls : List Lit). Contains ls l) ensures.hypotheses has))

pub returns-in_ok-keep-in-Saturated-clause-consulted : goal.returns-in_ok-keep-in-Saturated-clause-consulted
returns-in_ok-keep-in-Saturated-clause-consulted c =
    let told = c.turn_to.new.classes in
    let answered = c.answer.new.classes in
    let kept = c.keep.new.classes in
    let order = c.in-Saturated.order.reps.items in
    let found = subst (λ (r : Consulted). IsConsulted told.declarations told.terms told.hypotheses answered r) c.in-Saturated.is c.in_ok-conflict.ensures.consulted in
    let saturated : IsSaturation told.declarations told.terms told.hypotheses kept order = c.in_ok-keep-in-Saturated.ensures.saturation told.declarations told.terms told.hypotheses order found in
    subst (λ (ls : List Lit). IsSaturation kept.declarations kept.terms ls kept order) c.in_ok-turn_to.ensures.hypotheses
    (subst (λ (t : Terms). IsSaturation kept.declarations t told.hypotheses kept order) (sym (c.in_ok-keep-in-Saturated.ensures.terms ∙ c.in_ok-conflict.ensures.terms))
    (subst (λ (q : Declarations). IsSaturation q told.terms told.hypotheses kept order) (sym (c.in_ok-keep-in-Saturated.ensures.declarations ∙ c.in_ok-conflict.ensures.declarations)) saturated))

pub shorter-requires-clause-stripped : goal.shorter-requires-clause-stripped
shorter-requires-clause-stripped c =
    λ l has. subst (λ (t : Terms). IsStripped t l.term) (sym (c.in_ok-conflict.ensures.terms ∙ c.in_ok-turn_to.ensures.terms)) (c.requires.stripped l has)

pub shorter-requires-clause-spare : goal.shorter-requires-clause-spare
shorter-requires-clause-spare c =
    let told = c.in_ok-turn_to.ensures in
    let answered = c.in_ok-conflict.ensures in
    spare_same c.args.classes.now c.answer.new.classes c.args.aside.now.spare (answered.declarations ∙ told.declarations) (answered.terms ∙ told.terms) c.requires.aside.spare

pub returns-in_ok-short-in-Conflict-clause-aside : goal.returns-in_ok-short-in-Conflict-clause-aside
returns-in_ok-short-in-Conflict-clause-aside c = record { forest = c.in_ok-conflict.ensures.forest; spare = c.in_ok-short-in-Conflict.ensures.spare }

pub returns-in_ok-keep-in-Saturated-clause-aside : goal.returns-in_ok-keep-in-Saturated-clause-aside
returns-in_ok-keep-in-Saturated-clause-aside c =
    let told = c.in_ok-turn_to.ensures in
    let answered = c.in_ok-conflict.ensures in
    let kept = c.in_ok-keep-in-Saturated.ensures in
    record {
      forest = kept.forests c.answer.new.forest answered.forest;
      spare = spare_same c.args.classes.now c.keep.new.classes c.args.aside.now.spare (kept.declarations ∙ answered.declarations ∙ told.declarations) (kept.terms ∙ answered.terms ∙ told.terms) c.requires.aside.spare;
    }
