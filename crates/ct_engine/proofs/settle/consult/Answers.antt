use Rattle.std.proofs.Common.{List, Contains, sym, subst, ◌∙◌}
use Rattle.ct_terms.specs.declared.ids.Lit.{Lit}
use Rattle.ct_terms.specs.Literal.{IsStripped}
use Rattle.ct_terms.specs.Terms.{Terms}
use Rattle.ct_engine.proofs.LineLemmas.{stripped_trail}
use Rattle.ct_engine.proofs.TurnLemmas.{IsAsked-noted}
use Rattle.ct_engine.proofs.settle.consult.Goals as goal

pub consult-requires-clause-stripped : goal.consult-requires-clause-stripped
consult-requires-clause-stripped c =
    let course = c.args.course.now in
    λ l h. subst (λ (ts : Terms). IsStripped ts l.term) (sym c.requires.theory.terms)
    (stripped_trail course.search course.derivation.rec.terms c.requires.under_way.variables c.trail-trail.ensures.sound l (subst (λ (ls : List Lit). Contains ls l) c.trail-trail.ensures.value h))

pub returns-clause-asked : goal.returns-clause-asked
returns-clause-asked c = IsAsked-noted c.args.course.now c.consult.new.self c.note.new.self c.trail-trail.result.now c.trail-trail.ensures.value c.in_ok-answer.ensures.told c.note.ensures.shared
