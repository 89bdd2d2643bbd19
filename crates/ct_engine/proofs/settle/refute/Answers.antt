use Rattle.std.proofs.Common.{List, Contains, sym, subst, ◌∙◌}
use Rattle.ct_terms.specs.declared.ids.Lit.{Lit}
use Rattle.ct_terms.specs.Literal.{IsStripped}
use Rattle.ct_terms.specs.Terms.{Terms}
use Rattle.ct_engine.proofs.LineLemmas.{stripped_trail}
use Rattle.ct_engine.proofs.TurnLemmas.{IsAsked-noted}
use Rattle.ct_engine.proofs.settle.refute.Goals as goal

pub refute-requires-clause-shared : goal.refute-requires-clause-shared
refute-requires-clause-shared c = rw (c.has_news.ensures.shared, c.trail-trail.ensures.value) c.requires.asked

pub refute-requires-clause-stripped : goal.refute-requires-clause-stripped
refute-requires-clause-stripped c =
    let course = c.args.course.now in
    λ l h. subst (λ (ts : Terms). IsStripped ts l.term) (sym c.requires.theory.terms)
    (stripped_trail course.search course.derivation.rec.terms c.requires.under_way.variables c.trail-trail.ensures.sound l (subst (λ (ls : List Lit). Contains ls l) c.trail-trail.ensures.value h))
