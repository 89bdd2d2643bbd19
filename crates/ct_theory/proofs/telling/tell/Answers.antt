use Rattle.std.proofs.Common.{◌∷◌, ◌++◌, [], List, false, get_or, take, length, refl, sym, ap, subst, ◌∙◌, append_assoc}
use Rattle.std.proofs.lemmas.List.{append-nil, take_more}
use Rattle.std.proofs.lemmas.List.Elements.{Contains-get_or}
use Rattle.ct_terms.specs.declared.ids.Lit.{Lit}
use Rattle.ct_terms.specs.Literal.{IsStripped}
use Rattle.ct_terms.specs.Terms.{Terms}
use Rattle.ct_theory.proofs.ForestLemmas.{keeps_then}
use Rattle.ct_theory.proofs.telling.tell.Goals as goal

abbrev zeroth : Lit
zeroth = record { term = record { 0 = 0 }; positive = false }

pub loop-literal-init : goal.loop-literal-init
loop-literal-init c = record { forests = λ planted is. is; ready = c.requires.ready; declarations = refl; terms = refl; hypotheses = sym (append-nil c.args.classes.now.hypotheses) }

pub tell_one-requires : goal.tell_one-requires
tell_one-requires c =
    let literals = c.args.literals.now in
    let l = get_or literals c.loop-literal.literal-index zeroth in
    let stripped = c.requires.stripped l (Contains-get_or literals c.loop-literal.literal-index zeroth c.loop-literal-test.true) in
    record { ready = c.loop-literal.invariant.ready; stripped = subst (λ (t : Terms). IsStripped t l.term) (sym c.loop-literal.invariant.terms) stripped }

pub loop-literal-preserved : goal.loop-literal-preserved
loop-literal-preserved c =
    let literals = c.args.literals.now in
    let index = c.loop-literal.literal-index in
    let l = get_or literals index zeroth in
    let ensures = c.in_ok-tell_one.ensures in
    let was = c.loop-literal.invariant in
    record {
      forests = keeps_then c.args.classes.now c.loop-literal.classes c.tell_one.new.classes was.forests ensures.forests;
      ready = ensures.ready;
      declarations = ensures.declarations ∙ was.declarations;
      terms = ensures.terms ∙ was.terms;
      hypotheses = ensures.hypotheses ∙ ap (λ (ls : List Lit). ls ++ l ∷ []) was.hypotheses ∙ append_assoc c.args.classes.now.hypotheses (take index literals) (l ∷ []) ∙ ap (λ (ls : List Lit). c.args.classes.now.hypotheses ++ ls) (sym (take_more literals index zeroth c.loop-literal-test.true));
    }
