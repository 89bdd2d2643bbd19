use Rattle.std.proofs.Common.{List, Contains, sym, subst, ◌∙◌}
use Rattle.ct_terms.specs.declared.ids.Lit.{Lit}
use Rattle.ct_terms.specs.Literal.{IsStripped}
use Rattle.ct_terms.specs.Terms.{Terms}
use Rattle.ct_theory.proofs.ForestLemmas.{spare_same}
use Rattle.ct_theory.proofs.refuting.refute.Goals as goal

pub look-requires-clause-stripped : goal.look-requires-clause-stripped
look-requires-clause-stripped c =
    let ensures = c.in_ok-turn_to.ensures in
    λ l has. subst (λ (t : Terms). IsStripped t l.term) (sym ensures.terms) (c.requires.stripped l (subst (λ (ls : List Lit). Contains ls l) ensures.hypotheses has))

pub shorter-requires-clause-stripped : goal.shorter-requires-clause-stripped
shorter-requires-clause-stripped c =
    λ l has. subst (λ (t : Terms). IsStripped t l.term) (sym (c.in_ok-conflict.ensures.terms ∙ c.in_ok-turn_to.ensures.terms)) (c.requires.stripped l has)

pub shorter-requires-clause-spare : goal.shorter-requires-clause-spare
shorter-requires-clause-spare c =
    let told = c.in_ok-turn_to.ensures in
    let looked = c.in_ok-conflict.ensures in
    spare_same c.args.classes.now c.look.new.classes c.args.aside.now.spare (looked.declarations ∙ told.declarations) (looked.terms ∙ told.terms) c.requires.aside.spare

pub returns-in_ok-short-in-Some-clause-aside : goal.returns-in_ok-short-in-Some-clause-aside
returns-in_ok-short-in-Some-clause-aside c = record { forest = c.in_ok-conflict.ensures.forest; spare = c.in_ok-short-in-Some.ensures.spare }

pub returns-in_ok-keep-in-None-clause-aside : goal.returns-in_ok-keep-in-None-clause-aside
returns-in_ok-keep-in-None-clause-aside c =
    let told = c.in_ok-turn_to.ensures in
    let looked = c.in_ok-conflict.ensures in
    let kept = c.in_ok-keep-in-None.ensures in
    record {
      forest = kept.forests c.look.new.forest looked.forest;
      spare = spare_same c.args.classes.now c.keep.new.classes c.args.aside.now.spare (kept.declarations ∙ looked.declarations ∙ told.declarations) (kept.terms ∙ looked.terms ∙ told.terms) c.requires.aside.spare;
    }
