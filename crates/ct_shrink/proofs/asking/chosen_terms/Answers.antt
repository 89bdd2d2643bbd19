use Rattle.std.proofs.Common.{◌≡◌, ℕ, ◌+◌, ◌++◌, ◌∷◌, [], List, take, Some, slice_get, sym, subst}
use Rattle.std.proofs.lemmas.List.{take_more}
use Rattle.ct_lemmas.proofs.Pairs.{AllZip-push}
use Rattle.ct_terms.specs.declared.ids.TermId.{TermId}
use Rattle.ct_core.specs.Core.{AreAt}
use Rattle.ct_shrink.proofs.asking.chosen_terms.Goals as goal

pub loop-place-preserved : goal.loop-place-preserved
loop-place-preserved c =
    let at = c.loop-place in
    let places = c.args.places.now in
    let asserts = c.args.asserts.now in
    subst (AreAt asserts (take (at.place-index + 1) places)) (sym c.in_ok-push.ensures.items)
    (subst (λ (ps : List ℕ). AreAt asserts ps (at.terms.items ++ c.term_at-t.result ∷ [])) (sym (take_more places at.place-index _ c.loop-place-test.true))
    (AllZip-push (λ (p : ℕ) (t : TermId). slice_get asserts p ≡ Some t) (take at.place-index places) at.terms.items _ c.term_at-t.result at.invariant c.term_at-t.ensures.stands))
