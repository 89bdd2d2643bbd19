-- Whether a class has two terms of different constructors, by the shapes of all classes.
use Rattle.std.proofs.Common.{◌≡◌, ℕ, ◌⊎◌, List, length, slice_get, Some, None, sym, subst, ◌∙◌, inl, inr, arith}
use Rattle.std.proofs.lemmas.Option.{none-some, same_Some, slice_get_within}
use Rattle.ct_lemmas.proofs.Lists.{slice_get-there}
use Rattle.ct_terms.specs.declared.ids.TermId.{TermId}
use Rattle.ct_terms.specs.declared.term.Core.TheVariants.{Con}
use Rattle.ct_terms.specs.Terms.{Terms, Has}
use Rattle.ct_congr.specs.declared.constructors.Shape.{Shape}
use Rattle.ct_congr.specs.Rules.{AreShapes}
use Rattle.ct_congr.specs.State.{IsClashOf}
use Rattle.ct_congr.proofs.TermLemmas.{Has-inside, Has-constructor}

module _ (terms : Terms) (reps : List TermId) (shapes : List Shape) (long : length shapes ≡ length reps) (own : (x r : TermId) → slice_get reps x.0 ≡ Some r → slice_get reps r.0 ≡ Some r) (are : AreShapes terms reps (length terms) shapes) where
  pub IsClashOf-shape : (k : ℕ) (shape : Shape) (f o : TermId) → slice_get shapes k ≡ Some shape → shape.first ≡ Some f → shape.other ≡ Some o → IsClashOf terms reps f o
  IsClashOf-shape k shape f o at first other =
      let r : TermId = record { 0 = k } in
      let h = (are r shape at).other o other in
      let same : h.0 ≡ f = same_Some h.0 f (sym h.3 ∙ first) in
      record {
        first = h.1;
        second = h.2;
        xs = h.4.0;
        ys = h.5.0;
        left = subst (λ (q : TermId). Has terms (Con h.1 h.4.0) q.0) same h.4.1;
        right = h.5.1;
        apart = h.6;
        equal = (r, subst (λ (q : TermId). slice_get reps q.0 ≡ Some r) same h.4.2, h.5.2);
      }

  pub no_clash : ((k : ℕ) (shape : Shape) → slice_get shapes k ≡ Some shape → (shape.first ≡ None) ⊎ (shape.other ≡ None)) → (a b : TermId) → IsClashOf terms reps a b → ⊥
  no_clash each a b clash =
      let r = clash.equal.0 in
      let s = slice_get-there shapes r.0 (omega (arith, long, slice_get_within reps r.0 r (own a r clash.equal.1))) in
      let is = are r s.0 s.1 in
      let left = is.all a clash.first (Has-inside terms (Con clash.first clash.xs) a.0 clash.left) (clash.xs, clash.left, clash.equal.1) in
      let right = is.all b clash.second (Has-inside terms (Con clash.second clash.ys) b.0 clash.right) (clash.ys, clash.right, clash.equal.2) in
      elim (each r.0 s.0 s.1) [
        | inl none ↦ none-some left.0 (sym none ∙ left.1)
        | inr none ↦
            let p = left.2 none in
            let q = right.2 none in
            let same : right.0 ≡ left.0 = same_Some right.0 left.0 (sym right.1 ∙ left.1) in
            let stands : Has terms (Con clash.second q.0) left.0.0 = subst (λ (t : TermId). Has terms (Con clash.second q.0) t.0) same q.1 in
            clash.apart (Has-constructor terms clash.first clash.second p.0 q.0 left.0.0 p.1 stands).0
      ]
