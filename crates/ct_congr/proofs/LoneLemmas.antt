-- Terms that are congruent to themselves alone: listed by their heads and numbers of arguments.
use Rattle.std.proofs.Common.{◌≡◌, ℕ, suc, Bool, true, false, true≢false, List, [], ◌∷◌, length, replicate, slice_get, Some, refl, sym, ap, ap₂, subst, ◌∙◌, inl, inr, arith}
use Rattle.std.specs.List.{AllZip}
use Rattle.std.proofs.lemmas.Option.{same_Some}
use Rattle.ct_terms.specs.declared.ids.TermId.{TermId}
use Rattle.ct_terms.specs.declared.term.Core.{Core}
use Rattle.ct_terms.specs.Children.{core_head, core_children}
use Rattle.ct_terms.specs.Terms.{Terms, Has}
use Rattle.ct_equivalence.specs.Over.{IsLone, AreLone}
use Rattle.ct_congr.specs.Normal.{IsRepresented, IsNormal}
use Rattle.ct_equivalence.specs.Signatures.{Signatures, AreDifferent}
use Rattle.ct_congr.specs.Lone.{IsBlank, IsListed}
use Rattle.ct_lemmas.proofs.Lists.{slice_get-replicate}
use Rattle.ct_lemmas.proofs.Contained.{slice_get-from_Contains}
use Rattle.ct_congr.proofs.NormalLemmas.{same_parts}

-- as many places, each with the one term of the list
same_blanks : (blank : List TermId) → IsBlank blank → (xs ys ks ms : List TermId) → AllZip (IsRepresented blank) xs ks → AllZip (IsRepresented blank) ys ms → length xs ≡ length ys → ks ≡ ms
same_blanks blank is [] [] [] [] p q long = refl
same_blanks blank is [] [] [] (m ∷ ms) p q long = absurd q
same_blanks blank is [] [] (k ∷ ks) ms p q long = absurd p
same_blanks blank is [] (y ∷ ys) ks ms p q long = absurd (omega (arith, long))
same_blanks blank is (x ∷ xs) [] ks ms p q long = absurd (omega (arith, long))
same_blanks blank is (x ∷ xs) (y ∷ ys) [] ms p q long = absurd p
same_blanks blank is (x ∷ xs) (y ∷ ys) (k ∷ ks) [] p q long = absurd q
same_blanks blank is (x ∷ xs) (y ∷ ys) (k ∷ ks) (m ∷ ms) p q long =
    ap₂ (λ (z : TermId) (zs : List TermId). z ∷ zs) (is x.0 y.0 k m p.0 q.0) (same_blanks blank is xs ys ks ms p.1 q.1 (omega (arith, long)))

pub IsBlank-replicate : (n : ℕ) (t : TermId) → IsBlank (replicate n t)
IsBlank-replicate n t j k x y p q = slice_get-replicate n j t x p ∙ sym (slice_get-replicate n k t y q)

-- the marks that are left are right
pub AreLone-listed : (terms : Terms) (blank : List TermId) (keys : Signatures) (lone : List Bool) → IsBlank blank → AreDifferent keys → ((t : TermId) (core : Core) → Has terms core t.0 → IsListed blank keys lone t core) → AreLone terms lone
AreLone-listed terms blank keys lone is different listed t marked u core other stands there head long =
    let p = listed t core stands in
    let q = listed u other there in
    let key : p.key ≡ q.key = same_parts p.key q.key (sym p.normal.head ∙ head ∙ q.normal.head) (same_blanks blank is (core_children core) (core_children other) (core_children p.key) (core_children q.key) p.normal.arguments q.normal.arguments long) in
    let left = slice_get-from_Contains keys (p.key, p.first) p.keyed in
    let right = slice_get-from_Contains keys (q.key, q.first) q.keyed in
    let at : slice_get keys left.0 ≡ Some (q.key, p.first) = subst (λ (k : Core). slice_get keys left.0 ≡ Some (k, p.first)) key left.1 in
    let place : left.0 ≡ right.0 = different left.0 right.0 q.key p.first q.first at right.1 in
    let first : p.first ≡ q.first = ap (λ e. e.1) (same_Some (q.key, p.first) (q.key, q.first) (sym at ∙ ap (slice_get keys) place ∙ right.1)) in
    elim p.sides [
      | inl mine ↦ elim q.sides [
        | inl theirs ↦ mine ∙ first ∙ sym theirs
        | inr none ↦ absurd (unmarked t marked (subst (λ (f : TermId). slice_get lone f.0 ≡ Some false) (sym (mine ∙ first)) none.1))
      ]
      | inr none ↦ absurd (unmarked t marked none.0)
    ]
  where
    unmarked : (x : TermId) → slice_get lone x.0 ≡ Some true → slice_get lone x.0 ≡ Some false → ⊥
    unmarked x on off = true≢false (same_Some true false (sym on ∙ off))
