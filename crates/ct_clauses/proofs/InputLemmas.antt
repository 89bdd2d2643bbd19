-- The different assertions, and which were seen.
use Rattle.std.proofs.Common.{◌≡◌, ℕ, ◌<◌, ◌⊎◌, inl, inr, Bool, true, false, not, cond, nat_eq, List, [], ◌∷◌, ◌++◌, length, set, replicate, filter, Contains, Some, slice_get, refl, sym, ap, subst, ◌∙◌, append-nil}
use Rattle.std.proofs.lemmas.Bool.Decides.{Decides-eqb}
use Rattle.std.proofs.lemmas.List.Elements.{filter-append, Contains-append_left, Contains-push, Contains-push_cases}
use Rattle.std.proofs.lemmas.Option.{same_Some}
use Rattle.ct_lemmas.proofs.Contained.{Contains-cons, Contains-first, Contains-none, Contains-rest}
use Rattle.ct_lemmas.proofs.Lists.{slice_get-replicate_false, slice_get-set_other, slice_get-set_same}
use Rattle.ct_lemmas.proofs.Numbers.{same_or_other}
use Rattle.ct_terms.specs.declared.ids.TermId.{TermId}
use Rattle.ct_clauses.specs.Initial.{firsts}
use Rattle.ct_clauses.specs.Growth.{AreSeen}

-- terms with one number are one
pub same_term : (t u : TermId) → t.0 ≡ u.0 → t ≡ u
same_term t u e = let of : ℕ → TermId = λ n. record { 0 = n } in ap of e

-- the test that two numbers are different
pub differs : (a b : ℕ) → (a ≡ b → ⊥) → not (nat_eq a b) ≡ true
differs a b other = by (nat_eq a b) refl
  where
    by : (r : Bool) → nat_eq a b ≡ r → not r ≡ true
    by true e = absurd (other ((Decides-eqb a b).0 e))
    by false e = refl

pub not_differs : (a b : ℕ) → a ≡ b → not (nat_eq a b) ≡ false
not_differs a b same = ap not ((Decides-eqb a b).1 same)

-- a term is among these or is not
among : (ts : List TermId) (t : TermId) → Contains ts t ⊎ (Contains ts t → ⊥)
among [] t = inr (λ h. Contains-none t h)
among (u ∷ ts) t =
    elim (same_or_other u.0 t.0) [
      | inl e ↦ inl (subst (λ (v : TermId). Contains (u ∷ ts) v) (same_term u t e) (Contains-first u ts))
      | inr n ↦
          elim (among ts t) [
            | inl h ↦ inl (Contains-rest u ts t h)
            | inr out ↦ inr (λ h. elim (Contains-cons u ts t h) [ inl e ↦ n (ap (λ (v : TermId). v.0) e) | inr k ↦ out k ])
          ]
    ]

-- the terms without this one
abbrev others : TermId → List TermId → List TermId
others t ts = filter (λ u. not (nat_eq u.0 t.0)) ts

others-push : (t u : TermId) (ts : List TermId) → others t (ts ++ u ∷ []) ≡ others t ts ++ cond (not (nat_eq u.0 t.0)) (u ∷ []) []
others-push t u ts = filter-append (λ (v : TermId). not (nat_eq v.0 t.0)) ts (u ∷ [])

-- a new term comes last
pub firsts_new : (ts : List TermId) (t : TermId) → (Contains ts t → ⊥) → firsts (ts ++ t ∷ []) ≡ firsts ts ++ t ∷ []
firsts_new [] t out = refl
firsts_new (u ∷ ts) t out =
    let other : t.0 ≡ u.0 → ⊥ = λ e. out (subst (λ (v : TermId). Contains (u ∷ ts) v) (sym (same_term t u e)) (Contains-first u ts)) in
    let kept : cond (not (nat_eq t.0 u.0)) (t ∷ []) [] ≡ t ∷ [] = ap (λ (b : Bool). cond b (t ∷ []) []) (differs t.0 u.0 other) in
    ap (λ (l : List TermId). u ∷ others u l) (firsts_new ts t (λ h. out (Contains-rest u ts t h)))
    ∙ ap (λ (l : List TermId). u ∷ l) (others-push u t (firsts ts) ∙ ap (λ (l : List TermId). others u (firsts ts) ++ l) kept)

-- a term that was there changes nothing
pub firsts_old : (ts : List TermId) (t : TermId) → Contains ts t → firsts (ts ++ t ∷ []) ≡ firsts ts
firsts_old [] t h = absurd (Contains-none t h)
firsts_old (u ∷ ts) t h =
    elim (among ts t) [
      | inl inside ↦ ap (λ (l : List TermId). u ∷ others u l) (firsts_old ts t inside)
      | inr out ↦
          elim (Contains-cons u ts t h) [
            | inr inside ↦ absurd (out inside)
            | inl same ↦
                let dropped : cond (not (nat_eq t.0 u.0)) (t ∷ []) [] ≡ [] = ap (λ (b : Bool). cond b (t ∷ []) []) (not_differs t.0 u.0 (ap (λ (v : TermId). v.0) (sym same))) in
                ap (λ (l : List TermId). u ∷ others u l) (firsts_new ts t out)
                ∙ ap (λ (l : List TermId). u ∷ l) (others-push u t (firsts ts) ∙ ap (λ (l : List TermId). others u (firsts ts) ++ l) dropped ∙ append-nil (others u (firsts ts)))
          ]
    ]

-- a term that was seen is seen again
pub seen_again : (marks : List Bool) (ts : List TermId) (t : TermId) → slice_get marks t.0 ≡ Some true → AreSeen marks ts → AreSeen marks (ts ++ t ∷ [])
seen_again marks ts t at seen u = (
  λ set_at. Contains-append_left ts (t ∷ []) u ((seen u).0 set_at),
  λ h. elim (Contains-push_cases ts t u h) [ inl k ↦ (seen u).1 k | inr e ↦ subst (λ (v : TermId). slice_get marks v.0 ≡ Some true) e at ],
)

-- a new term is marked
pub seen_new : (marks : List Bool) (ts : List TermId) (t : TermId) → t.0 < length marks → AreSeen marks ts → AreSeen (set marks t.0 true) (ts ++ t ∷ [])
seen_new marks ts t within seen u =
    elim (same_or_other u.0 t.0) [
      | inl e ↦ (
        λ at. subst (λ (v : TermId). Contains (ts ++ t ∷ []) v) (sym (same_term u t e)) (Contains-push ts t),
        λ h. subst (λ (n : ℕ). slice_get (set marks t.0 true) n ≡ Some true) (sym e) (slice_get-set_same marks t.0 true within),
      )
      | inr n ↦ (
        λ at. Contains-append_left ts (t ∷ []) u ((seen u).0 (sym (slice_get-set_other marks t.0 u.0 true n) ∙ at)),
        λ h. slice_get-set_other marks t.0 u.0 true n ∙ elim (Contains-push_cases ts t u h) [ inl k ↦ (seen u).1 k | inr e ↦ absurd (n (ap (λ (v : TermId). v.0) (sym e))) ],
      )
    ]

-- nothing is seen at the start
pub seen_none : (marks : List Bool) → ((i : ℕ) → slice_get marks i ≡ Some true → ⊥) → AreSeen marks []
seen_none marks all_unset u = (λ at. absurd (all_unset u.0 at), λ h. absurd (Contains-none u h))

-- what is not set was not seen
pub unseen : (marks : List Bool) (ts : List TermId) (t : TermId) → slice_get marks t.0 ≡ Some false → AreSeen marks ts → Contains ts t → ⊥
unseen marks ts t at seen h = true_false (same_Some true false (sym ((seen t).1 h) ∙ at))
  where
    true_false : true ≡ false → ⊥
    true_false e = cc

pub seen_start : (marks : List Bool) (n : ℕ) → marks ≡ replicate n false → AreSeen marks []
seen_start marks n is = seen_none marks (λ i at. slice_get-replicate_false n i (sym (ap (λ (ms : List Bool). slice_get ms i) is) ∙ at))
