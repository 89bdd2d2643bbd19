-- The first terms of sorts with one value.
use Rattle.std.proofs.Common.{◌≡◌, ℕ, ◌+◌, ◌<◌, ◌⊎◌, ◌↔◌, Bool, true, false, MatchBool, List, [], ◌∷◌, ◌++◌, length, Option, slice_get, Some, None, refl, sym, ap, subst, ◌∙◌, inl, inr, arith, true≢false}
use Rattle.std.proofs.lemmas.Option.{none-some, same_Some, slice_get_within}
use Rattle.ct_lemmas.proofs.Lists.{slice_get-append_left, slice_get-last, slice_get-push_cases}
use Rattle.ct_lemmas.proofs.Numbers.{same_or_other}
use Rattle.ct_sorts.specs.declared.ids.SortId.{SortId}
use Rattle.ct_sorts.specs.Declarations.{Declarations}
use Rattle.ct_terms.specs.declared.ids.TermId.{TermId}
use Rattle.ct_terms.specs.Terms.{Terms, IsOfSort}
use Rattle.ct_card.specs.declared.size.Size.{Size}
use Rattle.ct_card.specs.declared.size.Size.TheVariants.{One}
use Rattle.ct_card.specs.Cardinality.{IsSingle, HasSize}
use Rattle.ct_rules.specs.Rules.{Equations}
use Rattle.ct_congr.specs.Rules.{IsSingular, AreSingleSorts, IsFirst}

-- each stored term is of its sort, which has one value
abbrev pub AreFirsts : Terms → List Bool → List (Option TermId) → Type 0
AreFirsts terms single firsts = (s : SortId) (u : TermId) → slice_get firsts s.0 ≡ Some (Some u) → IsOfSort terms u s × (slice_get single s.0 ≡ Some true)

-- each term below a number that is of such a sort is known to be equal to the stored one
abbrev pub AreSingled : Terms → List Bool → Equations → List (Option TermId) → ℕ → Type 0
AreSingled terms single known firsts n = (t : TermId) (s : SortId) → t.0 < n → IsOfSort terms t s → slice_get single s.0 ≡ Some true → (u : TermId) × (slice_get firsts s.0 ≡ Some (Some u)) × known t u

pub AreSingled-wider : (terms : Terms) (single : List Bool) (known wider : Equations) (firsts : List (Option TermId)) (n : ℕ) → ((x y : TermId) → known x y → wider x y) → AreSingled terms single known firsts n → AreSingled terms single wider firsts n
AreSingled-wider terms single known wider firsts n each all t s below of one = let h = all t s below of one in (h.0, h.1, each t h.0 h.2)

-- a term has one sort
one_sort : (terms : Terms) (t : TermId) (r s : SortId) → IsOfSort terms t r → IsOfSort terms t s → r ≡ s
one_sort terms t r s p q = ap (λ e. e.1) (same_Some (p.0, r) (q.0, s) (sym p.1 ∙ q.1))

below_cases : (t u : TermId) → u.0 < t.0 + 1 → (u.0 < t.0) ⊎ (t ≡ u)
below_cases t u below = elim (same_or_other u.0 t.0) [
  | inl e ↦ inr (λ i. record { 0 = sym e i })
  | inr other ↦ inl (omega (arith, other, below))
]

module _ (terms : Terms) (single : List Bool) (old new : List (Option TermId)) (s : SortId) (t first : TermId) (sorted : IsOfSort terms t s) where
  -- the first term is of the sort, which has one value, or it is the term itself
  pub first_sorted : AreFirsts terms single old → IsFirst single old new s t first → (first ≡ t) ⊎ (IsOfSort terms first s × (slice_get single s.0 ≡ Some true))
  first_sorted firsts (inl h) = inl h.2
  first_sorted firsts (inr h) = elim h.1 [
    | inl p ↦ inr (firsts s first p.0)
    | inr p ↦ inl p.0
  ]

  pub AreFirsts-more : AreFirsts terms single old → IsFirst single old new s t first → AreFirsts terms single new
  AreFirsts-more firsts (inl h) = subst (AreFirsts terms single) (sym h.1) firsts
  AreFirsts-more firsts (inr h) = elim h.1 [
    | inl p ↦ subst (AreFirsts terms single) (sym p.1) firsts
    | inr p ↦ λ r u at. elim (same_or_other r.0 s.0) [
      | inl e ↦
          let is : s ≡ r = λ i. record { 0 = sym e i } in
          let same : t ≡ u = same_Some t u (same_Some (Some t) (Some u) (sym (ap (slice_get new) e ∙ p.1) ∙ at)) in
          (subst (IsOfSort terms u) is (subst (λ (w : TermId). IsOfSort terms w s) same sorted), ap (slice_get single) e ∙ h.0)
      | inr other ↦ firsts r u (sym (p.3 r.0 other) ∙ at)
    ]
  ]

  pub AreSingled-more : (known : Equations) → AreSingled terms single known old t.0 → known t first → IsFirst single old new s t first → AreSingled terms single known new (t.0 + 1)
  AreSingled-more known singled equal (inl h) v r below of_sort one = elim (below_cases t v below) [
    | inl before ↦ let p = singled v r before of_sort one in (p.0, ap (λ list. slice_get list r.0) h.1 ∙ p.1, p.2)
    | inr is ↦
        let same : s ≡ r = one_sort terms v s r (subst (λ (w : TermId). IsOfSort terms w s) is sorted) of_sort in
        absurd (h.0 (ap (λ (q : SortId). slice_get single q.0) same ∙ one))
  ]
  AreSingled-more known singled equal (inr h) v r below of_sort one = elim (same_or_other r.0 s.0) [
    | inl e ↦ elim (below_cases t v below) [
      | inl before ↦ let p = singled v r before of_sort one in elim h.1 [
        | inl q ↦ (p.0, ap (λ list. slice_get list r.0) q.1 ∙ p.1, p.2)
        | inr q ↦ absurd (none-some p.0 (same_Some None (Some p.0) (sym q.2 ∙ ap (slice_get old) (sym e) ∙ p.1)))
      ]
      | inr is ↦
          let here : slice_get new s.0 ≡ Some (Some first) = elim h.1 [
            | inl q ↦ ap (λ list. slice_get list s.0) q.1 ∙ q.0
            | inr q ↦ q.1 ∙ ap (λ (w : TermId). Some (Some w)) (sym q.0)
          ] in
          (first, ap (slice_get new) e ∙ here, subst (λ (w : TermId). known w first) is equal)
    ]
    | inr other ↦ elim (below_cases t v below) [
      | inl before ↦ let p = singled v r before of_sort one in elim h.1 [
        | inl q ↦ (p.0, ap (λ list. slice_get list r.0) q.1 ∙ p.1, p.2)
        | inr q ↦ (p.0, q.3 r.0 other ∙ p.1, p.2)
      ]
      | inr is ↦
          let same : s ≡ r = one_sort terms v s r (subst (λ (w : TermId). IsOfSort terms w s) is sorted) of_sort in
          absurd (other (sym (ap (λ (q : SortId). q.0) same)))
    ]
  ]

-- where all are with the stored ones, two of one sort are of one class
pub IsSingular-all : (d : Declarations) (terms : Terms) (single : List Bool) (known : Equations) (firsts : List (Option TermId)) → ((x y : TermId) → known x y → known y x) → ((x y z : TermId) → known x y → known y z → known x z) → AreSingleSorts d single → AreSingled terms single known firsts (length terms) → IsSingular d terms known
IsSingular-all d terms single known firsts back through sorts all x y rule =
    let one = (sorts rule.sort.0).1 rule.single in
    let p = all x rule.sort (slice_get_within terms x.0 (rule.left.0, rule.sort) rule.left.1) rule.left one in
    let q = all y rule.sort (slice_get_within terms y.0 (rule.right.0, rule.sort) rule.right.1) rule.right one in
    let same : p.0 ≡ q.0 = same_Some p.0 q.0 (same_Some (Some p.0) (Some q.0) (sym p.1 ∙ q.1)) in
    through x q.0 y (subst (known x) same p.2) (back y q.0 q.2)

-- ---- which sorts have one value

one_from : (b : Bool) (P : Type 0) → MatchBool b P (P → ⊥) → b ≡ true → P
one_from true P m e = m
one_from false P m e = absurd (true≢false (sym e))

one_back : (b : Bool) (P : Type 0) → MatchBool b P (P → ⊥) → P → b ≡ true
one_back true P m p = refl
one_back false P m p = absurd (m p)

-- the sorts below a number are marked where they have one value
abbrev pub AreMarked : Declarations → List Bool → ℕ → Type 0
AreMarked d single n = (k : ℕ) → k < n → (slice_get single k ≡ Some true) ↔ IsSingle d k

pub AreMarked-more : (d : Declarations) (single : List Bool) (n : ℕ) (size : Size) (b : Bool) → length single ≡ n → AreMarked d single n → HasSize d n size → ((p q : Size) → HasSize d n p → HasSize d n q → p ≡ q) → MatchBool b (size ≡ One) (size ≡ One → ⊥) → AreMarked d (single ++ b ∷ []) (n + 1)
AreMarked-more d single n size b long marked sized unique is k below = elim (same_or_other k n) [
  | inl e ↦
      let here : slice_get (single ++ b ∷ []) k ≡ Some b = rw (e ∙ sym long) (slice_get-last single b) in (
        λ h. subst (IsSingle d) (sym e) (subst (HasSize d n) (one_from b (size ≡ One) is (same_Some b true (sym here ∙ h))) sized),
        λ h. here ∙ ap Some (one_back b (size ≡ One) is (unique size One sized (subst (IsSingle d) e h))),
      )
  | inr other ↦
      let before = marked k (omega (arith, other, below)) in (
        λ h. elim (slice_get-push_cases single b true k h) [
          | inl at ↦ before.0 at
          | inr last ↦ absurd (omega (arith, other, last.0, long))
        ],
        λ h. slice_get-append_left single (b ∷ []) k true (before.1 h),
      )
]

pub AreSingleSorts-all : (d : Declarations) (single : List Bool) (n : ℕ) → length single ≡ n → n ≡ length d.sorts → AreMarked d single n → AreSingleSorts d single
AreSingleSorts-all d single n long all marked s = (
  λ h. (marked s (omega (arith, slice_get_within single s true h, long))).0 h,
  λ h.
      let shape = h.1 s h.2 in
      (marked s (omega (arith, slice_get_within d.sorts s shape.sort shape.of_sort, all))).1 h,
)
