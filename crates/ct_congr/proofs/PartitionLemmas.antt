-- Classes of terms when two become one: where they come from, and what stays.
use Rattle.std.proofs.Common.{◌≡◌, ◌<◌, ◌⊎◌, List, length, slice_get, get_or, Some, refl, sym, ap, ◌∙◌, inl, inr, arith}
use Rattle.std.proofs.lemmas.Option.{same_Some, slice_get-get_or, slice_get_within}
use Rattle.ct_lemmas.proofs.Numbers.{same_or_other}
use Rattle.ct_terms.specs.declared.ids.TermId.{TermId}
use Rattle.ct_congr.specs.Partition.{InOneClass, IsRelabelled, IsUnion}

-- two terms are one or not
pub term_cases : (x y : TermId) → (x ≡ y) ⊎ (x ≡ y → ⊥)
term_cases x y = elim (same_or_other x.0 y.0) [
  | inl e ↦ inl (λ i. record { 0 = e i })
  | inr other ↦ inr (λ e. other (ap (λ t. t.0) e))
]

-- where a representative comes from
pub relabelled_from : (before now : List TermId) (winner loser : TermId) → IsRelabelled before now winner loser → (x r : TermId) → slice_get now x.0 ≡ Some r → ((r ≡ winner) × (slice_get before x.0 ≡ Some loser)) ⊎ ((r ≡ loser → ⊥) × (slice_get before x.0 ≡ Some r))
relabelled_from before now winner loser done x r at =
    let within : x.0 < length before = omega (arith, slice_get_within now x.0 r at, done.long) in
    let old = get_or before x.0 x in
    let was : slice_get before x.0 ≡ Some old = slice_get-get_or before x.0 x within in
    elim (done.each x old was) [
      | inl h ↦ inl (same_Some r winner (sym at ∙ h.1), was ∙ ap Some h.0)
      | inr h ↦
          let same : old ≡ r = same_Some old r (sym h.1 ∙ at) in
          inr (λ e. h.0 (same ∙ e), was ∙ ap Some same)
    ]

-- ---- how the classes change

module _ (old new : List TermId) (a b winner loser : TermId) (union : IsUnion old new a b winner loser) where
  -- what was of one class still is
  pub IsUnion-keeps : (x y : TermId) → InOneClass old x y → InOneClass new x y
  IsUnion-keeps x y h = elim (union.relabelled.each x h.0 h.1) [
    | inl p ↦ elim (union.relabelled.each y h.0 h.2) [
      | inl q ↦ (winner, p.1, q.1)
      | inr q ↦ absurd (q.0 p.0)
    ]
    | inr p ↦ elim (union.relabelled.each y h.0 h.2) [
      | inl q ↦ absurd (p.0 q.0)
      | inr q ↦ (h.0, p.1, q.1)
    ]
  ]

  -- a term of the second class has the first representative now
  of_loser : (x : TermId) → slice_get old x.0 ≡ Some loser → slice_get new x.0 ≡ Some winner
  of_loser x at = elim (union.relabelled.each x loser at) [ inl p ↦ p.1 | inr p ↦ absurd (p.0 refl) ]

  of_winner : (x : TermId) → slice_get old x.0 ≡ Some winner → slice_get new x.0 ≡ Some winner
  of_winner x at = elim (union.relabelled.each x winner at) [ inl p ↦ p.1 | inr p ↦ p.1 ]

  -- the two terms are of one class
  pub IsUnion-joins : InOneClass new a b
  IsUnion-joins = elim union.sides [
    | inl h ↦ (winner, of_winner a (union.left_is ∙ ap Some (sym h.0)), of_loser b (union.right_is ∙ ap Some (sym h.1)))
    | inr h ↦ (winner, of_loser a (union.left_is ∙ ap Some (sym h.1)), of_winner b (union.right_is ∙ ap Some (sym h.0)))
  ]

  -- where a pair of one class comes from
  pub IsUnion-cases : (x y : TermId) → InOneClass new x y → InOneClass old x y ⊎ ((InOneClass old x a × InOneClass old b y) ⊎ (InOneClass old x b × InOneClass old a y))
  IsUnion-cases x y h = elim (relabelled_from old new winner loser union.relabelled x h.0 h.1) [
    | inl p ↦ elim (relabelled_from old new winner loser union.relabelled y h.0 h.2) [
      | inl q ↦ inl (loser, p.1, q.1)
      | inr q ↦ inr (mixed x y p.1 (q.1 ∙ ap Some p.0))
    ]
    | inr p ↦ elim (relabelled_from old new winner loser union.relabelled y h.0 h.2) [
      | inl q ↦ inr (elim (mixed y x q.1 (p.1 ∙ ap Some q.0)) [
        | inl m ↦ inr ((m.1.0, m.1.2, m.1.1), (m.0.0, m.0.2, m.0.1))
        | inr m ↦ inl ((m.1.0, m.1.2, m.1.1), (m.0.0, m.0.2, m.0.1))
      ])
      | inr q ↦ inl (h.0, p.1, q.1)
    ]
  ]
    where
      mixed : (u v : TermId) → slice_get old u.0 ≡ Some loser → slice_get old v.0 ≡ Some winner → (InOneClass old u a × InOneClass old b v) ⊎ (InOneClass old u b × InOneClass old a v)
      mixed u v at_u at_v = elim union.sides [
        | inl s ↦ inr ((loser, at_u, union.right_is ∙ ap Some (sym s.1)), (winner, union.left_is ∙ ap Some (sym s.0), at_v))
        | inr s ↦ inl ((loser, at_u, union.left_is ∙ ap Some (sym s.1)), (winner, union.right_is ∙ ap Some (sym s.0), at_v))
      ]
