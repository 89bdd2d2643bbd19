-- Classes of which one is put to another.
use Rattle.std.proofs.Common.{◌≡◌, ◌+◌, List, ◌++◌, length, slice_get, Some, refl, sym, ap, ◌∙◌, subst, inl, inr}
use Rattle.std.specs.List.{Contains}
use Rattle.std.proofs.lemmas.List.Elements.{Contains-append_left, Contains-append_right, Contains-append_cases}
use Rattle.std.proofs.lemmas.Option.{same_Some}
use Rattle.ct_lemmas.proofs.Contained.{Contains-from_slice_get}
use Rattle.ct_lemmas.proofs.Lists.{slice_get-append_cases}
use Rattle.ct_terms.specs.declared.ids.TermId.{TermId}
use Rattle.ct_equivalence.specs.Partition.{AreDistinct, IsClass, IsRelabelled}
use Rattle.ct_equivalence.proofs.RelabelLemmas.{relabelled_from}

-- two lists of different terms without a common one
AreDistinct-append : (xs ys : List TermId) → AreDistinct xs → AreDistinct ys → ((t : TermId) → Contains xs t → Contains ys t → ⊥) → AreDistinct (xs ++ ys)
AreDistinct-append xs ys first second apart i j t at_i at_j =
    elim (slice_get-append_cases xs ys i t at_i) [
      | inl p ↦ elim (slice_get-append_cases xs ys j t at_j) [
        | inl q ↦ first i j t p q
        | inr q ↦ absurd (apart t (Contains-from_slice_get xs i t p) (Contains-from_slice_get ys q.0 t q.2))
      ]
      | inr p ↦ elim (slice_get-append_cases xs ys j t at_j) [
        | inl q ↦ absurd (apart t (Contains-from_slice_get xs j t q) (Contains-from_slice_get ys p.0 t p.2))
        | inr q ↦ p.1 ∙ ap (λ n. length xs + n) (second p.0 q.0 t p.2 q.2) ∙ sym q.1
      ]
    ]

module _ (before now : List TermId) (winner loser : TermId) (done : IsRelabelled before now winner loser) where
  pub of_loser : (x : TermId) → slice_get before x.0 ≡ Some loser → slice_get now x.0 ≡ Some winner
  of_loser x at = elim (done.each x loser at) [ inl p ↦ p.1 | inr p ↦ absurd (p.0 refl) ]

  pub of_winner : (x : TermId) → slice_get before x.0 ≡ Some winner → slice_get now x.0 ≡ Some winner
  of_winner x at = elim (done.each x winner at) [ inl p ↦ p.1 | inr p ↦ p.1 ]

  -- a representative is its own still
  pub own_kept : slice_get before winner.0 ≡ Some winner → ((x r : TermId) → slice_get before x.0 ≡ Some r → slice_get before r.0 ≡ Some r) → (x r : TermId) → slice_get now x.0 ≡ Some r → slice_get now r.0 ≡ Some r
  own_kept winner_is own x r at = elim (relabelled_from before now winner loser done x r at) [
    | inl h ↦ subst (λ (s : TermId). slice_get now s.0 ≡ Some s) (sym h.0) (of_winner winner winner_is)
    | inr h ↦ elim (done.each r r (own x r h.1)) [
      | inl p ↦ absurd (h.0 p.0)
      | inr p ↦ p.1
    ]
  ]

  pub IsClass-winner : (mine moved : List TermId) → (winner ≡ loser → ⊥) → IsClass before winner mine → IsClass before loser moved → IsClass now winner (mine ++ moved)
  IsClass-winner mine moved apart first second = record {
    all = λ t at. elim (relabelled_from before now winner loser done t winner at) [
      | inl h ↦ Contains-append_right mine moved t (second.all t h.1)
      | inr h ↦ Contains-append_left mine moved t (first.all t h.1)
    ];
    only = λ t has. elim (Contains-append_cases mine moved t has) [
      | inl h ↦ of_winner t (first.only t h)
      | inr h ↦ of_loser t (second.only t h)
    ];
    once = AreDistinct-append mine moved first.once second.once (λ t p q. apart (same_Some winner loser (sym (first.only t p) ∙ second.only t q)));
  }

  pub IsClass-other : (r : TermId) (row : List TermId) → (r ≡ winner → ⊥) → (r ≡ loser → ⊥) → IsClass before r row → IsClass now r row
  IsClass-other r row not_winner not_loser class = record {
    all = λ t at. elim (relabelled_from before now winner loser done t r at) [
      | inl h ↦ absurd (not_winner h.0)
      | inr h ↦ class.all t h.1
    ];
    only = λ t has. elim (done.each t r (class.only t has)) [
      | inl h ↦ absurd (not_loser h.0)
      | inr h ↦ h.1
    ];
    once = class.once;
  }
