-- What it comes to that all members of a class get another representative, and that they get the old one back.
use Rattle.std.proofs.Common.{◌≡◌, ℕ, zero, suc, ◌<◌, ◌≤◌, ◌⊎◌, List, [], ◌∷◌, ◌++◌, length, set, slice_get, get_or, Some, None, refl, sym, ap, ◌∙◌, subst, inl, inr, arith}
use Rattle.std.proofs.lemmas.List.{length-set}
use Rattle.std.proofs.lemmas.Option.{none-some, same_Some, slice_get-get_or, slice_get_within, slice_get_cases}
use Rattle.ct_lemmas.proofs.Contained.{Contains-from_slice_get, slice_get-from_Contains}
use Rattle.ct_lemmas.proofs.Lists.{slice_get-set_other, slice_get-set_same}
use Rattle.ct_lemmas.proofs.Numbers.{same_or_other}
use Rattle.ct_terms.specs.declared.ids.TermId.{TermId}
use Rattle.ct_equivalence.specs.Partition.{IsClass, IsRelabelled}
use Rattle.ct_equivalence.specs.Undoing.{relabelled}
use Rattle.ct_equivalence.proofs.ListLemmas.{same_by_index, term_cases}

-- one more term
pub relabelled-push : (reps done : List TermId) (t rep : TermId) → relabelled reps (done ++ t ∷ []) rep ≡ set (relabelled reps done rep) t.0 rep
relabelled-push reps [] t rep = refl
relabelled-push reps (u ∷ done) t rep = relabelled-push (set reps u.0 rep) done t rep

pub length-relabelled : (reps terms : List TermId) (rep : TermId) → length (relabelled reps terms rep) ≡ length reps
length-relabelled reps [] rep = refl
length-relabelled reps (t ∷ terms) rep = length-relabelled (set reps t.0 rep) terms rep ∙ length-set reps t.0 rep

-- a term with this representative has it after
kept : (reps terms : List TermId) (rep : TermId) (k : ℕ) → slice_get reps k ≡ Some rep → slice_get (relabelled reps terms rep) k ≡ Some rep
kept reps [] rep k at = at
kept reps (t ∷ terms) rep k at =
    let step : slice_get (set reps t.0 rep) k ≡ Some rep = elim (same_or_other k t.0) [
      | inl e ↦ subst (λ (n : ℕ). slice_get (set reps t.0 rep) n ≡ Some rep) (sym e) (slice_get-set_same reps t.0 rep (subst (λ (n : ℕ). n < length reps) e (slice_get_within reps k rep at)))
      | inr other ↦ slice_get-set_other reps t.0 k rep other ∙ at
    ] in
    kept (set reps t.0 rep) terms rep k step

-- the terms have this representative
pub relabelled-given : (reps terms : List TermId) (rep : TermId) (k : ℕ) (t : TermId) → slice_get terms k ≡ Some t → t.0 < length reps → slice_get (relabelled reps terms rep) t.0 ≡ Some rep
relabelled-given reps [] rep k t at within = absurd (none-some t at)
relabelled-given reps (u ∷ terms) rep zero t at within =
    let same : u ≡ t = same_Some u t at in
    let step : slice_get (set reps u.0 rep) t.0 ≡ Some rep = subst (λ (s : TermId). slice_get (set reps s.0 rep) t.0 ≡ Some rep) (sym same) (slice_get-set_same reps t.0 rep within) in
    kept (set reps u.0 rep) terms rep t.0 step
relabelled-given reps (u ∷ terms) rep (suc k) t at within = relabelled-given (set reps u.0 rep) terms rep k t at (omega (arith, within, length-set reps u.0 rep))

-- and the others have theirs
pub relabelled-others : (reps terms : List TermId) (rep : TermId) (n : ℕ) → ((k : ℕ) (t : TermId) → slice_get terms k ≡ Some t → n ≡ t.0 → ⊥) → slice_get (relabelled reps terms rep) n ≡ slice_get reps n
relabelled-others reps [] rep n outside = refl
relabelled-others reps (t ∷ terms) rep n outside =
    relabelled-others (set reps t.0 rep) terms rep n (λ k u at. outside (suc k) u at)
    ∙ slice_get-set_other reps t.0 n rep (outside 0 t refl)

module _ (reps moved : List TermId) (loser : TermId) (class : IsClass reps loser moved) where
  -- a term with another representative is no member
  outside : (n : ℕ) → (slice_get reps n ≡ Some loser → ⊥) → (k : ℕ) (t : TermId) → slice_get moved k ≡ Some t → n ≡ t.0 → ⊥
  outside n other k t at e = other (ap (slice_get reps) e ∙ class.only t (Contains-from_slice_get moved k t at))

  -- what the relabelling of one whole class comes to
  pub IsRelabelled-class : (winner : TermId) → IsRelabelled reps (relabelled reps moved winner) winner loser
  IsRelabelled-class winner = record {
    long = length-relabelled reps moved winner;
    each = λ x r at. elim (term_cases r loser) [
      | inl is ↦
          let found = slice_get-from_Contains moved x (class.all x (at ∙ ap Some is)) in
          inl (is, relabelled-given reps moved winner found.0 x found.1 (slice_get_within reps x.0 r at))
      | inr other ↦ inr (other, relabelled-others reps moved winner x.0 (outside x.0 (λ is. other (same_Some r loser (sym at ∙ is)))) ∙ at)
    ];
  }

  -- and back
  pub relabelled-back : (winner : TermId) → relabelled (relabelled reps moved winner) moved loser ≡ reps
  relabelled-back winner = same_by_index (relabelled (relabelled reps moved winner) moved loser) reps (λ n. back n (slice_get_cases reps n).1)
    where
      stays : (n : ℕ) → (slice_get reps n ≡ Some loser → ⊥) → slice_get (relabelled (relabelled reps moved winner) moved loser) n ≡ slice_get reps n
      stays n other = relabelled-others (relabelled reps moved winner) moved loser n (outside n other) ∙ relabelled-others reps moved winner n (outside n other)

      returns : (t : TermId) → slice_get reps t.0 ≡ Some loser → slice_get (relabelled (relabelled reps moved winner) moved loser) t.0 ≡ Some loser
      returns t at =
          let found = slice_get-from_Contains moved t (class.all t at) in
          relabelled-given (relabelled reps moved winner) moved loser found.0 t found.1 (omega (arith, slice_get_within reps t.0 loser at, length-relabelled reps moved winner))

      back : (n : ℕ) → ((r : TermId) × (n < length reps) × (slice_get reps n ≡ Some r) × (get_or reps n r ≡ r)) ⊎ ((length reps ≤ n) × (slice_get reps n ≡ None)) → slice_get (relabelled (relabelled reps moved winner) moved loser) n ≡ slice_get reps n
      back n (inl h) = elim (term_cases h.0 loser) [
        | inl is ↦ returns (record { 0 = n }) (h.2 ∙ ap Some is) ∙ sym (h.2 ∙ ap Some is)
        | inr other ↦ stays n (λ at. other (same_Some h.0 loser (sym h.2 ∙ at)))
      ]
      back n (inr h) = stays n (λ at. none-some loser (sym h.1 ∙ at))

-- where a representative comes from
pub relabelled_from : (before now : List TermId) (winner loser : TermId) → IsRelabelled before now winner loser → (x r : TermId) → slice_get now x.0 ≡ Some r → ((r ≡ winner) × (slice_get before x.0 ≡ Some loser)) ⊎ ((r ≡ loser → ⊥) × (slice_get before x.0 ≡ Some r))
relabelled_from before now winner loser done x r at =
    let within : x.0 < length before = omega (arith, slice_get_within now x.0 r at, done.long) in
    let old = get_or before x.0 x in
    let was : slice_get before x.0 ≡ Some old = slice_get-get_or before x.0 x within in
    elim (done.each x old was) [
      | inl h ↦ inl (same_Some r winner (sym at ∙ h.1), was ∙ ap Some h.0)
      | inr h ↦
          let same : old ≡ r = same_Some old r (sym h.1 ∙ at) in
          inr (λ e. h.0 (same ∙ e), was ∙ ap Some same)
    ]
