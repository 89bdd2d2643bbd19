-- Rows one after the other: one row more.
use Rattle.std.proofs.Common.{◌≡◌, ℕ, ◌+◌, ◌-◌, ◌<◌, List, [], ◌∷◌, ◌++◌, length, get_or, slice_get, slice_index, Some, refl, sym, ap, ap₂, subst, ◌∙◌, inl, inr, arith, length-append}
use Rattle.std.specs.List.{slice_range}
use Rattle.std.proofs.lemmas.Bool.{cases_order}
use Rattle.std.proofs.lemmas.Option.{none-some, slice_get-get_or}
use Rattle.ct_lemmas.proofs.Lists.{slice_get-append_either}
use Rattle.ct_lemmas.proofs.Slices.{index-last, index-left, range-append_left, range-append_right}
use Rattle.ct_ordering.specs.Graph.{ArePoints}
use Rattle.ct_readback.specs.EdgeRows.{AreRows}

module _ (bound : ℕ) (R : ℕ → List ℕ → Type 0) where
  pub AreRows-none : AreRows bound R 0 (0 ∷ []) []
  AreRows-none = record {
    long = refl;
    last = refl;
    rising = λ i before. absurd (omega (arith, before));
    below = λ i before. let e : i ≡ 0 = omega (arith, before) in let first : slice_index (0 ∷ []) i ≡ 0 = ap (slice_index (0 ∷ [])) e in omega (arith, first);
    within = λ place kid at. absurd (none-some kid at);
    rows = λ i before. absurd (omega (arith, before));
  }

  module _ (count : ℕ) (starts kids row : List ℕ) (old : AreRows bound R count starts kids) where
    abbrev more : List ℕ
    more = kids ++ row

    abbrev after : List ℕ
    after = starts ++ length more ∷ []

    before : (i : ℕ) → i < count + 1 → slice_index after i ≡ slice_index starts i
    before i within = index-left starts (length more) i (omega (arith, within, old.long))

    end : slice_index after (count + 1) ≡ length more
    end = index-last starts (length more) (count + 1) (sym old.long)

    longer : length more ≡ length kids + length row
    longer = length-append kids row

    pub AreRows-more : R count row → ((place kid : ℕ) → slice_get row place ≡ Some kid → kid < bound) → AreRows bound R (count + 1) after more
    AreRows-more is inside = record {
      long = omega (arith, old.long, length-append starts (length more ∷ []));
      last = end;
      rising = λ i within. elim (cases_order i count) [
        | inl e ↦
            let last : slice_index after i ≡ length kids = before i (omega (arith, within)) ∙ ap (slice_index starts) e ∙ old.last in
            let next : slice_index after (i + 1) ≡ length more = ap (λ n. slice_index after (n + 1)) e ∙ end in
            omega (arith, last, next, longer)
        | inr h ↦ elim h [
          | inl less ↦ omega (arith, old.rising i less, before i (omega (arith, within)), before (i + 1) (omega (arith, less)))
          | inr greater ↦ absurd (omega (arith, within, greater))
        ]
      ];
      below = λ i within. elim (cases_order i (count + 1)) [
        | inl e ↦ let last : slice_index after i ≡ length more = ap (slice_index after) e ∙ end in omega (arith, last)
        | inr h ↦ elim h [
          | inl less ↦ omega (arith, old.below i less, before i less, longer)
          | inr greater ↦ absurd (omega (arith, within, greater))
        ]
      ];
      within = λ place kid at. elim (slice_get-append_either kids row place kid at) [
        | inl had ↦ old.within place kid had
        | inr h ↦ inside h.0 kid h.1
      ];
      rows = λ i within. elim (cases_order i count) [
        | inl e ↦
            let last : length kids ≡ slice_index after i = sym (before i (omega (arith, within)) ∙ ap (slice_index starts) e ∙ old.last) in
            let next : slice_index after (i + 1) ≡ length more = ap (λ n. slice_index after (n + 1)) e ∙ end in
            let same : slice_range more (slice_index after i) (slice_index after (i + 1)) ≡ row = range-append_right kids row (slice_index after i) (slice_index after (i + 1)) last next in
            subst (λ list. R i list) (sym same) (subst (λ n. R n row) (sym e) is)
        | inr h ↦ elim h [
          | inl less ↦
              let same : slice_range more (slice_index after i) (slice_index after (i + 1)) ≡ slice_range kids (slice_index starts i) (slice_index starts (i + 1)) =
              ap₂ (slice_range more) (before i (omega (arith, within))) (before (i + 1) (omega (arith, less)))
              ∙ range-append_left kids row (slice_index starts i) (slice_index starts (i + 1)) (old.rising i less) (old.below (i + 1) (omega (arith, less))) in
              subst (λ list. R i list) (sym same) (old.rows i less)
          | inr greater ↦ absurd (omega (arith, within, greater))
        ]
      ];
    }

-- rows of points give a graph
pub ArePoints-of : (R : ℕ → List ℕ → Type 0) (count : ℕ) (starts kids : List ℕ) → AreRows count R count starts kids → ArePoints starts kids
ArePoints-of R count starts kids rows =
    let points : length starts - 1 ≡ count = omega (arith, rows.long) in
    record {
      some = omega (arith, rows.long);
      rising = λ i before. rows.rising i (omega (arith, before, points));
      last = ap (slice_index starts) points ∙ rows.last;
      within = λ place kid inside.
          let h = rows.within place (get_or kids place kid) (slice_get-get_or kids place kid inside) in
          omega (arith, h, points);
    }
