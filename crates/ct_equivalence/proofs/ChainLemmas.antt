-- Chains of rows: where one is entered and followed, and what one more row and one less keep.
use Rattle.std.proofs.Common.{◌≡◌, ℕ, suc, ◌<◌, ◌≤◌, ◌+◌, ◌-◌, ◌%◌, List, [], ◌∷◌, ◌++◌, length, map, set, replicate, slice_get, get_or, Some, None, refl, sym, ap, subst, ◌∙◌, inl, inr, arith, length-append}
use Rattle.std.proofs.lemmas.List.{length-set, length-replicate}
use Rattle.std.proofs.lemmas.Option.{none-some, same_Some, slice_get_within, slice_get-get_or}
use Rattle.ct_lemmas.proofs.Lists.{slice_get-set_other, slice_get-set_same, slice_get-last, slice_get-push_cases, slice_get-map_at, slice_get-map_source, slice_get-replicate, slice_get-append_left, slice_get-prefix}
use Rattle.ct_lemmas.proofs.Numbers.{same_or_other, order_cases}
use Rattle.ct_terms.specs.declared.ids.TermId.{TermId}
use Rattle.ct_equivalence.specs.declared.chained.Row.{Row}
use Rattle.ct_equivalence.specs.Chains.{row_pair, IsLastRow, IsOfChain, IsTop, AreChained, IsEntry}

-- rows before the end of a chain are those of any longer list
module _ (rows more : List Row) (chains chain : ℕ) where
  chain-more : (i : ℕ) → IsOfChain rows chains chain i → IsOfChain (rows ++ more) chains chain i
  chain-more i of = (of.0, slice_get-append_left rows more i of.0 of.1, of.2)

  chain-less : (i : ℕ) → i < length rows → IsOfChain (rows ++ more) chains chain i → IsOfChain rows chains chain i
  chain-less i within of = (of.0, sym (slice_get-prefix rows more i within) ∙ of.1, of.2)

  IsTop-more : (end top : ℕ) → end ≤ length rows → IsTop rows chains chain end top → IsTop (rows ++ more) chains chain end top
  IsTop-more end top fits is = record {
    below = is.below;
    there = λ i e. chain-more i (is.there i e);
    last = λ j from before of. is.last j from before (chain-less j (omega (arith, before, fits)) of);
  }

  IsTop-less : (end top : ℕ) → end ≤ length rows → IsTop (rows ++ more) chains chain end top → IsTop rows chains chain end top
  IsTop-less end top fits is = record {
    below = is.below;
    there = λ i e. chain-less i (omega (arith, e, is.below, fits)) (is.there i e);
    last = λ j from before of. is.last j from before (chain-more j of);
  }

-- no rows
pub AreChained-none : (n : ℕ) → 0 < n → AreChained [] (replicate n 0)
AreChained-none n some = record {
  some = omega (arith, some, length-replicate {A = ℕ} n 0);
  each = λ chain top at. subst (IsTop [] (length (replicate n 0)) chain 0) (sym (slice_get-replicate n chain 0 top at)) (record { below = omega arith; there = λ i e. absurd (omega (arith, e)); last = λ j from before of. absurd (omega (arith, before)) });
  before = λ i row at. absurd (none-some row at);
}

module _ (rows : List Row) (tops : List ℕ) (row : Row) where
  abbrev later : List Row
  later = rows ++ row ∷ []

  abbrev chains : ℕ
  chains = length tops

  abbrev own : ℕ
  own = row.digest % chains

  at_end : IsOfChain later chains own (length rows)
  at_end = (row, slice_get-last rows row, refl)

  -- the last row is of its own chain alone
  only_own : (chain : ℕ) → IsOfChain later chains chain (length rows) → own ≡ chain
  only_own chain of = ap (λ (r : Row). r.digest % chains) (same_Some row of.0 (sym (slice_get-last rows row) ∙ of.1)) ∙ of.2

  -- one more row, whose chain has it on top
  module _ (are : AreChained rows tops) (top : slice_get tops own ≡ Some row.before) where
    long : length (set tops own (length rows + 1)) ≡ chains
    long = length-set tops own (length rows + 1)

    top_now : (chain t : ℕ) → slice_get (set tops own (length rows + 1)) chain ≡ Some t → IsTop later chains chain (length later) t
    top_now chain t at = elim (same_or_other chain own) [
      | inl e ↦
          let is : t ≡ length rows + 1 = same_Some t (length rows + 1) (sym at ∙ ap (slice_get (set tops own (length rows + 1))) e ∙ slice_get-set_same tops own (length rows + 1) (slice_get_within tops own row.before top)) in
          record {
            below = omega (arith, is, length-append rows (row ∷ []));
            there = λ i f. subst (IsOfChain later chains chain) (omega (arith, f, is)) (subst (λ c. IsOfChain later chains c (length rows)) (sym e) at_end);
            last = λ j from before of. omega (arith, from, before, is, length-append rows (row ∷ []));
          }
      | inr other ↦
          let was = are.each chain t (sym (slice_get-set_other tops own chain (length rows + 1) other) ∙ at) in
          record {
            below = omega (arith, was.below, length-append rows (row ∷ []));
            there = λ i f. chain-more rows (row ∷ []) chains chain i (was.there i f);
            last = λ j from before of. elim (same_or_other j (length rows)) [
              | inl e ↦ other (sym (only_own chain (subst (IsOfChain later chains chain) e of)))
              | inr apart ↦
                  let within : j < length rows = omega (arith, before, apart, length-append rows (row ∷ [])) in
                  was.last j from within (chain-less rows (row ∷ []) chains chain j within of)
            ];
          }
    ]

    pub AreChained-push : AreChained (rows ++ row ∷ []) (set tops (row.digest % length tops) (length rows + 1))
    AreChained-push = record {
      some = omega (arith, are.some, long);
      each = λ chain t at. subst (λ n. IsTop later n chain (length later) t) (sym long) (top_now chain t at);
      before = λ i r at. subst (λ n. IsTop later n (r.digest % n) i r.before) (sym long) (elim (slice_get-push_cases rows row r i at) [
        | inl h ↦ IsTop-more rows (row ∷ []) chains (r.digest % chains) i r.before (omega (arith, slice_get_within rows i r h)) (are.before i r h)
        | inr h ↦
            subst (λ (x : Row). IsTop later chains (x.digest % chains) i x.before) h.1
            (subst (λ n. IsTop later chains own n row.before) (sym h.0) (IsTop-more rows (row ∷ []) chains own (length rows) row.before (omega arith) (are.each own row.before top)))
      ]);
    }

  -- one row less, whose chain has the one before it on top
  module _ (are : AreChained (rows ++ row ∷ []) tops) where
    less_long : length (set tops own row.before) ≡ chains
    less_long = length-set tops own row.before

    mine : IsTop later chains own (length rows) row.before
    mine = are.before (length rows) row (slice_get-last rows row)

    top_less : (chain t : ℕ) → slice_get (set tops own row.before) chain ≡ Some t → own < length tops → IsTop rows chains chain (length rows) t
    top_less chain t at within = elim (same_or_other chain own) [
      | inl e ↦
          let is : t ≡ row.before = same_Some t row.before (sym at ∙ ap (slice_get (set tops own row.before)) e ∙ slice_get-set_same tops own row.before within) in
          IsTop-less rows (row ∷ []) chains chain (length rows) t (omega arith) (subst (IsTop later chains chain (length rows)) (sym is) (subst (λ c. IsTop later chains c (length rows) row.before) (sym e) mine))
      | inr other ↦
          let was = are.each chain t (sym (slice_get-set_other tops own chain row.before other) ∙ at) in
          let top : t ≡ suc (length rows) → ⊥ = λ f. other (sym (only_own chain (was.there (length rows) f))) in
          IsTop-less rows (row ∷ []) chains chain (length rows) t (omega arith)
          (record {
            below = omega (arith, was.below, top, length-append rows (row ∷ []));
            there = was.there;
            last = λ j from before of. was.last j from (omega (arith, before, length-append rows (row ∷ []))) of;
          })
    ]

    pub AreChained-pop : row.digest % length tops < length tops → AreChained rows (set tops (row.digest % length tops) row.before)
    AreChained-pop within = record {
      some = omega (arith, are.some, less_long);
      each = λ chain t at. subst (λ n. IsTop rows n chain (length rows) t) (sym less_long) (top_less chain t at within);
      before = λ i r at.
          let inside = slice_get_within rows i r at in
          subst (λ n. IsTop rows n (r.digest % n) i r.before) (sym less_long)
          (IsTop-less rows (row ∷ []) chains (r.digest % chains) i r.before (omega (arith, inside)) (are.before i r (slice_get-append_left rows (row ∷ []) i r at)));
    }

-- following a chain
module _ (rows : List Row) (tops : List ℕ) (are : AreChained rows tops) (digest end : ℕ) where
  -- from the top
  pub IsEntry-top : (top : ℕ) → slice_get tops (digest % length tops) ≡ Some top → IsEntry rows (length tops) digest end top
  IsEntry-top top at =
      let is = are.each (digest % length tops) top at in
      record {
        there = is.there;
        last = λ j row from before stands same. is.last j from (slice_get_within rows j row stands) (row, stands, ap (λ n. n % length tops) same);
      }

  -- from a row of the chain
  pub IsEntry-row : (row : Row) → slice_get rows end ≡ Some row → row.digest % length tops ≡ digest % length tops → IsEntry rows (length tops) digest end row.before
  IsEntry-row row at same =
      let is = are.before end row at in
      record {
        there = λ i e. subst (λ c. IsOfChain rows (length tops) c i) same (is.there i e);
        last = λ j r from before stands mine. is.last j from before (r, stands, ap (λ n. n % length tops) mine ∙ sym same);
      }

  -- the next one, where this is not it
  pub IsEntry-next : (i : ℕ) (row : Row) → slice_get rows i ≡ Some row → IsEntry rows (length tops) digest end (suc i) → (i < end → row.digest ≡ digest → ⊥) → IsEntry rows (length tops) digest end row.before
  IsEntry-next i row at entry other =
      let of = entry.there i refl in
      let same : row.digest % length tops ≡ digest % length tops = ap (λ (r : Row). r.digest % length tops) (same_Some row of.0 (sym at ∙ of.1)) ∙ of.2 in
      let is = are.before i row at in
      record {
        there = λ k e. subst (λ c. IsOfChain rows (length tops) c k) same (is.there k e);
        last = λ j r from before stands mine. elim (order_cases j i) [
          | inl less ↦ is.last j from less (r, stands, ap (λ n. n % length tops) mine ∙ sym same)
          | inr rest ↦ elim rest [
            | inl e ↦
                let one : r ≡ row = same_Some r row (sym stands ∙ ap (slice_get rows) e ∙ at) in
                other (omega (arith, before, e)) (ap (λ (x : Row). x.digest) (sym one) ∙ mine)
            | inr more ↦ entry.last j r (omega (arith, more)) before stands mine
          ]
        ];
      }

  -- what it comes to
  pub IsLastRow-found : (i : ℕ) (row : Row) → slice_get rows i ≡ Some row → IsEntry rows (length tops) digest end (suc i) → i < end → row.digest ≡ digest → IsLastRow (map row_pair rows) end digest (Some i)
  IsLastRow-found i row at entry before same = (
    row.term,
    before,
    slice_get-map_at row_pair rows i row at ∙ ap (λ n. Some (n, row.term)) same,
    λ j u after less stands.
        let from = slice_get-map_source row_pair rows j (digest, u) stands in
        entry.last j from.0 (omega (arith, after)) less from.1 (ap (λ (e : ℕ × TermId). e.0) from.2),
  )

  pub IsLastRow-none : IsEntry rows (length tops) digest end 0 → IsLastRow (map row_pair rows) end digest None
  IsLastRow-none entry j u less stands =
      let from = slice_get-map_source row_pair rows j (digest, u) stands in
      entry.last j from.0 (omega arith) less from.1 (ap (λ (e : ℕ × TermId). e.0) from.2)

-- the row that is looked at
module _ (rows : List Row) (tops : List ℕ) (are : AreChained rows tops) (digest end next : ℕ) (some : 0 < next) (entry : IsEntry rows (length tops) digest end next) where
  entry_at : IsEntry rows (length tops) digest end (suc (next - 1))
  entry_at = subst (IsEntry rows (length tops) digest end) (omega (arith, some)) entry

  pub row_within : next - 1 < length rows
  unfolding entry_at
  row_within = let of = entry_at.there (next - 1) refl in slice_get_within rows (next - 1) of.0 of.1

  module _ (d : Row) where
    row : Row
    row = get_or rows (next - 1) d

    row_at : slice_get rows (next - 1) ≡ Some row
    unfolding row
    row_at = slice_get-get_or rows (next - 1) d row_within

    pub row-smaller : (get_or rows (next - 1) d).before < next
    unfolding row
    row-smaller = omega (arith, (are.before (next - 1) row row_at).below, some)

    pub row-next : (next - 1 < end → (get_or rows (next - 1) d).digest ≡ digest → ⊥) → IsEntry rows (length tops) digest end (get_or rows (next - 1) d).before
    unfolding row entry_at
    row-next other = IsEntry-next rows tops are digest end (next - 1) row row_at entry_at other

    pub row-found : next - 1 < end → (get_or rows (next - 1) d).digest ≡ digest → IsLastRow (map row_pair rows) end digest (Some (next - 1))
    unfolding row entry_at
    row-found before same = IsLastRow-found rows tops are digest end (next - 1) row row_at entry_at before same
