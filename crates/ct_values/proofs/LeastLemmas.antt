-- The least place that has the number of a place: one place more.
use Rattle.std.proofs.Common.{◌≡◌, ℕ, ◌+◌, ◌-◌, ◌<◌, ◌≤◌, List, [], ◌∷◌, ◌++◌, length, set, slice_index, sym, ap, subst, ◌∙◌, inl, inr, arith, length-set, length-append, eq-or-lt_of_le}
use Rattle.std.proofs.lemmas.Bool.{cases_lt, cases_eq}
use Rattle.ct_values.specs.Partition.{class_at}
use Rattle.ct_values.specs.Least.{IsLeastFrom, ArePositive, TellsLeast}
use Rattle.ct_values.proofs.ClassLemmas.{class_at-before, class_at-last}
use Rattle.ct_values.proofs.FiniteLemmas.{class_at-set_same, class_at-set_other}

-- what holds of each place before one, and of it, holds of each place before the next one
pub each_more : (P : ℕ → Type 0) (n : ℕ) → ((i : ℕ) → i < n → P i) → P n → (i : ℕ) → i < n + 1 → P i
each_more P n each here i before = elim (cases_lt i n) [
  | inl less ↦ each i less
  | inr beyond ↦ let same : n ≡ i = omega (arith, before, beyond) in subst P same here
]

-- from the end on there is no place
pub TellsLeast-none : (numbers table : List ℕ) → ((i : ℕ) → i < length numbers → class_at numbers i ≤ length table) → TellsLeast numbers (length numbers) table
TellsLeast-none numbers table within = record {
  within = within;
  told = λ i late below. absurd (omega (arith, late, below));
}

module _ (numbers table : List ℕ) (n : ℕ) (positive : ArePositive numbers) (n_in : n < length numbers) (tells : TellsLeast numbers (n + 1) table) where
  -- the table with this place
  next_table : List ℕ
  next_table = set table (class_at numbers n - 1) n

  -- it is the least of those that have its number
  told_same : (i : ℕ) → i < length numbers → class_at numbers i ≡ class_at numbers n → IsLeastFrom numbers n i (slice_index next_table (class_at numbers i - 1))
  unfolding next_table
  told_same i i_in same =
      let within : class_at numbers n - 1 < length table = omega (arith, positive n n_in, tells.within n n_in) in
      let read : slice_index next_table (class_at numbers i - 1) ≡ n = ap (λ c. slice_index next_table (c - 1)) same ∙ class_at-set_same table (class_at numbers n - 1) n within in
      subst (IsLeastFrom numbers n i) (sym read) (record {
        late = omega arith;
        same = sym same;
        least = λ j late j_in one. late;
      })

  -- a place with another number comes after this one
  later : (j : ℕ) → n ≤ j → (class_at numbers j ≡ class_at numbers n → ⊥) → n + 1 ≤ j
  later j from other = elim (eq-or-lt_of_le from) [
    | inl same ↦ absurd (other (ap (class_at numbers) (sym same)))
    | inr less ↦ omega (arith, less)
  ]

  -- other numbers keep theirs
  told_other : (i : ℕ) → n ≤ i → i < length numbers → (class_at numbers i ≡ class_at numbers n → ⊥) → IsLeastFrom numbers n i (slice_index next_table (class_at numbers i - 1))
  unfolding next_table
  told_other i late i_in other =
      let old = tells.told i (later i late other) i_in in
      let apart : class_at numbers i - 1 ≡ class_at numbers n - 1 → ⊥ = λ e. other (omega (arith, e, positive i i_in, positive n n_in)) in
      subst (IsLeastFrom numbers n i) (sym (class_at-set_other table (class_at numbers n - 1) (class_at numbers i - 1) n apart)) (record {
        late = omega (arith, old.late);
        same = old.same;
        least = λ j from j_in one. old.least j (later j from (λ e. other (sym one ∙ e))) j_in one;
      })

  -- one place more
  pub TellsLeast-more : TellsLeast numbers n (set table (class_at numbers n - 1) n)
  unfolding next_table
  TellsLeast-more = record {
    within = λ i i_in. omega (arith, tells.within i i_in, length-set table (class_at numbers n - 1) n);
    told = λ i late i_in. elim (cases_eq (class_at numbers i) (class_at numbers n)) [
      | inl same ↦ told_same i i_in same
      | inr other ↦ told_other i late i_in other
    ];
  }

-- the least places as far as they are found
abbrev pub AreLeastUpTo : List ℕ → List ℕ → ℕ → Type 0
AreLeastUpTo numbers places count = (length places ≡ count) × ((i : ℕ) → i < count → IsLeastFrom numbers 0 i (slice_index places i))

-- one more
pub AreLeastUpTo-more : (numbers places table : List ℕ) (n : ℕ) → n < length numbers → TellsLeast numbers 0 table → AreLeastUpTo numbers places n → AreLeastUpTo numbers (places ++ slice_index table (class_at numbers n - 1) ∷ []) (n + 1)
AreLeastUpTo-more numbers places table n n_in tells far =
    let place = slice_index table (class_at numbers n - 1) in
    let read : slice_index (places ++ place ∷ []) n ≡ place = ap (slice_index (places ++ place ∷ [])) (sym far.0) ∙ class_at-last places place in (
      omega (arith, far.0, length-append places (place ∷ [])),
      each_more (λ i. IsLeastFrom numbers 0 i (slice_index (places ++ place ∷ []) i)) n
          (λ i before. subst (IsLeastFrom numbers 0 i) (sym (class_at-before places place i (omega (arith, before, far.0)))) (far.1 i before))
          (subst (IsLeastFrom numbers 0 n) (sym read) (tells.told n (omega arith) n_in)),
    )
