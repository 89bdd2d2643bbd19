-- Chains of indices that share a bucket.
use Rattle.std.proofs.Common.{◌≡◌, ℕ, zero, suc, ◌+◌, ◌-◌, ◌<◌, ◌≤◌, inl, inr, List, length, set, get_or, replicate, slice_get, Some, refl, sym, ap, ◌∙◌, subst, arith}
use Rattle.std.proofs.lemmas.List.{get_or-set_same, get_or-set_other}
use Rattle.std.proofs.lemmas.Option.{same_Some}
use Rattle.ct_lemmas.proofs.Numbers.{last_or_before, same_or_other}
use Rattle.ct_words.specs.Storage.{IsChained, bucket, bucket_at}
use Rattle.ct_words.proofs.StorageLemmas.{bucket_at-name}

-- each number of a list of zeros is 0, and so is what is read after it
pub zeros : (n index : ℕ) → ◌≡◌ {A = ℕ} (get_or (replicate n 0) index 0) 0
zeros zero index = refl
zeros (suc n) zero = refl
zeros (suc n) (suc index) = zeros n index

-- no index is chained at first
pub IsChained-none : (bucket_of : ℕ → ℕ) (lasts befores : List ℕ) → ((b : ℕ) → get_or lasts b 0 ≡ 0) → IsChained bucket_of 0 lasts befores
IsChained-none bucket_of lasts befores none = record {
  is_last = λ index below. absurd (omega arith);
  last = λ b there. absurd (omega (arith, none b));
  is_before = λ index later less below same. absurd (omega arith);
  before = λ index below there. absurd (omega arith);
}

module _ (bucket_of : ℕ → ℕ) (count : ℕ) (lasts befores : List ℕ) (b : ℕ) (is_b : bucket_of count ≡ b) (b_within : b < length lasts) (count_within : count < length befores) (chained : IsChained bucket_of count lasts befores) where
  -- the next index goes before the chain of its bucket
  pub IsChained-more : IsChained bucket_of (count + 1) (set lasts b (count + 1)) (set befores count (get_or lasts b 0))
  IsChained-more =
      let new_last = get_or-set_same lasts b (count + 1) 0 b_within in
      let old_last = λ (other : ℕ) (differs : other ≡ b → ⊥). get_or-set_other lasts b other (count + 1) 0 differs in
      let new_before = get_or-set_same befores count (get_or lasts b 0) 0 count_within in
      let old_before = λ (other : ℕ) (differs : other ≡ count → ⊥). get_or-set_other befores count other (get_or lasts b 0) 0 differs in
      record {
        is_last = λ index below. elim (same_or_other (bucket_of index) b) [
          | inl same ↦ rw (same, new_last) below
          | inr differs ↦ elim (last_or_before index count below) [
            | inl earlier ↦ rw (old_last (bucket_of index) differs) (chained.is_last index earlier)
            | inr at ↦ absurd (differs (ap bucket_of at ∙ is_b))
          ]
        ];
        last = λ other there. elim (same_or_other other b) [
          | inl same ↦
              let back : count + 1 - 1 ≡ count = omega arith in
              rw (same, new_last, back) (omega arith, is_b)
          | inr differs ↦
              let there_before = rw (old_last other differs) at there in
              let stored = chained.last other there_before in
              rw (old_last other differs) (omega (arith, stored.0), stored.1)
        ];
        is_before = λ index later less below same. elim (last_or_before later count below) [
          | inl earlier ↦ rw (old_before later (λ e. omega arith)) (chained.is_before index later less earlier same)
          | inr at ↦ rw (at, new_before) (subst (λ (x : ℕ). index < get_or lasts x 0) (same ∙ ap bucket_of at ∙ is_b) (chained.is_last index (omega arith)))
        ];
        before = λ index below there. elim (last_or_before index count below) [
          | inl earlier ↦
              let old = old_before index (λ e. omega arith) in
              let there_before = rw old at there in
              rw old (chained.before index earlier there_before)
          | inr at ↦
              let new : get_or (set befores count (get_or lasts b 0)) index 0 ≡ get_or lasts b 0 = ap (λ (x : ℕ). get_or (set befores count (get_or lasts b 0)) x 0) at ∙ new_before in
              let there_before = rw new at there in
              let stored = chained.last b there_before in
              rw new (omega (arith, stored.0, at), stored.1 ∙ sym is_b ∙ sym (ap bucket_of at))
        ];
      }

-- below left stands each index of the text, and the index before left is in the text's bucket
abbrev pub IsLeft : List (List ℕ) → List ℕ → ℕ → ℕ → Type 0
IsLeft names text count left =
    (left ≤ count) × (0 < left → bucket_at names (left - 1) ≡ bucket text) × ((index : ℕ) → slice_get names index ≡ Some text → index < left)

module _ (names : List (List ℕ)) (text : List ℕ) (count : ℕ) (lasts befores : List ℕ) (chained : IsChained (bucket_at names) count lasts befores) where
  -- the index before another one in its bucket is smaller
  pub before-smaller : (left : ℕ) → 0 < left → left ≤ count → get_or befores (left - 1) 0 < left
  before-smaller left some within = elim (same_or_other (get_or befores (left - 1) 0) 0) [
    | inl none ↦ omega arith
    | inr there ↦ omega (arith, (chained.before (left - 1) (omega arith) (omega arith)).0)
  ]

  -- the last index of a bucket is within
  pub last_within : (b : ℕ) → get_or lasts b 0 ≤ count
  last_within b = elim (same_or_other (get_or lasts b 0) 0) [
    | inl none ↦ omega arith
    | inr there ↦ omega (arith, (chained.last b (omega arith)).0)
  ]

  -- at first all indices of the text's bucket are left
  pub IsLeft-first : length names ≡ count → ((index : ℕ) → slice_get names index ≡ Some text → index < count) → IsLeft names text count (get_or lasts (bucket text) 0)
  IsLeft-first counted inside =
      (last_within (bucket text), (λ there. (chained.last (bucket text) there).1), λ index at. subst (λ (b : ℕ). index < get_or lasts b 0) (bucket_at-name names index text at) (chained.is_last index (inside index at)))

  -- an index that has another name is passed
  pub IsLeft-next : (left : ℕ) (name : List ℕ) → 0 < left → IsLeft names text count left → slice_get names (left - 1) ≡ Some name → (name ≡ text → ⊥) → IsLeft names text count (get_or befores (left - 1) 0)
  IsLeft-next left name some is_left at other = (
    omega (arith, before-smaller left some is_left.0, is_left.0),
    (λ there. (chained.before (left - 1) (omega (arith, is_left.0)) there).1 ∙ is_left.1 some),
    λ index listed. elim (same_or_other index (left - 1)) [
      | inl same ↦ absurd (other (same_Some _ _ (sym at ∙ ap (slice_get names) (sym same) ∙ listed)))
      | inr differs ↦ chained.is_before index (left - 1) (omega (arith, is_left.2 index listed)) (omega (arith, is_left.0)) (bucket_at-name names index text listed ∙ sym (is_left.1 some))
    ],
  )
