-- How many numbers, and how many pairs of numbers, do not pass a test that more of them pass later.
use Rattle.std.proofs.Common.{◌≡◌, ℕ, zero, suc, ◌<◌, ◌≤◌, Bool, true, false, ap, ◌∙◌, inl, inr, arith}
use Rattle.std.proofs.lemmas.Bool.{cases_order}
use Rattle.ct_lemmas.proofs.Booleans.{bit-falls, bit-less}
use Rattle.ct_unique.specs.Found.{missing, missing_pairs}

module _ (s t : ℕ → Bool) (more : (k : ℕ) → s k ≡ true → t k ≡ true) where
  missing-falls : (n : ℕ) → missing t n ≤ missing s n
  missing-falls zero = omega arith
  missing-falls (suc n) = omega (arith, bit-falls (s n) (t n) (more n), missing-falls n)

  missing-less : (n k : ℕ) → k < n → s k ≡ false → t k ≡ true → missing t n < missing s n
  missing-less zero k below before now = absurd (omega (arith, below))
  missing-less (suc n) k below before now = elim (cases_order n k) [
    | inl e ↦ omega (arith, bit-less (s n) (t n) (ap s e ∙ before) (ap t e ∙ now), missing-falls n)
    | inr h ↦ elim h [
      | inl less ↦ absurd (omega (arith, below, less))
      | inr greater ↦ omega (arith, bit-falls (s n) (t n) (more n), missing-less n k greater before now)
    ]
  ]

module _ (s t : ℕ → ℕ → Bool) (more : (l r : ℕ) → s l r ≡ true → t l r ≡ true) (n : ℕ) where
  missing_pairs-falls : (m : ℕ) → missing_pairs t n m ≤ missing_pairs s n m
  missing_pairs-falls zero = omega arith
  missing_pairs-falls (suc m) = omega (arith, missing-falls (s m) (t m) (more m) n, missing_pairs-falls m)

  pub missing_pairs-less : (m l r : ℕ) → l < m → r < n → s l r ≡ false → t l r ≡ true → missing_pairs t n m < missing_pairs s n m
  missing_pairs-less zero l r l_in r_in before now = absurd (omega (arith, l_in))
  missing_pairs-less (suc m) l r l_in r_in before now = elim (cases_order m l) [
    | inl e ↦ omega (arith, missing-less (s m) (t m) (more m) n r r_in (ap (λ k. s k r) e ∙ before) (ap (λ k. t k r) e ∙ now), missing_pairs-falls m)
    | inr h ↦ elim h [
      | inl less ↦ absurd (omega (arith, l_in, less))
      | inr greater ↦ omega (arith, missing-falls (s m) (t m) (more m) n, missing_pairs-less m l r greater r_in before now)
    ]
  ]
