-- Numbers: which is less, and which are equal.
use Rattle.std.proofs.Common.{◌≡◌, Bool, if◌then◌else◌, ℕ, zero, suc, ◌+◌, ◌<◌, ◌⊎◌, inl, inr, refl, ap, arith, ◌≤◌, true, ◌==◌, false, sym, ◌∙◌, true≢false}
use Rattle.std.proofs.lemmas.Bool.Decides.{Decides-eqb}

-- a number that is not past the last is before it, or is it
pub last_or_before : (k i : ℕ) → k < i + 1 → (k < i) ⊎ (k ≡ i)
last_or_before zero zero h = inr refl
last_or_before zero (suc i) h = inl (omega arith)
last_or_before (suc k) zero h = absurd (omega arith)
last_or_before (suc k) (suc i) h =
    elim (last_or_before k i (omega arith)) [ inl before ↦ inl (omega arith) | inr last ↦ inr (ap suc last) ]

-- two numbers are equal or not
pub same_or_other : (i j : ℕ) → (i ≡ j) ⊎ (i ≡ j → ⊥)
same_or_other zero zero = inl refl
same_or_other zero (suc j) = inr (λ e. omega arith)
same_or_other (suc i) zero = inr (λ e. omega arith)
same_or_other (suc i) (suc j) =
    elim (same_or_other i j) [ inl e ↦ inl (ap suc e) | inr n ↦ inr (λ e. n (omega arith)) ]

-- a number is below another one, or not
pub below_or_not : (k n : ℕ) → (k < n) ⊎ (n ≤ k)
below_or_not k zero = inr (omega arith)
below_or_not zero (suc n) = inl (omega arith)
below_or_not (suc k) (suc n) =
    elim (below_or_not k n) [ inl below ↦ inl (omega (arith, below)) | inr past ↦ inr (omega (arith, past)) ]

-- numbers that test equal are equal
pub same_number : (k n : ℕ) → (k == n) ≡ true → k ≡ n
same_number k n e = (Decides-eqb k n).0 e

-- numbers that do not are not
pub not_same_number : (k n : ℕ) → (k == n) ≡ false → k ≡ n → ⊥
not_same_number k n e same = true≢false (sym ((Decides-eqb k n).1 same) ∙ e)

-- what is below the next number and is not the number is below it
pub below_next : (k n : ℕ) → k < suc n → (k == n) ≡ false → k < n
below_next k n h other = by (k_or h)
  where
    by : (k < n) ⊎ (k ≡ n) → k < n
    by (inl below) = below
    by (inr same) = absurd (not_same_number k n other same)

    k_or : k < suc n → (k < n) ⊎ (k ≡ n)
    k_or below = last_or_before k n (omega (arith, below))

-- what is below the next number is the number or below it: a test that tells them apart
pub by_last : {X : Type 0} (k n : ℕ) (x y z : X) → k < suc n → (k ≡ n → x ≡ z) → (k < n → y ≡ z) → (if k == n then x else y) ≡ z
by_last {X} k n x y z below last before = by (k == n) refl
  where
    by : (b : Bool) → (k == n) ≡ b → (if b then x else y) ≡ z
    by true e = last (same_number k n e)
    by false e = before (let other = not_same_number k n e in omega (arith, below, other))

-- a number is below another one, equal to it or above it
pub order_cases : (m n : ℕ) → (m < n) ⊎ ((m ≡ n) ⊎ (n < m))
order_cases zero zero = inr (inl refl)
order_cases zero (suc n) = inl (omega arith)
order_cases (suc m) zero = inr (inr (omega arith))
order_cases (suc m) (suc n) = elim (order_cases m n) [
  | inl h ↦ inl (omega (arith, h))
  | inr h ↦ elim h [ inl e ↦ inr (inl (ap suc e)) | inr g ↦ inr (inr (omega (arith, g))) ]
]
