-- Lists by their indices: what stands there after a write, and in the rest of a list.
use Rattle.std.proofs.Common.{◌≡◌, ℕ, zero, suc, ◌+◌, ◌<◌, ◌≤◌, ◌⊎◌, inl, inr, List, [], ◌∷◌, length, drop, Some, None, slice_get, slice_set, refl, sym, ap, arith}
use Rattle.std.proofs.lemmas.Option.{none-some, same_Some}

module _ {X : Type 0} where
  -- an index at which nothing stands is past the end
  pub none-past : (xs : List X) (k : ℕ) → slice_get xs k ≡ None → length xs ≤ k
  none-past [] k none = omega arith
  none-past (x ∷ xs) zero none = absurd (none-some x (sym none))
  none-past (x ∷ xs) (suc k) none = let later = none-past xs k none in omega (arith, later)

  -- what stands in the rest of a list
  pub slice_get-drop : (n : ℕ) (xs : List X) (k i : ℕ) → i ≡ n + k → slice_get (drop n xs) k ≡ slice_get xs i
  slice_get-drop zero xs k i e = ap (slice_get xs) (omega (arith, e))
  slice_get-drop (suc n) [] k i e = refl
  slice_get-drop (suc n) (x ∷ xs) k zero e = absurd (omega (arith, e))
  slice_get-drop (suc n) (x ∷ xs) k (suc i) e = slice_get-drop n xs k i (omega (arith, e))

  -- after a write, what stands at an index was written there, or stood there before
  pub slice_set-cases : (xs : List X) (n : ℕ) (x : X) (k : ℕ) (y : X) → slice_get (slice_set xs n x) k ≡ Some y → ((k ≡ n) × (x ≡ y)) ⊎ ((k ≡ n → ⊥) × (slice_get xs k ≡ Some y))
  slice_set-cases [] n x k y e = absurd (none-some y e)
  slice_set-cases (z ∷ zs) zero x zero y e = inl (refl, same_Some x y e)
  slice_set-cases (z ∷ zs) zero x (suc k) y e = inr (λ same. omega (arith, same), e)
  slice_set-cases (z ∷ zs) (suc n) x zero y e = inr (λ same. omega (arith, same), e)
  slice_set-cases (z ∷ zs) (suc n) x (suc k) y e =
      elim (slice_set-cases zs n x k y e) [ inl h ↦ inl (ap suc h.0, h.1) | inr h ↦ inr (λ same. h.0 (omega (arith, same)), h.1) ]

  -- what is written stands there
  pub slice_set-here : (xs : List X) (n : ℕ) (x : X) → n < length xs → slice_get (slice_set xs n x) n ≡ Some x
  slice_set-here [] n x within = absurd (omega arith)
  slice_set-here (z ∷ zs) zero x within = refl
  slice_set-here (z ∷ zs) (suc n) x within = slice_set-here zs n x (omega arith)

  -- what stood at another index still does
  pub slice_set-other : (xs : List X) (n : ℕ) (x : X) (k : ℕ) (y : X) → (k ≡ n → ⊥) → slice_get xs k ≡ Some y → slice_get (slice_set xs n x) k ≡ Some y
  slice_set-other [] n x k y other e = e
  slice_set-other (z ∷ zs) zero x zero y other e = absurd (other refl)
  slice_set-other (z ∷ zs) zero x (suc k) y other e = e
  slice_set-other (z ∷ zs) (suc n) x zero y other e = e
  slice_set-other (z ∷ zs) (suc n) x (suc k) y other e = slice_set-other zs n x k y (λ same. other (ap suc same)) e
