-- The first elements of a list, and what is left after them.
use Rattle.std.proofs.Common.{◌≡◌, ℕ, zero, suc, List, [], ◌∷◌, take, Some, slice_get, ◌<◌, arith, ◌+◌, ◌++◌, ap, add-one, ◌≤◌, length, refl, drop, get_or, ◌-◌, sym, ◌∙◌}
use Rattle.std.proofs.lemmas.List.{take_rest}
use Rattle.std.proofs.lemmas.Option.{none-some, same_Some}

module _ {X : Type 0} where
  -- what stands in the first part stands in the whole
  pub slice_get-take : (n : ℕ) (xs : List X) (i : ℕ) (x : X) → slice_get (take n xs) i ≡ Some x → slice_get xs i ≡ Some x
  slice_get-take zero xs i x e = absurd (none-some _ e)
  slice_get-take (suc n) [] i x e = e
  slice_get-take (suc n) (y ∷ xs) zero x e = e
  slice_get-take (suc n) (y ∷ xs) (suc i) x e = slice_get-take n xs i x e

  -- its index is among the first
  pub slice_get-take_below : (n : ℕ) (xs : List X) (i : ℕ) (x : X) → slice_get (take n xs) i ≡ Some x → i < n
  slice_get-take_below zero xs i x e = absurd (none-some _ e)
  slice_get-take_below (suc n) [] i x e = absurd (none-some _ e)
  slice_get-take_below (suc n) (y ∷ xs) zero x e = omega arith
  slice_get-take_below (suc n) (y ∷ xs) (suc i) x e = let h = slice_get-take_below n xs i x e in omega arith

  -- what stands in the whole at an index of the first part stands in that
  pub take-slice_get : (n : ℕ) (xs : List X) (i : ℕ) (x : X) → i < n → slice_get xs i ≡ Some x → slice_get (take n xs) i ≡ Some x
  take-slice_get zero xs i x h e = absurd (omega arith)
  take-slice_get (suc n) [] i x h e = e
  take-slice_get (suc n) (y ∷ xs) zero x h e = e
  take-slice_get (suc n) (y ∷ xs) (suc i) x h e = take-slice_get n xs i x (omega arith) e

  -- the first part with the next element is the first part that is one longer
  pub take-slice_get_next : (xs : List X) (i : ℕ) (x : X) → slice_get xs i ≡ Some x → take (i + 1) xs ≡ take i xs ++ x ∷ []
  take-slice_get_next xs i x at = rw add-one (by xs i at)
    where
      by : (ys : List X) (j : ℕ) → slice_get ys j ≡ Some x → take (suc j) ys ≡ take j ys ++ x ∷ []
      by [] j e = absurd (none-some x e)
      by (y ∷ ys) zero e = ap (λ (z : X). z ∷ []) (same_Some y x e)
      by (y ∷ ys) (suc j) e = ap (λ (zs : List X). y ∷ zs) (by ys j e)

  -- the first part is the whole, where it is to be as long
  pub take-past : (n : ℕ) (xs : List X) → length xs ≤ n → take n xs ≡ xs
  take-past zero [] h = refl
  take-past zero (x ∷ xs) h = absurd (omega arith)
  take-past (suc n) [] h = refl
  take-past (suc n) (x ∷ xs) h = ap (λ (ys : List X). x ∷ ys) (take-past n xs (omega arith))

  -- as many first elements as there are elements are all
  pub take-whole : (xs : List X) → take (length xs) xs ≡ xs
  take-whole [] = refl
  take-whole (x ∷ xs) = ap (λ (l : List X). x ∷ l) (take-whole xs)

  -- what is left from an index on is the element there and what is left after it
  pub drop-next : (xs : List X) (i : ℕ) (d : X) → i < length xs → drop i xs ≡ get_or xs i d ∷ drop (i + 1) xs
  drop-next xs i d within = rw add-one (by xs i within)
    where
      by : (ys : List X) (j : ℕ) → j < length ys → drop j ys ≡ get_or ys j d ∷ drop (suc j) ys
      by [] j h = absurd (omega (arith, h))
      by (y ∷ ys) zero h = refl
      by (y ∷ ys) (suc j) h = by ys j (omega (arith, h))

-- a list of no length is empty
pub nothing_left : {X : Type 0} (xs : List X) → length xs < 1 → xs ≡ []
nothing_left [] h = refl
nothing_left (x ∷ xs) h = absurd (omega (arith, h))

-- what is left is its first element and what is left after it
pub rest-step : {X : Type 0} (xs : List X) (x : X) → 1 ≤ length xs → xs ≡ get_or xs 0 x ∷ take (length xs - 1) (drop 1 xs)
rest-step [] x h = absurd (omega (arith, h))
rest-step {X} (y ∷ ys) x h = ap (λ (zs : List X). y ∷ zs) (sym (take_rest (y ∷ ys) 1))

-- what is left begins with its first element, read with itself as the default
pub rest-item : {X : Type 0} (xs : List X) (x : X) → 1 ≤ length xs → x ≡ get_or xs 0 x → xs ≡ x ∷ take (length xs - 1) (drop 1 xs)
rest-item {X} xs x h e = rest-step xs x h ∙ ap (λ (y : X). y ∷ take (length xs - 1) (drop 1 xs)) (sym e)
