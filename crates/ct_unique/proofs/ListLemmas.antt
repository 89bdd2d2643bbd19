-- Lists of numbers that are tested element by element.
use Rattle.std.proofs.Common.{◌≡◌, ℕ, suc, Bool, true, List, [], ◌∷◌, length, slice_get, Some, refl, arith}
use Rattle.std.specs.Cmp.Lexicographic.{pointwise}
use Rattle.std.proofs.lemmas.Bool.{and_from}

-- a test of lists of one length, by what stands at each index
pub pointwise-from : (E : ℕ → ℕ → Bool) (xs ys : List ℕ) → length xs ≡ length ys → ((k x y : ℕ) → slice_get xs k ≡ Some x → slice_get ys k ≡ Some y → E x y ≡ true) → pointwise E xs ys ≡ true
pointwise-from E [] [] long each = refl
pointwise-from E [] (y ∷ ys) long each = absurd (omega (arith, long))
pointwise-from E (x ∷ xs) [] long each = absurd (omega (arith, long))
pointwise-from E (x ∷ xs) (y ∷ ys) long each = and_from (E x y) (pointwise E xs ys) (each 0 x y refl refl) (pointwise-from E xs ys (omega (arith, long)) (λ k a b at_a at_b. each (suc k) a b at_a at_b))

-- a test that each number passes with itself
pub pointwise-refl : (E : ℕ → ℕ → Bool) (xs : List ℕ) → ((x : ℕ) → E x x ≡ true) → pointwise E xs xs ≡ true
pointwise-refl E [] each = refl
pointwise-refl E (x ∷ xs) each = and_from (E x x) (pointwise E xs xs) (each x) (pointwise-refl E xs each)
