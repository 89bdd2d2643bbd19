-- Copies item by item: what stands at an index of different items is not among those before it.
use Rattle.std.proofs.Common.{◌≡◌, ℕ, List, take, Some, slice_get, arith}
use Rattle.ct_lemmas.proofs.Prefixes.{slice_get-take, slice_get-take_below}

pub new_after : {X : Type 0} (xs : List X) (i : ℕ) (x : X) → ((j k : ℕ) (y : X) → slice_get xs j ≡ Some y → slice_get xs k ≡ Some y → j ≡ k) → slice_get xs i ≡ Some x → (j : ℕ) → slice_get (take i xs) j ≡ Some x → ⊥
new_after xs i x single at j at_j =
    let same : j ≡ i = single j i x (slice_get-take i xs j x at_j) at in
    omega (arith, same, slice_get-take_below i xs j x at_j)
