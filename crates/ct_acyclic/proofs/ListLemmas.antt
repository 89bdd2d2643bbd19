-- How long the lists of all elements are together.
use Rattle.std.proofs.Common.{◌≡◌, ℕ, zero, suc, ◌≤◌, List, [], ◌∷◌, length, slice_get, Some, ap, arith, length-append}
use Rattle.std.specs.List.{flat_map}
use Rattle.std.proofs.lemmas.Option.{none-some, same_Some}

-- no list is longer than all of them together
pub length-one_of_many : {X Y : Type 0} (f : X → List Y) (xs : List X) (k : ℕ) (x : X) → slice_get xs k ≡ Some x → length (f x) ≤ length (flat_map f xs)
length-one_of_many f [] k x at = absurd (none-some x at)
length-one_of_many f (z ∷ zs) zero x at =
    let same : length (f z) ≡ length (f x) = ap (λ y. length (f y)) (same_Some z x at) in
    omega (arith, same, length-append (f z) (flat_map f zs))
length-one_of_many f (z ∷ zs) (suc k) x at = omega (arith, length-one_of_many f zs k x at, length-append (f z) (flat_map f zs))
