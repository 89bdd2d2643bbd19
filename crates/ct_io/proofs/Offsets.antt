-- Elements by their offsets.
use Rattle.std.proofs.Common.{◌≡◌, ℕ, ◌+◌, Bool, true, false, not, cond, List, [], ◌∷◌, length, map, Option, Some, None, option_map, unwrap_or, slice_get, nat_lt, refl, ◌∙◌, ap, ⊎_elim, arith}
use Rattle.std.proofs.lemmas.List.{length-map}
use Rattle.std.specs.List.{prefix_len, position_or_len, position, find}
use Rattle.std.proofs.lemmas.List.Folds.{find_at}
use Rattle.std.proofs.lemmas.Option.{slice_get_cases}
use Rattle.std.proofs.lemmas.Bool.Decides.{nat_tests}

-- a prefix that passes a test is as long in any view
prefix_len-map : {X Y : Type 0} (view : X → Y) (p : Y → Bool) (xs : List X) → prefix_len p (map view xs) ≡ prefix_len (λ (x : X). p (view x)) xs
prefix_len-map view p [] = refl
prefix_len-map view p (x ∷ xs) = ap (λ (n : ℕ). cond (p (view x)) (1 + n) 0) (prefix_len-map view p xs)

-- an offset is tested before it is read
slice_get-tested : {X Y : Type 0} (f : X → Y) (d : Y) (xs : List X) (n : ℕ) → option_map f (slice_get xs n) ≡ option_map (λ (k : ℕ). unwrap_or (option_map f (slice_get xs k)) d) (cond (nat_lt n (length xs)) (Some n) None)
slice_get-tested f d xs n =
    ⊎_elim (λ inside. let test : nat_lt n (length xs) ≡ true = grind (arith, nat_tests, inside.1) in rw (test, inside.2) refl) (λ past. let test : nat_lt n (length xs) ≡ false = grind (arith, nat_tests, past.0) in rw (test, past.1) refl) (slice_get_cases xs n).1

-- what is read of the first element that passes a test is read at the first offset that does
pub find-position : {X Y Z : Type 0} (view : X → Y) (p : Y → Bool) (f : Y → Z) (d : Z) (xs : List X) → option_map f (find p (map view xs)) ≡ option_map (λ (k : ℕ). unwrap_or (option_map f (slice_get (map view xs) k)) d) (position (λ (x : X). p (view x)) xs)
find-position {X} {Y} {Z} view p f d xs =
    let ys : List Y = map view xs in
    let offset : ℕ = position_or_len (λ (x : X). p (view x)) xs in
    let read : ℕ → Z = λ k. unwrap_or (option_map f (slice_get ys k)) d in
    ap (λ (found : Option Y). option_map f found) (find_at p ys ∙ ap (λ (n : ℕ). slice_get ys n) (prefix_len-map view (λ (y : Y). not (p y)) xs)) ∙ (slice_get-tested f d ys offset ∙ ap (λ (n : ℕ). option_map read (cond (nat_lt offset n) (Some offset) None)) (length-map xs view))
