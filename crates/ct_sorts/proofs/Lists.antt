-- Elements of lists by their indices.
use Rattle.std.proofs.Common.{◌≡◌, ℕ, zero, suc, ◌+◌, ◌<◌, List, [], ◌∷◌, ◌++◌, length, map, take, drop, replicate, slice_get, Some, option_map, refl, sym, ◌∙◌, ap, subst, arith, length-append}
use Rattle.std.proofs.lemmas.Option.{none-some, same_Some, slice_get-map, slice_get-get_or}
use Rattle.std.proofs.lemmas.List.{append_assoc, length-replicate, take-append-drop, take_at}
use Rattle.std.proofs.lemmas.List.Concat.{flat_map-append}
use Rattle.std.proofs.lemmas.List.FromFn.{length-range_with_len, get_or-range_with_len}
use Rattle.std.specs.List.{flat_map, range_with_len}
use Rattle.ct_sorts.specs.Consistent.{owners, indices}

-- what a getter of a part tells of the whole
pub from_part : {X P : Type 0} (part : X → P) (xs : List X) (i : ℕ) (p : P) → option_map part (slice_get xs i) ≡ Some p → (x : X) × (slice_get xs i ≡ Some x) × (part x ≡ p)
from_part part [] i p at = absurd (none-some _ at)
from_part part (x ∷ xs) zero p at = (x, refl, same_Some _ _ at)
from_part part (x ∷ xs) (suc i) p at = from_part part xs i p at

-- an element of a row of numbers
pub slice_get-range : {X : Type 0} (f : ℕ → X) (first count i : ℕ) (x : X) → slice_get (map f (range_with_len first count)) i ≡ Some x → (i < count) × (x ≡ f (first + i))
slice_get-range f first zero i x e = absurd (none-some _ e)
slice_get-range f first (suc count) zero x e = let h : first + 0 ≡ first = omega arith in (omega arith, rw h (sym (same_Some _ _ e)))
slice_get-range f first (suc count) (suc i) x e =
    let rest = slice_get-range f (first + 1) count i x e in
    let h : first + suc i ≡ first + 1 + i = omega arith in
    (omega (arith, rest.0), rw h rest.1)

pub slice_get-numbers : (first count i : ℕ) → i < count → slice_get (range_with_len first count) i ≡ Some (first + i)
slice_get-numbers first count i h =
    slice_get-get_or (range_with_len first count) i 0 (omega (arith, h, length-range_with_len first count)) ∙ ap Some (get_or-range_with_len first count i 0 h)

pub range-slice_get : {X : Type 0} (f : ℕ → X) (first count i : ℕ) → i < count → slice_get (map f (range_with_len first count)) i ≡ Some (f (first + i))
range-slice_get f first count i h = slice_get-map f (range_with_len first count) i ∙ ap (option_map f) (slice_get-numbers first count i h)

-- two rows, one after the other
pub range-append : {X : Type 0} (f : ℕ → X) (first n m : ℕ) → map f (range_with_len first n) ++ map f (range_with_len (first + n) m) ≡ map f (range_with_len first (n + m))
range-append f first zero m = let e : first + 0 ≡ first = omega arith in let z : 0 + m ≡ m = omega arith in rw (e, z) refl
range-append {X} f first (suc n) m =
    let e : first + suc n ≡ first + 1 + n = omega arith in
    let s : suc n + m ≡ suc (n + m) = omega arith in
    rw (e, s) (ap (λ (xs : List X). f first ∷ xs) (range-append f (first + 1) n m))

pub range-append0 : {X : Type 0} (f : ℕ → X) (n m : ℕ) → map f (range_with_len 0 n) ++ map f (range_with_len n m) ≡ map f (range_with_len 0 (n + m))
range-append0 {X} f n m = let e : 0 + n ≡ n = omega arith in subst (λ k. map f (range_with_len 0 n) ++ map f (range_with_len k m) ≡ map f (range_with_len 0 (n + m))) e (range-append f 0 n m)

-- what is left of a list after its first n
pub slice_get-drop : {X : Type 0} (n : ℕ) (xs : List X) (i : ℕ) → slice_get (drop n xs) i ≡ slice_get xs (n + i)
slice_get-drop zero xs i = let e : 0 + i ≡ i = omega arith in rw e refl
slice_get-drop (suc n) [] i = refl
slice_get-drop (suc n) (x ∷ xs) i = let e : suc n + i ≡ suc (n + i) = omega arith in rw e (slice_get-drop n xs i)

-- the owners of two rows of groups
pub owners-append : {X : Type 0} (n : ℕ) (gs hs : List (List X)) → owners n (gs ++ hs) ≡ owners n gs ++ owners (n + length gs) hs
owners-append n [] hs = let e : n + 0 ≡ n = omega arith in rw e refl
owners-append n (g ∷ gs) hs =
    let e : n + suc (length gs) ≡ n + 1 + length gs = omega arith in
    rw (e, owners-append (n + 1) gs hs) (sym (append_assoc (replicate (length g) n) (owners (n + 1) gs) (owners (n + 1 + length gs) hs)))

pub length-owners : {X : Type 0} (n : ℕ) (gs : List (List X)) → length (owners n gs) ≡ length (flat_map (λ g. g) gs)
length-owners n [] = refl
length-owners n (g ∷ gs) = omega (arith, length-append (replicate (length g) n) (owners (n + 1) gs), length-replicate (length g) n, length-append g (flat_map (λ g. g) gs), length-owners (n + 1) gs)

pub length-indices : {X : Type 0} (gs : List (List X)) → length (indices gs) ≡ length (flat_map (λ g. g) gs)
length-indices [] = refl
length-indices (g ∷ gs) = omega (arith, length-append (range_with_len 0 (length g)) (indices gs), length-range_with_len 0 (length g), length-append g (flat_map (λ g. g) gs), length-indices gs)

-- the owners of the first groups are the first owners
pub owners-take : {X : Type 0} (n k count : ℕ) (gs : List (List X)) → length (flat_map (λ g. g) (take k gs)) ≡ count → take count (owners n gs) ≡ owners n (take k gs)
owners-take n k count gs e =
    let whole : owners n gs ≡ owners n (take k gs) ++ owners (n + length (take k gs)) (drop k gs) = ap (owners n) (sym (take-append-drop k gs)) ∙ owners-append n (take k gs) (drop k gs) in
    ap (take count) whole ∙ take_at (owners n (take k gs)) _ count (length-owners n (take k gs) ∙ e)

pub indices-take : {X : Type 0} (k count : ℕ) (gs : List (List X)) → length (flat_map (λ g. g) (take k gs)) ≡ count → take count (indices gs) ≡ indices (take k gs)
indices-take {X} k count gs e =
    let whole : indices gs ≡ indices (take k gs) ++ indices (drop k gs) = ap indices (sym (take-append-drop k gs)) ∙ flat_map-append (λ (g : List X). range_with_len 0 (length g)) (take k gs) (drop k gs) in
    ap (take count) whole ∙ take_at (indices (take k gs)) _ count (length-indices (take k gs) ∙ e)

-- what stands at an index of the first part in the whole stands there in the part
pub take-slice_get : {X : Type 0} (n : ℕ) (xs : List X) (i : ℕ) (x : X) → i < length (take n xs) → slice_get xs i ≡ Some x → slice_get (take n xs) i ≡ Some x
take-slice_get zero xs i x h e = absurd (omega arith)
take-slice_get (suc n) [] i x h e = e
take-slice_get (suc n) (y ∷ xs) zero x h e = e
take-slice_get (suc n) (y ∷ xs) (suc i) x h e = take-slice_get n xs i x (omega arith) e
