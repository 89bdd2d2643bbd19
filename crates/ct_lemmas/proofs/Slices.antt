-- Lists of numbers: what an index and a range read of longer ones.
use Rattle.std.proofs.Common.{◌≡◌, ℕ, ◌+◌, ◌-◌, ◌<◌, List, [], ◌∷◌, ◌++◌, length, slice_index, ap, ◌∙◌, arith, ◌≤◌, take, drop, length-drop, length-append, zero, suc}
use Rattle.std.specs.List.{slice_range}
use Rattle.std.proofs.lemmas.List.{get_or_append_left, get_or-append-add, take-append-le, drop-append-le, drop_at, take_all}

-- an index before the last element
pub index-left : (xs : List ℕ) (x i : ℕ) → i < length xs → slice_index (xs ++ x ∷ []) i ≡ slice_index xs i
index-left xs x i within = get_or_append_left xs (x ∷ []) 0 i within

-- the index of the last element
pub index-last : (xs : List ℕ) (x i : ℕ) → i ≡ length xs → slice_index (xs ++ x ∷ []) i ≡ x
index-last xs x i e =
    let at : i ≡ length xs + 0 = omega (arith, e) in
    ap (slice_index (xs ++ x ∷ [])) at ∙ get_or-append-add xs (x ∷ []) 0 0

-- a range of the first of two lists
pub range-append_left : (xs ys : List ℕ) (a b : ℕ) → a ≤ b → b ≤ length xs → slice_range (xs ++ ys) a b ≡ slice_range xs a b
range-append_left xs ys a b order within =
    ap (take (b - a)) (drop-append-le a xs ys (omega (arith, order, within)))
    ∙ take-append-le (b - a) (drop a xs) ys (omega (arith, order, within, length-drop a xs))

-- the range after the first of two lists
pub range-append_right : (xs ys : List ℕ) (a b : ℕ) → length xs ≡ a → b ≡ length (xs ++ ys) → slice_range (xs ++ ys) a b ≡ ys
range-append_right xs ys a b start end =
    ap (take (b - a)) (drop_at xs ys a start)
    ∙ take_all (b - a) ys (omega (arith, start, end, length-append xs ys))

-- numbers that do not fall from one index to the next do not fall up to the last
pub rises : (starts : List ℕ) (n : ℕ) → ((i : ℕ) → i < n → slice_index starts i ≤ slice_index starts (i + 1)) → (d i : ℕ) → i + d ≡ n → slice_index starts i ≤ slice_index starts n
rises starts n rising zero i e =
    let same : slice_index starts i ≡ slice_index starts n = ap (slice_index starts) (omega arith) in
    omega arith
rises starts n rising (suc d) i e =
    let step = rising i (omega arith) in
    let rest = rises starts n rising d (i + 1) (omega arith) in
    omega arith
