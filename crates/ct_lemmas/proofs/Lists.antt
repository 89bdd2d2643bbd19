-- Lists by their indices: what stands where, in longer lists, in lists of images and in lists that were written to.
use Rattle.std.proofs.Common.{◌≡◌, ℕ, zero, suc, ◌<◌, List, [], ◌∷◌, length, Some, slice_get, refl, arith, ◌+◌, ◌++◌, ◌⊎◌, inl, inr, ap, set, map, replicate, sym, true, false, get_or, subst, Bool}
use Rattle.std.specs.List.{flat_map, list_all}
use Rattle.std.proofs.lemmas.Bool.{and_parts}
use Rattle.std.proofs.lemmas.Option.{none-some, same_Some, slice_get-get_or}

module _ {X : Type 0} where
  -- something stands at each index of a list
  pub slice_get-there : (xs : List X) (i : ℕ) → i < length xs → (x : X) × (slice_get xs i ≡ Some x)
  slice_get-there [] i h = absurd (omega arith)
  slice_get-there (y ∷ ys) zero h = (y, refl)
  slice_get-there (y ∷ ys) (suc i) h = slice_get-there ys i (omega arith)

  -- what stands in a list stands there with more after it
  pub slice_get-append_left : (xs ys : List X) (i : ℕ) (x : X) → slice_get xs i ≡ Some x → slice_get (xs ++ ys) i ≡ Some x
  slice_get-append_left [] ys i x e = absurd (none-some x e)
  slice_get-append_left (z ∷ zs) ys zero x e = e
  slice_get-append_left (z ∷ zs) ys (suc i) x e = slice_get-append_left zs ys i x e

  -- an index of the first of two lists reads the first
  pub slice_get-prefix : (xs ys : List X) (k : ℕ) → k < length xs → slice_get (xs ++ ys) k ≡ slice_get xs k
  slice_get-prefix [] ys k within = absurd (omega arith)
  slice_get-prefix (x ∷ xs) ys zero within = refl
  slice_get-prefix (x ∷ xs) ys (suc k) within = slice_get-prefix xs ys k (omega arith)

  -- what stands in the second of two lists stands after the first
  pub slice_get-append_right : (xs ys : List X) (k : ℕ) (x : X) → slice_get ys k ≡ Some x → slice_get (xs ++ ys) (length xs + k) ≡ Some x
  slice_get-append_right [] ys k x e = let same : 0 + k ≡ k = omega arith in rw same e
  slice_get-append_right (z ∷ zs) ys k x e =
      let same : suc (length zs) + k ≡ suc (length zs + k) = omega arith in
      rw same (slice_get-append_right zs ys k x e)

  -- an index past the first of two lists reads the second
  pub slice_get-append_after : (xs ys : List X) (k : ℕ) → slice_get (xs ++ ys) (length xs + k) ≡ slice_get ys k
  slice_get-append_after [] ys k = let e : 0 + k ≡ k = omega arith in rw e refl
  slice_get-append_after (z ∷ xs) ys k = let e : suc (length xs) + k ≡ suc (length xs + k) = omega arith in rw e (slice_get-append_after xs ys k)

  -- what stands in two lists stands in one of them, at its index
  pub slice_get-append_cases : (xs ys : List X) (i : ℕ) (x : X) → slice_get (xs ++ ys) i ≡ Some x → (slice_get xs i ≡ Some x) ⊎ ((k : ℕ) × (i ≡ length xs + k) × (slice_get ys k ≡ Some x))
  slice_get-append_cases [] ys i x e = inr (i, omega arith, e)
  slice_get-append_cases (z ∷ zs) ys zero x e = inl e
  slice_get-append_cases (z ∷ zs) ys (suc i) x e =
      elim (slice_get-append_cases zs ys i x e) [ inl h ↦ inl h | inr h ↦ inr (h.0, omega (arith, h.1), h.2) ]

  -- what stands in two lists stands in one of them
  pub slice_get-append_either : (xs ys : List X) (i : ℕ) (x : X) → slice_get (xs ++ ys) i ≡ Some x → (slice_get xs i ≡ Some x) ⊎ ((k : ℕ) × (slice_get ys k ≡ Some x))
  slice_get-append_either [] ys i x e = inr (i, e)
  slice_get-append_either (z ∷ zs) ys zero x e = inl e
  slice_get-append_either (z ∷ zs) ys (suc i) x e = slice_get-append_either zs ys i x e

  -- a new last element stands at the old length
  pub slice_get-last : (xs : List X) (x : X) → slice_get (xs ++ x ∷ []) (length xs) ≡ Some x
  slice_get-last [] x = refl
  slice_get-last (z ∷ zs) x = slice_get-last zs x

  -- with a new last element, what stands at an index stood there before, or is the new one at the end
  pub slice_get-push_cases : (xs : List X) (x y : X) (i : ℕ) → slice_get (xs ++ x ∷ []) i ≡ Some y → (slice_get xs i ≡ Some y) ⊎ ((i ≡ length xs) × (x ≡ y))
  slice_get-push_cases [] x y zero e = inr (refl, same_Some x y e)
  slice_get-push_cases [] x y (suc i) e = absurd (none-some y e)
  slice_get-push_cases (z ∷ zs) x y zero e = inl e
  slice_get-push_cases (z ∷ zs) x y (suc i) e =
      elim (slice_get-push_cases zs x y i e) [ inl h ↦ inl h | inr h ↦ inr (ap suc h.0, h.1) ]

  -- an element that was written stands where it was written
  pub slice_get-set_same : (xs : List X) (i : ℕ) (x : X) → i < length xs → slice_get (set xs i x) i ≡ Some x
  slice_get-set_same [] i x h = absurd (omega arith)
  slice_get-set_same (y ∷ ys) zero x h = refl
  slice_get-set_same (y ∷ ys) (suc i) x h = slice_get-set_same ys i x (omega arith)

  -- and the others stay
  pub slice_get-set_other : (xs : List X) (i j : ℕ) (x : X) → (j ≡ i → ⊥) → slice_get (set xs i x) j ≡ slice_get xs j
  slice_get-set_other [] i j x h = refl
  slice_get-set_other (y ∷ ys) zero zero x h = absurd (h refl)
  slice_get-set_other (y ∷ ys) zero (suc j) x h = refl
  slice_get-set_other (y ∷ ys) (suc i) zero x h = refl
  slice_get-set_other (y ∷ ys) (suc i) (suc j) x h = slice_get-set_other ys i j x (λ e. h (ap suc e))

-- the image of what stands at an index stands there in the list of images
pub slice_get-map_at : {X Y : Type 0} (f : X → Y) (xs : List X) (k : ℕ) (x : X) → slice_get xs k ≡ Some x → slice_get (map f xs) k ≡ Some (f x)
slice_get-map_at f [] k x at = absurd (none-some _ at)
slice_get-map_at f (y ∷ xs) zero x at = ap (λ z. Some (f z)) (same_Some _ _ at)
slice_get-map_at f (y ∷ xs) (suc k) x at = slice_get-map_at f xs k x at

-- what stands in a list of images is the image of what stands there
pub slice_get-map_source : {X Y : Type 0} (f : X → Y) (xs : List X) (k : ℕ) (y : Y) → slice_get (map f xs) k ≡ Some y → (x : X) × (slice_get xs k ≡ Some x) × (f x ≡ y)
slice_get-map_source f [] k y at = absurd (none-some _ at)
slice_get-map_source f (x ∷ xs) zero y at = (x, refl, same_Some _ _ at)
slice_get-map_source f (x ∷ xs) (suc k) y at = slice_get-map_source f xs k y at

-- what stands in a list of one element many times is that element
pub slice_get-replicate : {X : Type 0} (n k : ℕ) (x y : X) → slice_get (replicate n x) k ≡ Some y → y ≡ x
slice_get-replicate zero k x y at = absurd (none-some y at)
slice_get-replicate (suc n) zero x y at = sym (same_Some x y at)
slice_get-replicate (suc n) (suc k) x y at = slice_get-replicate n k x y at

-- no mark is set in a list of marks that are all unset
pub slice_get-replicate_false : (n i : ℕ) → slice_get (replicate n false) i ≡ Some true → ⊥
slice_get-replicate_false zero i e = none-some true e
slice_get-replicate_false (suc n) zero e = let h : false ≡ true = same_Some false true e in true_false (sym h)
  where
    true_false : true ≡ false → ⊥
    true_false k = cc
slice_get-replicate_false (suc n) (suc i) e = slice_get-replicate_false n i e

-- where one of two lists of one length has an element the other has one
pub slice_get-one_length : {X Y : Type 0} (xs : List X) (ys : List Y) (k : ℕ) (x : X) → length xs ≡ length ys → slice_get xs k ≡ Some x → (y : Y) × (slice_get ys k ≡ Some y)
slice_get-one_length [] ys k x long at = absurd (none-some x at)
slice_get-one_length (z ∷ xs) [] k x long at = absurd (omega (arith, long))
slice_get-one_length (z ∷ xs) (y ∷ ys) zero x long at = (y, refl)
slice_get-one_length (z ∷ xs) (y ∷ ys) (suc k) x long at = slice_get-one_length xs ys k x (omega (arith, long)) at

-- what an index reads of a list by another name stands there
pub slice_get-read : {X : Type 0} (xs ys : List X) → ys ≡ xs → (k : ℕ) (d : X) → k < length xs → slice_get xs k ≡ Some (get_or ys k d)
slice_get-read {X = X} xs ys e k d within = subst (λ (zs : List X). slice_get xs k ≡ Some (get_or zs k d)) (sym e) (slice_get-get_or xs k d within)

-- what stands in the list of an element stands in the lists of all elements, one after the other
pub slice_get-flat_map : {X Y : Type 0} (f : X → List Y) (xs : List X) (i j : ℕ) (x : X) (y : Y) → slice_get xs i ≡ Some x → slice_get (f x) j ≡ Some y → (k : ℕ) × (slice_get (flat_map f xs) k ≡ Some y)
slice_get-flat_map f [] i j x y at_i at_j = absurd (none-some _ at_i)
slice_get-flat_map {X} f (z ∷ xs) zero j x y at_i at_j =
    let e : z ≡ x = same_Some _ _ at_i in
    (j, slice_get-append_left (f z) (flat_map f xs) j y (subst (λ (w : X). slice_get (f w) j ≡ Some y) (sym e) at_j))
slice_get-flat_map f (z ∷ xs) (suc i) j x y at_i at_j =
    let r = slice_get-flat_map f xs i j x y at_i at_j in (length (f z) + r.0, slice_get-append_right (f z) (flat_map f xs) r.0 y r.1)

-- where all elements pass a test, each does
pub list_all-at : {X : Type 0} (test : X → Bool) (xs : List X) (i : ℕ) (x : X) → list_all test xs ≡ true → slice_get xs i ≡ Some x → test x ≡ true
list_all-at test [] i x e at = absurd cc
list_all-at test (y ∷ xs) zero x e at =
    let same : y ≡ x = same_Some y x at in
    subst (λ z. test z ≡ true) same (and_parts (test y) (list_all test xs) e).0
list_all-at test (y ∷ xs) (suc i) x e at = list_all-at test xs i x (and_parts (test y) (list_all test xs) e).1 at
