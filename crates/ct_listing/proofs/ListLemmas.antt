-- What lists put together contain, and lists in which nothing comes twice.
use Rattle.std.proofs.Common.{◌≡◌, ℕ, zero, suc, ◌+◌, ◌⊎◌, List, [], ◌∷◌, ◌++◌, length, map, slice_get, Some, Contains, refl, sym, ◌∙◌, ap, ap₂, inl, inr, arith}
use Rattle.std.specs.List.{flat_map}
use Rattle.std.proofs.lemmas.Option.{none-some, same_Some}
use Rattle.ct_lemmas.proofs.Contained.{Contains-from_slice_get, slice_get-from_Contains, Contains-none, Contains-first, Contains-rest, Contains-cons}
use Rattle.ct_lemmas.proofs.Lists.{slice_get-append_left, slice_get-append_right, slice_get-append_cases, slice_get-map_source}

module _ {X : Type 0} where
  pub Contains-left : (xs ys : List X) (x : X) → Contains xs x → Contains (xs ++ ys) x
  Contains-left xs ys x h =
      let at = slice_get-from_Contains xs x h in
      Contains-from_slice_get (xs ++ ys) at.0 x (slice_get-append_left xs ys at.0 x at.1)

  pub Contains-right : (xs ys : List X) (x : X) → Contains ys x → Contains (xs ++ ys) x
  Contains-right xs ys x h =
      let at = slice_get-from_Contains ys x h in
      Contains-from_slice_get (xs ++ ys) (length xs + at.0) x (slice_get-append_right xs ys at.0 x at.1)

  pub Contains-either : (xs ys : List X) (x : X) → Contains (xs ++ ys) x → Contains xs x ⊎ Contains ys x
  Contains-either xs ys x h =
      let at = slice_get-from_Contains (xs ++ ys) x h in
      elim (slice_get-append_cases xs ys at.0 x at.1) [
        | inl here ↦ inl (Contains-from_slice_get xs at.0 x here)
        | inr later ↦ inr (Contains-from_slice_get ys later.0 x later.2)
      ]

module _ {X Y : Type 0} (f : X → List Y) where
  pub Contains-flat_map : (xs : List X) (x : X) (y : Y) → Contains xs x → Contains (f x) y → Contains (flat_map f xs) y
  Contains-flat_map [] x y h inside = absurd (Contains-none x h)
  Contains-flat_map (z ∷ zs) x y h inside = elim (Contains-cons z zs x h) [
    | inl e ↦ Contains-left (f z) (flat_map f zs) y (rw e inside)
    | inr later ↦ Contains-right (f z) (flat_map f zs) y (Contains-flat_map zs x y later inside)
  ]

  pub Contains-flat_map_cases : (xs : List X) (y : Y) → Contains (flat_map f xs) y → (x : X) × Contains xs x × Contains (f x) y
  Contains-flat_map_cases [] y h = absurd (Contains-none y h)
  Contains-flat_map_cases (z ∷ zs) y h = elim (Contains-either (f z) (flat_map f zs) y h) [
    | inl here ↦ (z, Contains-first z zs, here)
    | inr later ↦ let found = Contains-flat_map_cases zs y later in (found.0, Contains-rest z zs found.0 found.1, found.2)
  ]

-- nothing comes twice in the list
abbrev pub AreDifferent : {X : Type 0} → List X → Type 0
AreDifferent {X} xs = (i j : ℕ) (x : X) → slice_get xs i ≡ Some x → slice_get xs j ≡ Some x → i ≡ j

module _ {X : Type 0} where
  pub different_none : AreDifferent {X = X} []
  different_none i j x at_i at_j = absurd (none-some _ at_i)

  pub different_one : (x : X) → AreDifferent (x ∷ [])
  different_one x zero zero y at_i at_j = refl
  different_one x zero (suc j) y at_i at_j = absurd (none-some _ at_j)
  different_one x (suc i) j y at_i at_j = absurd (none-some _ at_i)

  pub different_rest : (x : X) (xs : List X) → AreDifferent (x ∷ xs) → AreDifferent xs
  different_rest x xs h i j y at_i at_j = let e : suc i ≡ suc j = h (suc i) (suc j) y at_i at_j in omega (arith, e)

  pub different_first : (x : X) (xs : List X) → AreDifferent (x ∷ xs) → Contains xs x → ⊥
  different_first x xs h inside =
      let at = slice_get-from_Contains xs x inside in
      let e : 0 ≡ suc at.0 = h 0 (suc at.0) x refl at.1 in
      omega (arith, e)

  pub different_append : (xs ys : List X) → AreDifferent xs → AreDifferent ys → ((x : X) → Contains xs x → Contains ys x → ⊥) → AreDifferent (xs ++ ys)
  different_append xs ys left right apart i j x at_i at_j =
      by (slice_get-append_cases xs ys i x at_i) (slice_get-append_cases xs ys j x at_j)
    where
      by : (slice_get xs i ≡ Some x) ⊎ ((k : ℕ) × (i ≡ length xs + k) × (slice_get ys k ≡ Some x)) → (slice_get xs j ≡ Some x) ⊎ ((k : ℕ) × (j ≡ length xs + k) × (slice_get ys k ≡ Some x)) → i ≡ j
      by (inl a) (inl b) = left i j x a b
      by (inl a) (inr b) = absurd (apart x (Contains-from_slice_get xs i x a) (Contains-from_slice_get ys b.0 x b.2))
      by (inr a) (inl b) = absurd (apart x (Contains-from_slice_get xs j x b) (Contains-from_slice_get ys a.0 x a.2))
      by (inr a) (inr b) = let e : a.0 ≡ b.0 = right a.0 b.0 x a.2 b.2 in a.1 ∙ ap (λ n. length xs + n) e ∙ sym b.1

module _ {X Y : Type 0} where
  pub different_map : (f : X → Y) → ((x y : X) → f x ≡ f y → x ≡ y) → (xs : List X) → AreDifferent xs → AreDifferent (map f xs)
  different_map f one xs h i j y at_i at_j =
      let a = slice_get-map_source f xs i y at_i in
      let b = slice_get-map_source f xs j y at_j in
      let e : b.0 ≡ a.0 = one b.0 a.0 (b.2 ∙ sym a.2) in
      h i j a.0 a.1 (b.1 ∙ ap (λ (x : X). Some x) e)

  pub different_flat_map : (f : X → List Y) (xs : List X) → AreDifferent xs → ((x : X) → Contains xs x → AreDifferent (f x)) → ((x y : X) (z : Y) → Contains (f x) z → Contains (f y) z → x ≡ y) → AreDifferent (flat_map f xs)
  different_flat_map f [] h each apart = different_none
  different_flat_map f (x ∷ xs) h each apart =
      different_append (f x) (flat_map f xs) (each x (Contains-first x xs))
      (different_flat_map f xs (different_rest x xs h) (λ y inside. each y (Contains-rest x xs y inside)) apart)
      (λ z here later.
      let found = Contains-flat_map_cases f xs z later in
      let e : x ≡ found.0 = apart x found.0 z here found.2 in
      different_first x xs h (rw e found.1))

module _ {X Y : Type 0} (f g : X → Y) where
  -- functions that are equal on all elements have equal lists of images
  pub map_same : (xs : List X) → ((x : X) → Contains xs x → f x ≡ g x) → map f xs ≡ map g xs
  map_same [] h = refl
  map_same (x ∷ xs) h = ap₂ (λ (y : Y) (ys : List Y). y ∷ ys) (h x (Contains-first x xs)) (map_same xs (λ y at. h y (Contains-rest x xs y at)))

module _ {X Y : Type 0} (f g : X → List Y) where
  pub flat_map_same : (xs : List X) → ((x : X) → Contains xs x → f x ≡ g x) → flat_map f xs ≡ flat_map g xs
  flat_map_same [] h = refl
  flat_map_same (x ∷ xs) h = ap₂ (λ (ys zs : List Y). ys ++ zs) (h x (Contains-first x xs)) (flat_map_same xs (λ y at. h y (Contains-rest x xs y at)))
