-- Which elements a list contains.
use Rattle.std.proofs.Common.{◌≡◌, ℕ, List, Some, slice_get, Contains, ap, ◌∙◌, [], arith, ◌∷◌, refl, suc, zero, ◌⊎◌, inl, inr, take, ◌<◌, ◌≤◌, map, option_map, Option, None, sym}
use Rattle.std.proofs.lemmas.Option.{slice_get_within, get_or_from_slice_get, slice_get-get_or, same_Some, slice_get-map, none-some}
use Rattle.ct_lemmas.proofs.Prefixes.{slice_get-take, slice_get-take_below, take-slice_get}

module _ {X : Type 0} where
  -- what stands at an index is contained
  pub Contains-from_slice_get : (xs : List X) (i : ℕ) (x : X) → slice_get xs i ≡ Some x → Contains xs x
  Contains-from_slice_get xs i x e = (i, slice_get_within xs i x e, get_or_from_slice_get xs i x x e)

  -- what is contained stands at an index
  pub slice_get-from_Contains : (xs : List X) (x : X) → Contains xs x → (i : ℕ) × (slice_get xs i ≡ Some x)
  slice_get-from_Contains xs x (i, within, e) = (i, slice_get-get_or xs i x within ∙ ap (λ (y : X). Some y) e)

  -- the empty list contains nothing
  pub Contains-none : (x : X) → Contains [] x → ⊥
  Contains-none x (index, within, e) = omega (arith, within)

  -- a list contains its first element
  pub Contains-first : (x : X) (xs : List X) → Contains (x ∷ xs) x
  Contains-first x xs = (0, omega arith, refl)

  -- what the rest contains, the list contains
  pub Contains-rest : (y : X) (xs : List X) (x : X) → Contains xs x → Contains (y ∷ xs) x
  Contains-rest y xs x (index, within, e) = (suc index, omega (arith, within), e)

  -- what a list contains is the first element, or the rest contains it
  pub Contains-cons : (x : X) (xs : List X) (y : X) → Contains (x ∷ xs) y → (x ≡ y) ⊎ Contains xs y
  Contains-cons x xs y h = let at = slice_get-from_Contains (x ∷ xs) y h in by at.0 at.1
    where
      by : (i : ℕ) → slice_get (x ∷ xs) i ≡ Some y → (x ≡ y) ⊎ Contains xs y
      by zero e = inl (same_Some x y e)
      by (suc i) e = inr (Contains-from_slice_get xs i y e)

  -- what the first part contains, the whole contains
  pub Contains-take : (n : ℕ) (xs : List X) (x : X) → Contains (take n xs) x → Contains xs x
  Contains-take n xs x h = let at = slice_get-from_Contains (take n xs) x h in Contains-from_slice_get xs at.0 x (slice_get-take n xs at.0 x at.1)

  -- and so does a longer first part
  pub Contains-take_more : (n m : ℕ) (xs : List X) (x : X) → n ≤ m → Contains (take n xs) x → Contains (take m xs) x
  Contains-take_more n m xs x h inside =
      let at = slice_get-from_Contains (take n xs) x inside in
      let below : at.0 < n = slice_get-take_below n xs at.0 x at.1 in
      Contains-from_slice_get (take m xs) at.0 x (take-slice_get m xs at.0 x (omega arith) (slice_get-take n xs at.0 x at.1))

  -- the first part contains what stands at an index of it
  pub Contains-take_at : (n : ℕ) (xs : List X) (i : ℕ) (x : X) → i < n → slice_get xs i ≡ Some x → Contains (take n xs) x
  Contains-take_at n xs i x h e = Contains-from_slice_get (take n xs) i x (take-slice_get n xs i x h e)

module _ {X Y : Type 0} (f : X → Y) where
  -- the list of images contains the image of what the list contains
  pub Contains-map : (xs : List X) (x : X) → Contains xs x → Contains (map f xs) (f x)
  Contains-map xs x h =
      let at = slice_get-from_Contains xs x h in
      Contains-from_slice_get (map f xs) at.0 (f x) (slice_get-map f xs at.0 ∙ ap (option_map f) at.1)

  -- what the list of images contains is the image of what the list contains
  pub Contains-map_cases : (xs : List X) (y : Y) → Contains (map f xs) y → (x : X) × Contains xs x × (f x ≡ y)
  Contains-map_cases xs y h =
      let at = slice_get-from_Contains (map f xs) y h in
      by at.0 (slice_get xs at.0) refl (sym (slice_get-map f xs at.0) ∙ at.1)
    where
      by : (i : ℕ) (o : Option X) → slice_get xs i ≡ o → option_map f o ≡ Some y → (x : X) × Contains xs x × (f x ≡ y)
      by i None at e = absurd (none-some y e)
      by i (Some x) at e = (x, Contains-from_slice_get xs i x at, same_Some (f x) y e)
