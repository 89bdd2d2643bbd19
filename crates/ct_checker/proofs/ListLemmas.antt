-- What a list of images contains, with its index.
use Rattle.std.proofs.Common.{◌≡◌, ℕ, List, map, Option, Some, None, slice_get, Contains, option_map, refl, sym, ◌∙◌}
use Rattle.std.proofs.lemmas.Option.{none-some, same_Some, slice_get-map}
use Rattle.ct_lemmas.proofs.Contained.{slice_get-from_Contains}

module _ {X Y : Type 0} (f : X → Y) where
  -- a member of the image is the image of a member
  pub Contains-map_cases : (xs : List X) (y : Y) → Contains (map f xs) y → (index : ℕ) × (x : X) × (slice_get xs index ≡ Some x) × (f x ≡ y)
  Contains-map_cases xs y h =
      let at = slice_get-from_Contains (map f xs) y h in
      by at.0 (slice_get xs at.0) refl (sym (slice_get-map f xs at.0) ∙ at.1)
    where
      by : (index : ℕ) (o : Option X) → slice_get xs index ≡ o → option_map f o ≡ Some y → (index : ℕ) × (x : X) × (slice_get xs index ≡ Some x) × (f x ≡ y)
      by index None at e = absurd (none-some y e)
      by index (Some x) at e = (index, x, at, same_Some (f x) y e)
