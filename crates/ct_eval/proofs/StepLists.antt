-- Lists: two lists element by element, and what stands at an index of a longer list.
use Rattle.std.proofs.Common.{◌≡◌, Bool, List, [], ◌∷◌, refl}
use Rattle.std.specs.List.{AllZip, AllByRecursion, list_all, list_any}

module _ {X : Type 0} where
  -- two facts of each element
  pub each-both : (P Q R : X → Type 0) → ((x : X) → P x → Q x → R x) → (xs : List X) → AllByRecursion P xs → AllByRecursion Q xs → AllByRecursion R xs
  each-both P Q R join [] all also = tt
  each-both P Q R join (x ∷ xs) all also = (join x all.0 also.0, each-both P Q R join xs all.1 also.1)

  -- two tests with one answer at each element have one answer of all, and one of some
  pub list_all-alike : (f g : X → Bool) (xs : List X) → AllByRecursion (λ x. f x ≡ g x) xs → list_all f xs ≡ list_all g xs
  list_all-alike f g [] all = refl
  list_all-alike f g (x ∷ xs) all = cc (all.0, list_all-alike f g xs all.1)

  pub list_any-alike : (f g : X → Bool) (xs : List X) → AllByRecursion (λ x. f x ≡ g x) xs → list_any f xs ≡ list_any g xs
  list_any-alike f g [] all = refl
  list_any-alike f g (x ∷ xs) all = cc (all.0, list_any-alike f g xs all.1)

module _ {X Y : Type 0} where
  -- what each pair says of its first, and of its second
  pub zip-left : (R : X → Y → Type 0) (P : X → Type 0) → ((x : X) (y : Y) → R x y → P x) → (xs : List X) (ys : List Y) → AllZip R xs ys → AllByRecursion P xs
  zip-left R P reported [] ys all = tt
  zip-left R P reported (x ∷ xs) [] all = absurd all
  zip-left R P reported (x ∷ xs) (y ∷ ys) all = (reported x y all.0, zip-left R P reported xs ys all.1)
