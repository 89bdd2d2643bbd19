-- The choices of one element from each of several lists.
use Rattle.std.proofs.Common.{◌≡◌, ℕ, zero, suc, ◌<◌, ◌↔◌, List, [], ◌∷◌, length, map, slice_get, Some, Contains, refl, sym, ◌∙◌, ap, subst, inl, inr, arith}
use Rattle.std.specs.List.{AllZip, flat_map}
use Rattle.std.proofs.lemmas.Option.{same_Some}
use Rattle.ct_lemmas.proofs.Contained.{Contains-first, Contains-rest, Contains-map, Contains-map_cases, Contains-cons, Contains-none}
use Rattle.ct_listing.specs.Listing.{choices}
use Rattle.ct_listing.proofs.ListLemmas.{Contains-flat_map, Contains-flat_map_cases, AreDifferent, different_one, different_map, different_flat_map}

same_first : {X : Type 0} (x y : X) (xs ys : List X) → x ∷ xs ≡ y ∷ ys → x ≡ y
same_first x y xs ys e = same_Some x y (ap (λ l. slice_get l 0) e)

same_rest : {X : Type 0} (x y : X) (xs ys : List X) → x ∷ xs ≡ y ∷ ys → xs ≡ ys
same_rest {X} x y xs ys e = ap rest e
  where
    rest : List X → List X
    rest [] = []
    rest (z ∷ zs) = zs

module _ {X : Type 0} where
  -- a list that has an element of each list is a choice
  pub choices_all : (xss : List (List X)) (ys : List X) → AllZip Contains xss ys → Contains (choices xss) ys
  choices_all [] [] h = Contains-first [] []
  choices_all [] (y ∷ ys) h = absurd h
  choices_all (xs ∷ xss) [] h = absurd h
  choices_all (xs ∷ xss) (y ∷ ys) h =
      Contains-flat_map (λ x. map (λ ys. x ∷ ys) (choices xss)) xs y (y ∷ ys) h.0
      (Contains-map (λ ys. y ∷ ys) (choices xss) ys (choices_all xss ys h.1))

  -- and each choice is such a list
  pub choices_only : (xss : List (List X)) (ys : List X) → Contains (choices xss) ys → AllZip Contains xss ys
  choices_only [] ys h = elim (Contains-cons [] [] ys h) [
    | inl e ↦ subst (λ (l : List X). AllZip Contains [] l) e tt
    | inr later ↦ absurd (Contains-none ys later)
  ]
  choices_only (xs ∷ xss) ys h =
      let found = Contains-flat_map_cases (λ x. map (λ ys. x ∷ ys) (choices xss)) xs ys h in
      let after = Contains-map_cases (λ ys. found.0 ∷ ys) (choices xss) ys found.2 in
      subst (λ (l : List X). AllZip Contains (xs ∷ xss) l) after.2 (found.1, choices_only xss after.0 after.1)

  -- no choice comes twice where nothing comes twice in a list
  pub choices_different : (xss : List (List X)) → ((xs : List X) → Contains xss xs → AreDifferent xs) → AreDifferent (choices xss)
  choices_different [] each = different_one []
  choices_different (xs ∷ xss) each =
      different_flat_map (λ x. map (λ ys. x ∷ ys) (choices xss)) xs (each xs (Contains-first xs xss))
      (λ x inside. different_map (λ ys. x ∷ ys) (λ ys zs e. same_rest x x ys zs e) (choices xss) (choices_different xss (λ ys at. each ys (Contains-rest xs xss ys at))))
      (λ x y zs left right.
      let a = Contains-map_cases (λ ys. x ∷ ys) (choices xss) zs left in
      let b = Contains-map_cases (λ ys. y ∷ ys) (choices xss) zs right in
      same_first x y a.0 b.0 (a.2 ∙ sym b.2))

  -- there is a choice where no list is empty
  pub choices_some : (xss : List (List X)) → ((xs : List X) → Contains xss xs → (x : X) × Contains xs x) → (ys : List X) × Contains (choices xss) ys
  choices_some [] each = ([], Contains-first [] [])
  choices_some (xs ∷ xss) each =
      let here = each xs (Contains-first xs xss) in
      let after = choices_some xss (λ ys at. each ys (Contains-rest xs xss ys at)) in
      (here.0 ∷ after.0, choices_all (xs ∷ xss) (here.0 ∷ after.0) (here.1, choices_only xss after.0 after.1))

-- the choices from lists that have exactly what a relation says are the lists of which it holds, one for one
module _ {X Y : Type 0} (values : Y → List X) (R : X → Y → Type 0) where
  pub choices_exact : (ys : List Y) → ((y : Y) (x : X) → Contains ys y → Contains (values y) x ↔ R x y) → (xs : List X) → Contains (choices (map values ys)) xs ↔ AllZip R xs ys
  choices_exact ys exact xs = (λ h. there ys exact xs (choices_only (map values ys) xs h), λ h. choices_all (map values ys) xs (back ys exact xs h))
    where
      there : (ys : List Y) → ((y : Y) (x : X) → Contains ys y → Contains (values y) x ↔ R x y) → (xs : List X) → AllZip Contains (map values ys) xs → AllZip R xs ys
      there [] exact [] h = tt
      there [] exact (x ∷ xs) h = absurd h
      there (y ∷ ys) exact [] h = absurd h
      there (y ∷ ys) exact (x ∷ xs) h = ((exact y x (Contains-first y ys)).0 h.0, there ys (λ z w at. exact z w (Contains-rest y ys z at)) xs h.1)

      back : (ys : List Y) → ((y : Y) (x : X) → Contains ys y → Contains (values y) x ↔ R x y) → (xs : List X) → AllZip R xs ys → AllZip Contains (map values ys) xs
      back [] exact [] h = tt
      back [] exact (x ∷ xs) h = absurd h
      back (y ∷ ys) exact [] h = absurd h
      back (y ∷ ys) exact (x ∷ xs) h = ((exact y x (Contains-first y ys)).1 h.0, back ys (λ z w at. exact z w (Contains-rest y ys z at)) xs h.1)
