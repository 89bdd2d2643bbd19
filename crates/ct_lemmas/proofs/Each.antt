-- What holds of each element of a list.
use Rattle.std.proofs.Common.{◌≡◌, ℕ, List, Some, slice_get, All, get_or, Contains, [], ◌∷◌}
use Rattle.std.specs.List.{AllByRecursion}
use Rattle.std.proofs.lemmas.List.Elements.{All-contains, Contains-get_or, All-nil, All-cons}
use Rattle.std.proofs.lemmas.Option.{slice_get-get_or}
use Rattle.ct_lemmas.proofs.Contained.{Contains-from_slice_get}

module _ {X : Type 0} where
  -- what holds of all elements holds of what stands at an index
  pub All-at : (P : X → Type 0) (xs : List X) (i : ℕ) (x : X) → All P xs → slice_get xs i ≡ Some x → P x
  All-at P xs i x all e = All-contains P xs x all (Contains-from_slice_get xs i x e)

  -- what holds of all that a list contains holds of all elements
  pub All-from_Contains : (P : X → Type 0) (xs : List X) → ((x : X) → Contains xs x → P x) → All P xs
  All-from_Contains P xs h k d within = h (get_or xs k d) (Contains-get_or xs k d within)

  -- what holds of what stands at each index holds of all elements
  pub All-from_slice_get : (P : X → Type 0) (xs : List X) → ((k : ℕ) (x : X) → slice_get xs k ≡ Some x → P x) → All P xs
  All-from_slice_get P xs h = λ k d within. h k (get_or xs k d) (slice_get-get_or xs k d within)

  -- what holds of an element holds of all of a list of that one
  pub All-one : (P : X → Type 0) (x : X) → P x → All P (x ∷ [])
  All-one P x h = All-cons P x [] h (All-nil P)

-- what follows for each element
pub AllByRecursion-weaker : {X : Type 0} (P Q : X → Type 0) → ((x : X) → P x → Q x) → (xs : List X) → AllByRecursion P xs → AllByRecursion Q xs
AllByRecursion-weaker P Q each [] h = tt
AllByRecursion-weaker P Q each (x ∷ xs) h = (each x h.0, AllByRecursion-weaker P Q each xs h.1)
