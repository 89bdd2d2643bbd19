-- What the lists of all elements contain together.
use Rattle.std.proofs.Common.{List, [], ◌∷◌, Contains, sym, subst, inl, inr}
use Rattle.std.specs.List.{flat_map}
use Rattle.std.proofs.lemmas.List.Elements.{Contains-append_left, Contains-append_right}
use Rattle.ct_lemmas.proofs.Contained.{Contains-cons, Contains-none}

-- what the list of one element contains, the lists of all of them contain
pub Contains-flat_map : {X Y : Type 0} (f : X → List Y) (xs : List X) (x : X) (y : Y) → Contains xs x → Contains (f x) y → Contains (flat_map f xs) y
Contains-flat_map f [] x y h k = absurd (Contains-none x h)
Contains-flat_map f (z ∷ xs) x y h k =
    elim (Contains-cons z xs x h) [
      | inl same ↦ Contains-append_left (f z) (flat_map f xs) y (subst (λ w. Contains (f w) y) (sym same) k)
      | inr rest ↦ Contains-append_right (f z) (flat_map f xs) y (Contains-flat_map f xs x y rest k)
    ]
