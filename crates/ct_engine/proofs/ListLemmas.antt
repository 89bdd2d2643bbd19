-- The first part of a list with a new last element, and lists that begin others.
use Rattle.std.proofs.Common.{◌≡◌, ◌+◌, List, [], ◌∷◌, ◌++◌, length, take, refl, sym, ap, ◌∙◌, append_assoc}
use Rattle.std.proofs.lemmas.List.{append-nil}
use Rattle.ct_sorts.specs.Grown.{Begins}

module _ {X : Type 0} where
  -- the first part before a new last element is the list
  pub take-push : (xs : List X) (x : X) → take (length xs) (xs ++ x ∷ []) ≡ xs
  take-push [] x = refl
  take-push (y ∷ xs) x = ap (λ (zs : List X). y ∷ zs) (take-push xs x)

  -- a list begins itself
  pub Begins-itself : (xs : List X) → Begins xs xs
  Begins-itself xs = ([], sym (append-nil xs))

  -- what begins a beginning of a list begins the list
  pub Begins-then : (xs ys zs : List X) → Begins xs ys → Begins ys zs → Begins xs zs
  Begins-then xs ys zs one other =
      (one.0 ++ other.0, other.1 ∙ ap (λ (ls : List X). ls ++ other.0) one.1 ∙ append_assoc xs one.0 other.0)
