-- A word in a table that is two tables, one after the other.
use Rattle.std.proofs.Common.{◌≡◌, ℕ, Bool, true, false, List, [], ◌∷◌, ◌++◌, Option, Some, None, if◌then◌else◌, refl, sym, ◌∙◌}
use Rattle.std.specs.Str.{bytes_eq}
use Rattle.ct_command.specs.Tables.{beside}

module _ {X : Type 0} (ys : List (List ℕ × X)) (word : List ℕ) where
  test_some : (b : Bool) (v known : X) (first both : Option X) → (first ≡ Some known → both ≡ Some known) → (if b then Some v else first) ≡ Some known → (if b then Some v else both) ≡ Some known
  test_some true v known first both later e = e
  test_some false v known first both later e = later e

  test_none : (b : Bool) (v : X) (first both : Option X) (second : Option X) → (first ≡ None → both ≡ second) → (if b then Some v else first) ≡ None → (if b then Some v else both) ≡ second
  test_none true v first both second later e = cc
  test_none false v first both second later e = later e

  in_first : (xs : List (List ℕ × X)) (known : X) → beside xs word ≡ Some known → beside (xs ++ ys) word ≡ Some known
  in_first [] known e = cc
  in_first (x ∷ xs) known e = test_some (bytes_eq x.0 word) x.1 known (beside xs word) (beside (xs ++ ys) word) (in_first xs known) e

  in_second : (xs : List (List ℕ × X)) → beside xs word ≡ None → beside (xs ++ ys) word ≡ beside ys word
  in_second [] e = refl
  in_second (x ∷ xs) e = test_none (bytes_eq x.0 word) x.1 (beside xs word) (beside (xs ++ ys) word) (beside ys word) (in_second xs) e

  -- the word stands in the first
  pub found : (xs : List (List ℕ × X)) (known : X) → Some known ≡ beside xs word → Some known ≡ beside (xs ++ ys) word
  found xs known e = sym (in_first xs known (sym e))

  -- the word does not stand in the first
  pub skip : (xs : List (List ℕ × X)) (answer : Option X) → None ≡ beside xs word → answer ≡ beside ys word → answer ≡ beside (xs ++ ys) word
  skip xs answer absent e = e ∙ sym (in_second xs (sym absent))
