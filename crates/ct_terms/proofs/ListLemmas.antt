-- A search by a test.
use Rattle.std.proofs.Common.{◌≡◌, ◌≤◌, Bool, List, length, position, None, arith}
use Rattle.std.specs.List.{position_or_len}
use Rattle.std.proofs.lemmas.Bool.Decides.{nat_tests}

module _ {X : Type 0} where
  -- a search that finds nothing has gone past the end
  pub position-None : (p : X → Bool) (xs : List X) → position p xs ≡ None → length xs ≤ position_or_len p xs
  position-None p xs e = grind (arith, nat_tests)
