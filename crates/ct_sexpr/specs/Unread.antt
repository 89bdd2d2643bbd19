-- What a reader stands for.
use Rattle.std.specs.Prelude.{ℕ, List, Bool}

-- the bytes that were fed and belong to no command given so far, the line on which they begin, counted
-- from 1, how many bytes were fed in all, and whether the input has ended
pub record Unread : Type 0 where
  pub bytes : List ℕ
  pub line : ℕ
  pub fed : ℕ
  pub ended : Bool
