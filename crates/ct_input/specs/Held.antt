-- The bytes of the last command, and after them those of no command so far.
use Rattle.std.specs.Prelude.{ℕ, List}

pub record Held : Type 0 where
  pub command : List ℕ
  pub rest : List ℕ
