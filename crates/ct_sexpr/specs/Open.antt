-- The tokens of a command that is being read.
use Rattle.std.specs.Prelude.{ℕ, List, []}
use Rattle.ct_sexpr.specs.Token.{Token}

-- the tokens that were read of a command that is not yet closed, and how many parentheses they leave open
pub record Open : Type 0 where
  pub tokens : List Token
  pub depth : ℕ

-- nothing is open
abbrev pub none_open : Open
none_open = record { tokens = []; depth = 0 }
