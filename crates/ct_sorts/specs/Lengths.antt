-- How much is declared.
use Rattle.std.specs.Prelude.{ℕ}

-- how many sorts, constructors, selectors, functions and definitions there are, how many sorts without parameters and
-- generics, how many synonyms, how many names of constructors and selectors of these, and the lengths of the lists beside
-- the sorts and beside the sorts without parameters and generics
pub record Lengths : Type 0 where
  pub sorts : ℕ
  pub ctors : ℕ
  pub sels : ℕ
  pub functions : ℕ
  pub definitions : ℕ
  pub heads : ℕ
  pub synonyms : ℕ
  pub symbols : ℕ
  pub origins : ℕ
  pub spellings : ℕ
