-- Bytes between tokens, and the lines of a text (SMT-LIB 2.7, section 3.1).
use Rattle.std.specs.Prelude.{ℕ, ◌+◌, ◌-◌, Bool, ◌||◌, ◌==◌, List, [], ◌∷◌, count_by, if◌then◌else◌}

-- tab, line feed, carriage return and space
abbrev pub is_whitespace : ℕ → Bool
is_whitespace b = b == 9 || b == 10 || b == 13 || b == 32

-- a comment ends before a line feed or a carriage return
abbrev pub ends_comment : ℕ → Bool
ends_comment b = b == 10 || b == 13

abbrev pub semicolon : ℕ
semicolon = 59

-- what is left after the whitespace and comments at the start of the bytes, and after what is left of a
-- comment and then the whitespace and comments that follow it
abbrev mutual
  pub after_whitespace : List ℕ → List ℕ
  after_whitespace [] = []
  after_whitespace (b ∷ bs) = if b == semicolon then after_comment bs else (if is_whitespace b then after_whitespace bs else b ∷ bs)

  pub after_comment : List ℕ → List ℕ
  after_comment [] = []
  after_comment (b ∷ bs) = if ends_comment b then after_whitespace bs else after_comment bs

-- how many lines end in the bytes: only a line feed ends a line
abbrev pub line_feeds : List ℕ → ℕ
line_feeds bytes = count_by (λ b. b == 10) bytes

-- the line on which the rest of a text begins, where the text begins on a line and ends with the rest
abbrev pub line_of_rest : ℕ → List ℕ → List ℕ → ℕ
line_of_rest line bytes rest = line + (line_feeds bytes - line_feeds rest)
