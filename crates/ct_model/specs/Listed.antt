-- Texts as the items of a list (SMT-LIB 2.7, section 3.2), with one space between two, and as lines.
use Rattle.std.specs.Prelude.{ℕ, List, [], ◌∷◌, ◌++◌}
use Rattle.ct_sexpr.specs.Token.{left_parenthesis, right_parenthesis}

-- each text after a space
abbrev pub spaced : List (List ℕ) → List ℕ
spaced [] = []
spaced (t ∷ ts) = 32 ∷ (t ++ spaced ts)

-- a space between two texts
abbrev pub joined : List (List ℕ) → List ℕ
joined [] = []
joined (t ∷ ts) = t ++ spaced ts

-- the texts as a list in parentheses
abbrev pub listed : List (List ℕ) → List ℕ
listed ts = left_parenthesis ∷ (joined ts ++ right_parenthesis ∷ [])

-- each text as a line, which the byte 10 ends
abbrev pub lines : List (List ℕ) → List ℕ
lines [] = []
lines (t ∷ ts) = t ++ 10 ∷ lines ts
