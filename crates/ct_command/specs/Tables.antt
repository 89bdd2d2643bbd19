-- Tables of words, each with what it stands for.
use Rattle.std.specs.Prelude.{ℕ, List, [], ◌∷◌, map, Option, Some, None, if◌then◌else◌}
use Rattle.std.specs.Str.{bytes_eq}

-- what stands beside the word in the table
abbrev pub beside : {X : Type 0} → List (List ℕ × X) → List ℕ → Option X
beside [] word = None
beside (entry ∷ entries) word = if bytes_eq entry.0 word then Some entry.1 else beside entries word

-- the words of the table
abbrev pub entries_named : {X : Type 0} → List (List ℕ × X) → List (List ℕ)
entries_named entries = map (λ entry. entry.0) entries
