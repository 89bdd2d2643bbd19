-- What stands between the nodes of a graph where they are written one by one.
use Rattle.std.specs.Prelude.{ℕ, zero, suc, List, [], ◌∷◌}

-- what stands before the row with this number: a space, but nothing before the first
abbrev pub gap : ℕ → List ℕ
gap zero = []
gap (suc n) = 32 ∷ []
