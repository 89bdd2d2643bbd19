-- The longest run of bytes that pass a test, and what is left after it.
use Rattle.std.specs.Prelude.{ℕ, Bool, List, [], ◌∷◌, if◌then◌else◌}

abbrev pub take_while : (ℕ → Bool) → List ℕ → List ℕ
take_while test [] = []
take_while test (b ∷ bs) = if test b then b ∷ take_while test bs else []

abbrev pub drop_while : (ℕ → Bool) → List ℕ → List ℕ
drop_while test [] = []
drop_while test (b ∷ bs) = if test b then drop_while test bs else b ∷ bs
