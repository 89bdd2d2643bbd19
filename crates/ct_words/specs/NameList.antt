-- The names of a text, each ended by a byte 10.
use Rattle.std.specs.Prelude.{◌≡◌, ℕ, ◌==◌, List, [], ◌∷◌, ◌++◌, cond, Some, slice_get, flat_map}

-- the first name with one more byte at its start; where no name is ended, there is none
abbrev pub with_first_byte : ℕ → List (List ℕ) → List (List ℕ)
with_first_byte byte [] = []
with_first_byte byte (name ∷ names) = (byte ∷ name) ∷ names

-- the names that a text ends by a byte 10 each, in order
abbrev pub names_in : List ℕ → List (List ℕ)
names_in [] = []
names_in (byte ∷ text) = cond (byte == 10) ([] ∷ names_in text) (with_first_byte byte (names_in text))

-- the text that writes these names, each ended by a byte 10
abbrev pub text_of_names : List (List ℕ) → List ℕ
text_of_names names = flat_map (λ name. name ++ 10 ∷ []) names

-- no two indices have one name
abbrev pub AreDistinct : List (List ℕ) → Type 0
AreDistinct names = (i j : ℕ) (name : List ℕ) → slice_get names i ≡ Some name → slice_get names j ≡ Some name → i ≡ j

-- the name stands at some index
abbrev pub IsListed : List (List ℕ) → List ℕ → Type 0
IsListed names name = (index : ℕ) × (slice_get names index ≡ Some name)
