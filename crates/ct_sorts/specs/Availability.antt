-- Which names may be declared.
use Rattle.std.specs.Prelude.{◌≡◌, ℕ, ◌⊎◌, List, [], ◌∷◌, ◌++◌, Some, slice_get, codes}

-- the text is one of these
abbrev pub IsListed : List (List ℕ) → List ℕ → Type 0
IsListed names name = (index : ℕ) × (slice_get names index ≡ Some name)

-- the words of the core theory, which cannot be declared (SMT-LIB 2.7, section 3.7 and the theory Core)
abbrev pub core_words : List (List ℕ)
core_words =
    codes "true" ∷ (codes "false" ∷ (codes "not" ∷ (codes "and" ∷ (codes "or" ∷ (codes "xor" ∷ (codes "=>" ∷ (codes "=" ∷ (codes "distinct" ∷ (codes "ite" ∷ [])))))))))

-- the byte stands in the text
abbrev pub HasByte : List ℕ → ℕ → Type 0
HasByte text byte = (index : ℕ) × (slice_get text index ≡ Some byte)

-- a name that begins with `@` or `.`, or that holds a `|` or a backslash, is the solver's own or no name at all
abbrev pub IsUnfit : List ℕ → Type 0
IsUnfit name = (slice_get name 0 ≡ Some 64) ⊎ ((slice_get name 0 ≡ Some 46) ⊎ (HasByte name 124 ⊎ HasByte name 92))

-- the name cannot be declared as a symbol where these symbols are declared already
abbrev pub IsUnavailable : List (List ℕ) → List ℕ → Type 0
IsUnavailable declared name = IsListed declared name ⊎ (IsListed core_words name ⊎ IsUnfit name)

-- the name cannot be declared as a sort where these sorts are declared already
abbrev pub IsUnavailableSort : List (List ℕ) → List ℕ → Type 0
IsUnavailableSort declared name = IsListed declared name ⊎ IsUnfit name

-- one of these names, in turn, is refused after those that are declared and those before it
abbrev pub HasRefused : (List (List ℕ) → List ℕ → Type 0) → List (List ℕ) → List (List ℕ) → Type 0
HasRefused IsRefused declared [] = ⊥
HasRefused IsRefused declared (name ∷ names) = IsRefused declared name ⊎ HasRefused IsRefused (declared ++ name ∷ []) names

-- one of these symbols cannot be declared after those that are declared and those before it
abbrev pub HasUnavailable : List (List ℕ) → List (List ℕ) → Type 0
HasUnavailable declared names = HasRefused IsUnavailable declared names

-- the same of sorts
abbrev pub HasUnavailableSort : List (List ℕ) → List (List ℕ) → Type 0
HasUnavailableSort declared names = HasRefused IsUnavailableSort declared names
