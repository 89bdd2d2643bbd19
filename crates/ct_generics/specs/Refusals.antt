-- The numbers of the errors by which sort expressions and blocks are refused.
use Rattle.std.specs.Prelude.{◌≡◌, ℕ, ◌⊎◌}

-- no sort, generic or synonym has the name
abbrev pub unknown_sort : ℕ
unknown_sort = 12

-- a datatype is not well founded
abbrev pub not_founded : ℕ
not_founded = 14

-- an expression reaches too many others, or has too long a text
abbrev pub too_many : ℕ
too_many = 16

-- a datatype goes through a codatatype back to itself
abbrev pub mixed : ℕ
mixed = 17

-- a name of the block stands at other arguments than the parameters
abbrev pub not_uniform : ℕ
not_uniform = 18

-- a name has a wrong number of arguments
abbrev pub wrong_count : ℕ
wrong_count = 22

-- the refusal has this number where the cause applies, and else it is a later one
abbrev pub IsFirstCause : ℕ → Type 0 → (ℕ → Type 0) → ℕ → Type 0
IsFirstCause number cause later n = ((n ≡ number) × cause) ⊎ ((cause → ⊥) × later n)

-- there is no further cause
abbrev pub IsNone : ℕ → Type 0
IsNone n = ⊥
