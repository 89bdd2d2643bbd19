-- The numbers of the errors by which a declaration is refused.
use Rattle.std.specs.Prelude.{◌≡◌, ℕ, ◌⊎◌}

-- the name of a sort, a constructor or a selector is taken, or cannot be declared
abbrev pub name_taken : ℕ
name_taken = 11

-- a sort of a block has no constructor
abbrev pub no_constructor : ℕ
no_constructor = 13

-- one declaration too many
abbrev pub too_many : ℕ
too_many = 16

-- the name of a function or a definition is taken by another symbol, or cannot be declared
abbrev pub symbol_taken : ℕ
symbol_taken = 29

-- the refusal has this number where the cause applies, and else it is a later one
abbrev pub IsFirstCause : ℕ → Type 0 → (ℕ → Type 0) → ℕ → Type 0
IsFirstCause number cause later n = ((n ≡ number) × cause) ⊎ ((cause → ⊥) × later n)

-- there is no further cause
abbrev pub IsNone : ℕ → Type 0
IsNone n = ⊥
