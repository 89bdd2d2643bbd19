-- The numbers of the errors of commands that change the assertion stack, beside those of sorts and terms.
use Rattle.std.specs.Prelude.{ℕ}

-- the names and the bodies of a block are not as many
abbrev pub counts_differ : ℕ
counts_differ = 15

-- too many core terms
abbrev pub too_many_terms : ℕ
too_many_terms = 20

-- an assertion is not Bool
abbrev pub not_boolean : ℕ
not_boolean = 24

-- fewer levels stand than are to go
abbrev pub above_levels : ℕ
above_levels = 51

-- too many levels
abbrev pub too_many_levels : ℕ
too_many_levels = 58

-- the most levels within the outermost one
abbrev pub most_levels : ℕ
most_levels = 10000
