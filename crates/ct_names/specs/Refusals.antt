-- The numbers of the errors of sorts and terms.
use Rattle.std.specs.Prelude.{ℕ}

-- unknown sort
abbrev pub unknown_sort : ℕ
unknown_sort = 12

-- sort of a constructor that is not determined
abbrev pub undetermined : ℕ
undetermined = 19

-- unknown symbol
abbrev pub unknown_symbol : ℕ
unknown_symbol = 21

-- wrong number of arguments
abbrev pub wrong_count : ℕ
wrong_count = 22

-- wrong sort
abbrev pub wrong_sort : ℕ
wrong_sort = 23

-- pattern of another sort
abbrev pub foreign_pattern : ℕ
foreign_pattern = 25

-- match not exhaustive
abbrev pub not_exhaustive : ℕ
not_exhaustive = 26

-- variable repeated
abbrev pub repeated_variable : ℕ
repeated_variable = 27

-- form out of scope
abbrev pub out_of_scope : ℕ
out_of_scope = 28

-- quantifier over too many values
abbrev pub too_many_values : ℕ
too_many_values = 31
