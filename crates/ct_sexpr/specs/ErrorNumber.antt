-- The numbers of the errors, the project's own choice.
use Rattle.std.specs.Prelude.{ℕ}

-- bytes that begin no token, as a word that is no atom
abbrev pub begins_no_token : ℕ
begins_no_token = 1

-- a closing parenthesis outside all parentheses
abbrev pub closes_nothing : ℕ
closes_nothing = 2

-- an input that ends inside parentheses
abbrev pub ends_inside : ℕ
ends_inside = 3

-- a parenthesis that is opened beyond the limit
abbrev pub nests_too_deep : ℕ
nests_too_deep = 4

-- an atom outside all parentheses
abbrev pub atom_outside : ℕ
atom_outside = 5

-- a numeral that is too great
abbrev pub numeral_too_great : ℕ
numeral_too_great = 6
