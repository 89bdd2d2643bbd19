-- How long the text of a sort expression is: `(N S ..)` with single spaces, and a name as it is written alone. A parameter
-- counts as one byte.
use Rattle.std.specs.Prelude.{ℕ, ◌+◌, List, length, Option, Some, None, slice_get}
use Rattle.ct_sexpr.specs.Written.{written_name}
use Rattle.ct_generics.specs.Expression.{Expression, parameter, named, applied}
use Rattle.ct_generics.specs.Declarations.{Head}

-- the length of the name of a sort or generic as it is written
abbrev pub name_length : Option Head → ℕ
name_length None = 0
name_length (Some head) = length (written_name head.name)

-- the parentheses, which come with the first argument
abbrev pub parentheses : Expression → ℕ
parentheses (parameter i) = 0
parentheses (named h) = 2
parentheses (applied e a) = 0

-- a name, and for each argument a space and its text
abbrev pub text_length : List Head → Expression → ℕ
text_length heads (parameter i) = 1
text_length heads (named h) = name_length (slice_get heads h)
text_length heads (applied e a) = text_length heads e + parentheses e + 1 + text_length heads a

-- the greatest length of a text
abbrev pub most_text : ℕ
most_text = 65536
