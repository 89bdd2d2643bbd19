-- Sort expressions with parameters (SMT-LIB 2.7, sections 3.5 and 3.9).
use Rattle.std.specs.Prelude.{ℕ, List, [], ◌∷◌, ◌++◌, map, Option, Some, None, unwrap_or, slice_get}
use Rattle.std.specs.List.{range_with_len}

-- A parameter by its number, or a sort or generic by its number, with one argument after the other: the generic g with the
-- arguments a and b is `applied (applied (named g) a) b`.
pub data Expression : Type 0 where
  parameter : ℕ → Expression
  named : ℕ → Expression
  applied : Expression → Expression → Expression

-- the sort or generic at the head of the expression, by its number; a parameter has none
abbrev pub head_of : Expression → Option ℕ
head_of (parameter i) = None
head_of (named h) = Some h
head_of (applied e a) = head_of e

-- the arguments of the expression's head, in order
abbrev pub args_of : Expression → List Expression
args_of (parameter i) = []
args_of (named h) = []
args_of (applied e a) = args_of e ++ a ∷ []

-- further arguments, in order
abbrev pub with_args : Expression → List Expression → Expression
with_args e [] = e
with_args e (a ∷ args) = with_args (applied e a) args

-- the expression with arguments in place of its parameters
abbrev pub substitute : List Expression → Expression → Expression
substitute args (parameter i) = unwrap_or (slice_get args i) (parameter i)
substitute args (named h) = named h
substitute args (applied e a) = applied (substitute args e) (substitute args a)

-- so many parameters, in order
abbrev pub parameters : ℕ → List Expression
parameters count = map parameter (range_with_len 0 count)

-- a sort, or a generic at its own parameters
abbrev pub at_own_parameters : ℕ → ℕ → Expression
at_own_parameters h params = with_args (named h) (parameters params)
