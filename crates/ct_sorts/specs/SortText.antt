-- How a sort is written (SMT-LIB 2.7, section 3.5, `sort`).
use Rattle.std.specs.Prelude.{ℕ, List, [], Option, Some, None, slice_get}
use Rattle.ct_sexpr.specs.Atom.{quoted}
use Rattle.ct_sexpr.specs.Expression.{Expression as Sexpr, Expressions as Sexprs, leaf, list, none, more, with_last}
use Rattle.ct_sexpr.specs.Written.{written}
use Rattle.ct_generics.specs.Expression.{Expression, parameter, named, applied}
use Rattle.ct_generics.specs.Declarations.{Head}

abbrev pub name_of_head : Option Head → List ℕ
name_of_head None = []
name_of_head (Some head) = head.name

-- the name of the sort or generic with this number
abbrev pub head_name : List Head → ℕ → List ℕ
head_name heads h = name_of_head (slice_get heads h)

-- the sort as an expression of the language: its name, or the list of the generic's name and the arguments
abbrev mutual
  pub as_written : List Head → Expression → Sexpr
  as_written heads (parameter i) = list none
  as_written heads (named h) = leaf (quoted (head_name heads h))
  as_written heads (applied e a) = list (with_last (items_of heads e) (as_written heads a))

  pub items_of : List Head → Expression → Sexprs
  items_of heads (parameter i) = none
  items_of heads (named h) = more (leaf (quoted (head_name heads h))) none
  items_of heads (applied e a) = with_last (items_of heads e) (as_written heads a)

-- the text of the sort: names are quoted where they need to be, and one space stands between two items
abbrev pub sort_text : List Head → Expression → List ℕ
sort_text heads e = written (as_written heads e)

-- the name of the sort: that under which it was declared, or the text of an instance
abbrev pub sort_name : List Head → Expression → List ℕ
sort_name heads (parameter i) = []
sort_name heads (named h) = head_name heads h
sort_name heads (applied e a) = sort_text heads (applied e a)
