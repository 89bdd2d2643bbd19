-- The expression that a `Sexpr` is.
use Rattle.std.specs.Prelude.{List, [], ◌∷◌}
use Rattle.ct_sexpr.specs.declared.sexpr.Sexpr.{Sexpr, Symbol, Quoted, Keyword, Text, Numeral, Decimal, Binary, Hex, List', Row_of-Sexpr, end_of-Sexpr, more_of-Sexpr}
use Rattle.ct_sexpr.specs.Atom.{symbol, quoted, keyword, text, numeral, decimal, binary, hexadecimal}
use Rattle.ct_sexpr.specs.Expression.{Expression, leaf, list, Expressions, none, more}

abbrev mutual
  pub expression_of : Sexpr → Expression
  expression_of (Symbol w) = leaf (symbol w)
  expression_of (Quoted w) = leaf (quoted w)
  expression_of (Keyword w) = leaf (keyword w)
  expression_of (Text w) = leaf (text w)
  expression_of (Numeral n) = leaf (numeral n)
  expression_of (Decimal w) = leaf (decimal w)
  expression_of (Binary w) = leaf (binary w)
  expression_of (Hex w) = leaf (hexadecimal w)
  expression_of (List' shape all) = list (row_of all)

  pub row_of : {m : _} → Row_of-Sexpr m → Expressions
  row_of end_of-Sexpr = none
  row_of (more_of-Sexpr e rest) = more (expression_of e) (row_of rest)

-- the expressions that the items of a list are
abbrev pub expressions_of : List Sexpr → Expressions
expressions_of [] = none
expressions_of (e ∷ es) = more (expression_of e) (expressions_of es)
