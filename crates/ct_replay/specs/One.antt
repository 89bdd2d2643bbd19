-- A text that is one expression.
use Rattle.std.specs.Prelude.{List, [], ◌∷◌, Option, None, Some}
use Rattle.ct_sexpr.specs.Expression.{Expression}
use Rattle.ct_sexpr.specs.Text.{Located, Ending, clean, lexical}

-- the expression that a text is, where it is one and nothing else
abbrev pub one_expression : List Located → Ending → Option Expression
one_expression [] ending = None
one_expression (c ∷ []) clean = Some c.command
one_expression (c ∷ []) (lexical code line) = None
one_expression (c ∷ (d ∷ cs)) ending = None
