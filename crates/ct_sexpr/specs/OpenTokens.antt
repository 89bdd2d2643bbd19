-- The tokens of lists that are open.
use Rattle.std.specs.Prelude.{List, [], ◌∷◌, ◌++◌}
use Rattle.std.proofs.Common.{Vec, Global}
use Rattle.ct_sexpr.specs.Token.{Token, opening}
use Rattle.ct_sexpr.specs.Expression.{tokens_of_each}
use Rattle.ct_sexpr.specs.declared.sexpr.Sexpr.{Sexpr}
use Rattle.ct_sexpr.specs.View.{expressions_of}

-- of each list, the outermost first, the parenthesis and the items that it has so far
abbrev pub tokens_of_lists : List (Vec Sexpr Global) → List Token
tokens_of_lists [] = []
tokens_of_lists (items ∷ inner) = opening ∷ (tokens_of_each (expressions_of items.items) ++ tokens_of_lists inner)
