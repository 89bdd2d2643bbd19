-- A list of expressions in memory is a list of expressions.
use Rattle.std.proofs.Common.{◌≡◌, Vec, Global, refl, ap, ◌∙◌}
use mathlib.Core.Former.{Count}
use Rattle.ct_sexpr.specs.declared.sexpr.Sexpr.{Sexpr, List as list_in_memory, List', Row_of-Sexpr, end_of-Sexpr, more_of-Sexpr, items-the_row-Sexpr, items_hidden-the_row-Sexpr-0}
use Rattle.ct_sexpr.specs.Expression.{list, more}
use Rattle.ct_sexpr.specs.View.{expression_of, expressions_of, row_of}

abbrev row_in : Sexpr → (n : Count) × Row_of-Sexpr n
row_in (List' _ row) = (_, row)
row_in _ = (_, end_of-Sexpr)

row_of-items : (n : _) (row : Row_of-Sexpr n) → row_of row ≡ expressions_of (items-the_row-Sexpr n row)
row_of-items n end_of-Sexpr = refl
row_of-items n (more_of-Sexpr e rest) = ap (more (expression_of e)) (row_of-items _ rest)

-- the expression of a list is the list of its items' expressions
pub expression_of_list : (items : Vec Sexpr Global) → expression_of (list_in_memory items) ≡ list (expressions_of items.items)
expression_of_list items =
    let row = row_in (list_in_memory items) in
    ap list (row_of-items row.0 row.1 ∙ ap expressions_of (items_hidden-the_row-Sexpr-0 items))
