-- How deep items nest: the measure of the recursion over an expression. A list of expressions in memory is a list of expressions.
use Rattle.std.proofs.Common.{◌≡◌, ℕ, zero, suc, ◌+◌, ◌-◌, ◌<◌, ◌≤◌, ◌&&◌, Bool, true, false, List, [], ◌∷◌, length, get_or, take, drop, Vec, Global, refl, sym, ◌∙◌, ap, arith}
use mathlib.Core.Former.{Count}
use Rattle.ct_sexpr.specs.declared.sexpr.Sexpr.{Sexpr, List as list_in_memory, List', Row_of-Sexpr, end_of-Sexpr, more_of-Sexpr, items-the_row-Sexpr, items_hidden-the_row-Sexpr-0}
use Rattle.ct_sexpr.specs.Expression.{Expression, list, more, nesting, nesting_of_each}
use Rattle.ct_sexpr.specs.View.{expression_of, expressions_of, row_of}
use Rattle.ct_log_lines.specs.Forms.{is_name, is_sort_list}

abbrev row_in : Sexpr → (n : Count) × Row_of-Sexpr n
row_in (List' _ row) = (_, row)
row_in _ = (_, end_of-Sexpr)

row_of-items : (n : _) (row : Row_of-Sexpr n) → row_of row ≡ expressions_of (items-the_row-Sexpr n row)
row_of-items n end_of-Sexpr = refl
row_of-items n (more_of-Sexpr e rest) = ap (more (expression_of e)) (row_of-items _ rest)

-- the expression of a list is the list of its items' expressions
pub expression_of_list : (items : Vec Sexpr Global) → expression_of (list_in_memory items) ≡ list (expressions_of items.items)
expression_of_list items =
    let row = row_in (list_in_memory items) in
    ap list (row_of-items row.0 row.1 ∙ ap expressions_of (items_hidden-the_row-Sexpr-0 items))

-- an item nests no deeper than the items
pub nests_item : (items : List Sexpr) (i : ℕ) (x : Sexpr) → i < length items → x ≡ get_or items i x → nesting (expression_of x) ≤ nesting_of_each (expressions_of items)
nests_item [] i x h e = absurd (omega arith)
nests_item (y ∷ items) zero x h e =
    let same : nesting (expression_of x) ≡ nesting (expression_of y) = ap (λ (z : Sexpr). nesting (expression_of z)) e in
    omega (arith, same)
nests_item (y ∷ items) (suc i) x h e =
    let below : nesting (expression_of x) ≤ nesting_of_each (expressions_of items) = nests_item items i x (omega arith) e in
    omega (arith, below)

-- nor do the items after the first
take_whole : (items : List Sexpr) → take (length items) items ≡ items
take_whole [] = refl
take_whole (x ∷ items) = ap (λ rest. x ∷ rest) (take_whole items)

pub nests_rest : (items : List Sexpr) → 1 ≤ length items → nesting_of_each (expressions_of (take (length items - 1) (drop 1 items))) ≤ nesting_of_each (expressions_of items)
nests_rest [] h = absurd (omega arith)
nests_rest (x ∷ items) h =
    let n : suc (length items) - 1 ≡ length items = omega arith in
    let same : nesting_of_each (expressions_of (take (suc (length items) - 1) items)) ≡ nesting_of_each (expressions_of items) =
    ap (λ k. nesting_of_each (expressions_of (take k items))) n ∙ ap (λ xs. nesting_of_each (expressions_of xs)) (take_whole items) in
    omega (arith, same)

-- a list nests one deeper than its items
pub nests_list : (expr : Sexpr) (items : Vec Sexpr Global) (slice : List Sexpr) → expr ≡ list_in_memory items → slice ≡ items.items → nesting (expression_of expr) ≡ nesting_of_each (expressions_of slice) + 1
nests_list expr items slice is same =
    ap (λ (e : Sexpr). nesting (expression_of e)) is
    ∙ ap (λ (e : Expression). nesting e) (expression_of_list items)
    ∙ ap (λ (xs : List Sexpr). nesting_of_each (expressions_of xs) + 1) (sym same)

-- ---- a sort takes two items at least

and_false : (b : Bool) → false ≡ (b && false)
and_false true = refl
and_false false = refl

pub short_sort : (items : List Sexpr) → length items < 2 → false ≡ is_sort_list (expressions_of items)
short_sort [] h = refl
short_sort (x ∷ []) h = and_false (is_name (expression_of x))
short_sort (x ∷ (y ∷ items)) h = absurd (omega (arith, h))
