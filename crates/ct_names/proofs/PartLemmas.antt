-- Parts of expressions in memory.
use Rattle.std.proofs.Common.{◌≡◌, ℕ, zero, suc, ◌+◌, ◌<◌, ◌≤◌, List, [], ◌∷◌, ◌++◌, length, get_or, take, drop, Vec, Global, refl, sym, ◌∙◌, ap, arith}
use Rattle.ct_sexpr.specs.declared.sexpr.Sexpr.{Sexpr, List as list_in_memory}
use Rattle.ct_sexpr.specs.Expression.{Expression, list}
use Rattle.ct_sexpr.specs.View.{expression_of, expressions_of}
use Rattle.ct_sorts.specs.Declarations.{Declarations}
use Rattle.ct_names.specs.Parts.{list_part, count, name_of}
use Rattle.ct_names.specs.Patterns.{variable_names}
use Rattle.ct_names.specs.Forms.{bound_name, bound_names}
use Rattle.ct_names.specs.Elaboration.{part_of, parts_of, list_meaning}
use Rattle.ct_names.proofs.Rows.{expression_of_list}

-- a list in memory is a list of its items' parts
pub part_of_list : (d : Declarations) (expr : Sexpr) (items : Vec Sexpr Global) (slice : List Sexpr) → expr ≡ list_in_memory items → slice ≡ items.items → part_of d (expression_of expr) ≡ list_part (parts_of d (expressions_of slice)) (list_meaning d (parts_of d (expressions_of slice)))
part_of_list d expr items slice is same =
    ap (λ (e : Sexpr). part_of d (expression_of e)) is ∙ ap (λ (e : Expression). part_of d e) (expression_of_list items)
    ∙ ap (λ (xs : List Sexpr). list_part (parts_of d (expressions_of xs)) (list_meaning d (parts_of d (expressions_of xs)))) (sym same)

-- and a list of its items' expressions
pub expression_of_items : (expr : Sexpr) (items : Vec Sexpr Global) (slice : List Sexpr) → expr ≡ list_in_memory items → slice ≡ items.items → expression_of expr ≡ list (expressions_of slice)
expression_of_items expr items slice is same = ap (λ (e : Sexpr). expression_of e) is ∙ expression_of_list items ∙ ap (λ (xs : List Sexpr). list (expressions_of xs)) (sym same)

-- as many parts as items
pub count-parts : (d : Declarations) (xs : List Sexpr) → count (parts_of d (expressions_of xs)) ≡ length xs
count-parts d [] = refl
count-parts d (x ∷ xs) = ap suc (count-parts d xs)

-- what is left from an index on begins with the item there
pub drop_item : {X : Type 0} (xs : List X) (i : ℕ) (x : X) → i < length xs → x ≡ get_or xs i x → drop i xs ≡ x ∷ drop (i + 1) xs
drop_item [] i x h e = absurd (omega arith)
drop_item (y ∷ xs) zero x h e = ap (λ z. z ∷ xs) (sym e)
drop_item (y ∷ xs) (suc i) x h e =
    let s : suc i + 1 ≡ suc (i + 1) = omega arith in
    rw s (drop_item xs i x (omega arith) e)

-- two items of a list of two
pub two_items : {X : Type 0} (items : List X) (x y : X) → 2 ≤ length items → length items < 3 → x ≡ get_or items 0 x → y ≡ get_or items 1 y → items ≡ x ∷ (y ∷ [])
two_items [] x y p q ex ey = absurd (omega arith)
two_items (a ∷ []) x y p q ex ey = absurd (omega arith)
two_items (a ∷ (b ∷ [])) x y p q ex ey = ap (λ z. z ∷ (b ∷ [])) (sym ex) ∙ ap (λ z. x ∷ (z ∷ [])) (sym ey)
two_items (a ∷ (b ∷ (c ∷ items))) x y p q ex ey = absurd (omega arith)

-- parts up to one more item
pub take_item : {X : Type 0} (xs : List X) (i : ℕ) (x : X) → i < length xs → x ≡ get_or xs i x → take (i + 1) xs ≡ take i xs ++ x ∷ []
take_item [] i x h e = absurd (omega arith)
take_item (y ∷ xs) zero x h e = ap (λ z. z ∷ []) (sym e)
take_item (y ∷ xs) (suc i) x h e =
    let s : suc i + 1 ≡ suc (i + 1) = omega arith in
    rw s (ap (λ rest. y ∷ rest) (take_item xs i x (omega arith) e))

-- the names of one more
pub variable_names-more : (d : Declarations) (xs : List Sexpr) (i : ℕ) (x : Sexpr) → i < length xs → x ≡ get_or xs i x → variable_names (parts_of d (expressions_of (take (i + 1) xs))) ≡ variable_names (parts_of d (expressions_of (take i xs))) ++ name_of (part_of d (expression_of x)) ∷ []
variable_names-more d xs i x h e = ap (λ ys. variable_names (parts_of d (expressions_of ys))) (take_item xs i x h e) ∙ variable_names-push d (take i xs) x
  where
    variable_names-push : (d : Declarations) (xs : List Sexpr) (x : Sexpr) → variable_names (parts_of d (expressions_of (xs ++ x ∷ []))) ≡ variable_names (parts_of d (expressions_of xs)) ++ name_of (part_of d (expression_of x)) ∷ []
    variable_names-push d [] x = refl
    variable_names-push d (y ∷ xs) x = ap (λ rest. name_of (part_of d (expression_of y)) ∷ rest) (variable_names-push d xs x)

pub bound_names-more : (d : Declarations) (xs : List Sexpr) (i : ℕ) (x : Sexpr) → i < length xs → x ≡ get_or xs i x → bound_names (parts_of d (expressions_of (take (i + 1) xs))) ≡ bound_names (parts_of d (expressions_of (take i xs))) ++ bound_name (part_of d (expression_of x)) ∷ []
bound_names-more d xs i x h e = ap (λ ys. bound_names (parts_of d (expressions_of ys))) (take_item xs i x h e) ∙ bound_names-push d (take i xs) x
  where
    bound_names-push : (d : Declarations) (xs : List Sexpr) (x : Sexpr) → bound_names (parts_of d (expressions_of (xs ++ x ∷ []))) ≡ bound_names (parts_of d (expressions_of xs)) ++ bound_name (part_of d (expression_of x)) ∷ []
    bound_names-push d [] x = refl
    bound_names-push d (y ∷ xs) x = ap (λ rest. bound_name (part_of d (expression_of y)) ∷ rest) (bound_names-push d xs x)
