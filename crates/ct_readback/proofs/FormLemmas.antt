-- Lists of items that are long enough for a form, or too short.
use Rattle.std.proofs.Common.{◌≡◌, ℕ, suc, ◌<◌, ◌≤◌, Bool, true, false, not, ◌&&◌, ◌||◌, ◌==◌, true≢false, List, [], ◌∷◌, length, get_or, slice_get, drop, Some, refl, sym, ap, ◌∙◌, arith}
use Rattle.ct_sexpr.specs.declared.sexpr.Sexpr.{Sexpr}
use Rattle.ct_sexpr.specs.View.{expression_of, expressions_of}
use Rattle.ct_sorts.specs.declared.ids.SortId.{SortId}
use Rattle.ct_sorts.specs.Declarations.{Declarations}
use Rattle.ct_sexpr.specs.Expression.{Expression, Expressions}
use Rattle.ct_readback.specs.Words.{is_name}
use Rattle.ct_readback.specs.Parts.{holds, count}
use Rattle.ct_readback.specs.SortText.{is_sort_text, is_sort_list, says_sort}
use Rattle.ct_readback.specs.GraphText.{some_rows, are_references, is_applied}
use Rattle.ct_readback.specs.ItemText.{ItemText, parameter_sort, are_parameters, say_parameters, has_parts}
use Rattle.ct_readback.specs.Rows.{is_body}
use Rattle.ct_readback.proofs.RestLemmas.{rest_at, drop_at}
use Rattle.ct_readback.specs.Heads.{is_constructor_head}
use Rattle.ct_readback.specs.Trees.{is_application}

and_false : (b : Bool) → false ≡ (b && false)
and_false true = refl
and_false false = refl

pub short_sort : (items : List Sexpr) → length items < 2 → false ≡ is_sort_list (expressions_of items)
short_sort [] h = refl
short_sort (x ∷ []) h = and_false (is_name (expression_of x))
short_sort (x ∷ (y ∷ items)) h = absurd (omega (arith, h))

pub short_application : (items : List Sexpr) → length items < 2 → false ≡ is_application (expressions_of items)
short_application [] h = refl
short_application (x ∷ []) h = and_false (is_constructor_head (expression_of x))
short_application (x ∷ (y ∷ items)) h = absurd (omega (arith, h))

pub rows_there : (items : List Sexpr) → 1 ≤ length items → some_rows (expressions_of items) ≡ Some (expressions_of items)
rows_there [] h = absurd (omega (arith, h))
rows_there (x ∷ items) h = refl

pub no_args : (nodes : ℕ) (head : Expression) (items : List Sexpr) → length items < 1 → false ≡ is_applied nodes (head, expressions_of items)
no_args nodes head [] h = and_false (is_constructor_head head)
no_args nodes head (x ∷ items) h = absurd (omega (arith, h))

pub some_args : (nodes : ℕ) (head : Expression) (items : List Sexpr) → 1 ≤ length items → is_constructor_head head ≡ true → are_references nodes (expressions_of items) ≡ is_applied nodes (head, expressions_of items)
some_args nodes head [] h is = absurd (omega (arith, h))
some_args nodes head (x ∷ items) h is = ap (λ (b : Bool). b && are_references nodes (expressions_of (x ∷ items))) (sym is)

-- parameters for sorts, one for one
and_right : (b c : Bool) → false ≡ c → false ≡ (b && c)
and_right true c h = h
and_right false c h = refl

pub uncounted : (d : Declarations) (i : ℕ) (ss : List SortId) (items : List Sexpr) → (length ss ≡ length items → ⊥) → false ≡ say_parameters d i ss (expressions_of items)
uncounted d i [] [] never = absurd (never refl)
uncounted d i [] (x ∷ items) never = refl
uncounted d i (s ∷ ss) [] never = refl
uncounted d i (s ∷ ss) (x ∷ items) never =
    and_right (holds (says_sort d s) (parameter_sort i (expression_of x))) (say_parameters d (suc i) ss (expressions_of items)) (uncounted d (suc i) ss items (λ same. never (ap suc same)))

pub parameter_unsaid : (d : Declarations) (args : List SortId) (items : List Sexpr) (i : ℕ) (s : SortId) (x : Sexpr) → i < length items → slice_get args i ≡ Some s → x ≡ get_or items i x
    → holds (says_sort d s) (parameter_sort i (expression_of x)) ≡ false → false ≡ say_parameters d i (drop i args) (expressions_of (drop i items))
parameter_unsaid d args items i s x within at is unsaid =
    ap (λ (b : Bool). b && say_parameters d (suc i) (drop (suc i) args) (expressions_of (drop (suc i) items))) (sym unsaid)
    ∙ ap (λ (es : Expressions). say_parameters d i (s ∷ drop (suc i) args) es) (sym (rest_at items i x within is))
    ∙ ap (λ (ss : List SortId). say_parameters d i ss (expressions_of (drop i items))) (sym (drop_at args i s at))

five : (a b c d e : Bool) → a ≡ true → b ≡ true → c ≡ true → d ≡ true → e ≡ (a && (b && (c && (d && e))))
five true true true true e p q r s = refl
five false b c d e p q r s = absurd (true≢false (sym p))
five true false c d e p q r s = absurd (true≢false (sym q))
five true true false d e p q r s = absurd (true≢false (sym r))
five true true true false e p q r s = absurd (true≢false (sym s))

-- the parts of an item, one after the other
pub parts_formed : (off : Bool) (item : ItemText) (n : ℕ) → is_name item.name ≡ true → are_parameters 0 item.parameters ≡ true → (not off || (count item.parameters == 1)) ≡ true → is_sort_text item.result ≡ true → count item.parameters ≡ n
    → is_body n item.body ≡ has_parts off item
parts_formed off item n named formed counted sorted long =
    ap (λ k. is_body k item.body) (sym long)
    ∙ five (is_name item.name) (are_parameters 0 item.parameters) (not off || (count item.parameters == 1)) (is_sort_text item.result) (is_body (count item.parameters) item.body) named formed counted sorted
