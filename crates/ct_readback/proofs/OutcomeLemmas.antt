-- The items of an expression, and what the whole reads as.
use Rattle.std.proofs.Common.{◌≡◌, ℕ, zero, suc, ◌<◌, ◌≤◌, List, [], ◌∷◌, length, get_or, Option, None, Some, slice_get, Result, Ok, Err, refl, sym, ap, subst, ◌∙◌, arith}
use Rattle.std.proofs.lemmas.Option.{none-some, same_Some, slice_get_past}
use Rattle.ct_sorts.specs.Declarations.{Declarations}
use Rattle.ct_sexpr.specs.declared.sexpr.Sexpr.{Sexpr}
use Rattle.ct_sexpr.specs.Expression.{Expression, leaf, list, Expressions}
use Rattle.ct_sexpr.specs.View.{expression_of, expressions_of}
use Rattle.ct_card.specs.Sizes.{Table as Sizes}
use Rattle.ct_eval.specs.declared.interp.Interp.{Interp}
use Rattle.ct_values.specs.Graph.{Nodes}
use Rattle.ct_readback.specs.declared.error.BackError.{BackError}
use Rattle.ct_readback.specs.declared.error.BackError.TheVariants.{Form}
use Rattle.ct_readback.specs.Parts.{list_items}
use Rattle.ct_readback.specs.ItemText.{Due}
use Rattle.ct_readback.specs.ItemRead.{IsItemRead}
use Rattle.ct_readback.specs.ModelReads.{departs, items_of, IsModel, IsRefusedAt, IsFirstRefused, ModelReads}

pub items_length : (items : List Sexpr) → length (items_of (expressions_of items)) ≡ length items
items_length [] = refl
items_length (x ∷ items) = ap suc (items_length items)

pub item_at : (items : List Sexpr) (place : ℕ) (x : Sexpr) → place < length items → x ≡ get_or items place x → slice_get (items_of (expressions_of items)) place ≡ Some (expression_of x)
item_at [] place x within is = absurd (omega (arith, within))
item_at (y ∷ items) zero x within is = ap (λ (z : Sexpr). Some (expression_of z)) (sym is)
item_at (y ∷ items) (suc place) x within is = item_at items place x (omega (arith, within)) is

pub item_missing : (items : List Sexpr) (place : ℕ) → length items ≤ place → slice_get (items_of (expressions_of items)) place ≡ None
item_missing items place past = let long = items_length items in slice_get_past (items_of (expressions_of items)) place (omega (arith, past, long))

-- a refusal of what is missing, and of an item
pub missing_refused : (d : Declarations) (due : Due) (items : List Sexpr) (place : ℕ) → length items ≤ place → IsRefusedAt d (Some (Some due)) (slice_get (items_of (expressions_of items)) place) departs
missing_refused d due items place past = subst (λ (item : Option Expression). IsRefusedAt d (Some (Some due)) item departs) (sym (item_missing items place past)) refl

pub item_refused : (d : Declarations) (g : Nodes) (due : Due) (items : List Sexpr) (place : ℕ) (x : Sexpr) (code : ℕ) → place < length items → x ≡ get_or items place x → IsItemRead d g due (expression_of x) (Err code)
    → IsRefusedAt d (Some (Some due)) (slice_get (items_of (expressions_of items)) place) code
item_refused d g due items place x code within is refused = subst (λ (item : Option Expression). IsRefusedAt d (Some (Some due)) item code) (sym (item_at items place x within is)) refused

-- what is no list
pub no_list : (d : Declarations) (sizes : Sizes) (e : Expression) → list_items e ≡ None → ModelReads d sizes e (Err (0, departs))
no_list d sizes (leaf a) nothing = (refl, refl)
no_list d sizes (list es) nothing = absurd (none-some es (sym nothing))

-- and a list
pub list_read : (d : Declarations) (sizes : Sizes) (e : Expression) (es : Expressions) (i : Interp) → list_items e ≡ Some es → IsModel d sizes (items_of es) i → ModelReads d sizes e (Ok i)
list_read d sizes (leaf a) es i at h = absurd (none-some es at)
list_read d sizes (list own) es i at h = subst (λ (x : Expressions). IsModel d sizes (items_of x) i) (sym (same_Some own es at)) h

pub list_refused : (d : Declarations) (sizes : Sizes) (e : Expression) (es : Expressions) (place code : ℕ) → list_items e ≡ Some es → IsFirstRefused d (items_of es) place code → ModelReads d sizes e (Err (place, code))
list_refused d sizes (leaf a) es place code at h = absurd (none-some es at)
list_refused d sizes (list own) es place code at h = subst (λ (x : Expressions). IsFirstRefused d (items_of x) place code) (sym (same_Some own es at)) h

-- the parts of an error
pub form_parts : {T : Type 0} (item code at other : ℕ) → (◌≡◌ {A = Result T BackError} (Err (Form item code)) (Err (Form at other))) → (at ≡ item) × (other ≡ code)
form_parts item code at other is = (let a : item ≡ at = cc in sym a, let b : code ≡ other = cc in sym b)

-- one error is one
pub one_error : {T : Type 0} (r : Result T BackError) (y e : BackError) → r ≡ Err y → r ≡ Err e → y ≡ e
one_error {T} r y e first second = let same : ◌≡◌ {A = Result T BackError} (Err y) (Err e) = sym first ∙ second in cc
