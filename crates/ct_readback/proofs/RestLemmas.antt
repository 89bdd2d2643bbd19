-- Expressions from an index on.
use Rattle.std.proofs.Common.{◌≡◌, ℕ, zero, suc, ◌+◌, ◌-◌, ◌<◌, ◌≤◌, List, [], ◌∷◌, ◌++◌, length, get_or, slice_get, Some, take, drop, drop-cons, sym, ap, ◌∙◌, refl, arith}
use Rattle.std.proofs.lemmas.List.{take_more}
use Rattle.std.proofs.lemmas.Option.{same_Some, slice_get_within, slice_get-get_or}
use Rattle.ct_sexpr.specs.declared.sexpr.Sexpr.{Sexpr}
use Rattle.ct_sexpr.specs.Expression.{none, more}
use Rattle.ct_sexpr.specs.View.{expression_of, expressions_of}
use Rattle.ct_readback.specs.Parts.{count}

-- the first of them is what stands there
pub rest_at : (items : List Sexpr) (i : ℕ) (x : Sexpr) → i < length items → x ≡ get_or items i x → expressions_of (drop i items) ≡ more (expression_of x) (expressions_of (drop (suc i) items))
rest_at items i x within is =
    ap expressions_of (drop-cons items i x within) ∙ ap (λ (y : Sexpr). more (expression_of y) (expressions_of (drop (suc i) items))) (sym is)

-- there are as many expressions as items
pub count_of : (items : List Sexpr) → count (expressions_of items) ≡ length items
count_of [] = refl
count_of (x ∷ items) = ap suc (count_of items)

-- behind the last of them is none
pub rest_none : (items : List Sexpr) (i : ℕ) → length items ≤ i → expressions_of (drop i items) ≡ none
rest_none [] zero past = refl
rest_none [] (suc i) past = refl
rest_none (x ∷ items) zero past = absurd (omega (arith, past))
rest_none (x ∷ items) (suc i) past = rest_none items i (omega (arith, past))

pub drop_none : {X : Type 0} (xs : List X) (i : ℕ) → length xs ≤ i → drop i xs ≡ []
drop_none [] zero past = refl
drop_none [] (suc i) past = refl
drop_none (x ∷ xs) zero past = absurd (omega (arith, past))
drop_none (x ∷ xs) (suc i) past = drop_none xs i (omega (arith, past))

pub drop_at : {X : Type 0} (xs : List X) (i : ℕ) (x : X) → slice_get xs i ≡ Some x → drop i xs ≡ x ∷ drop (suc i) xs
drop_at xs i x at =
    let within = slice_get_within xs i x at in
    drop-cons xs i x within ∙ ap (λ y. y ∷ drop (suc i) xs) (same_Some (get_or xs i x) x (sym (slice_get-get_or xs i x within) ∙ at))

pub take_at : {X : Type 0} (xs : List X) (i : ℕ) (x : X) → slice_get xs i ≡ Some x → take (i + 1) xs ≡ take i xs ++ x ∷ []
take_at xs i x at =
    let within = slice_get_within xs i x at in
    take_more xs i x within ∙ ap (λ y. take i xs ++ y ∷ []) (same_Some (get_or xs i x) x (sym (slice_get-get_or xs i x within) ∙ at))

-- the first of the items, and those after it
take_whole : (items : List Sexpr) → take (length items) items ≡ items
take_whole [] = refl
take_whole (x ∷ items) = ap (λ rest. x ∷ rest) (take_whole items)

pub items_split : (items : List Sexpr) (head : Sexpr) → 1 ≤ length items → head ≡ get_or items 0 head → expressions_of items ≡ more (expression_of head) (expressions_of (take (length items - 1) (drop 1 items)))
items_split [] head h is = absurd (omega (arith, h))
items_split (x ∷ items) head h is =
    let n : suc (length items) - 1 ≡ length items = omega arith in
    ap (λ (y : Sexpr). more (expression_of y) (expressions_of items)) (sym is)
    ∙ ap (λ (rest : List Sexpr). more (expression_of head) (expressions_of rest)) (sym (ap (λ k. take k items) n ∙ take_whole items))
