-- Variables that a case or a `let` binds.
use Rattle.std.proofs.Common.{◌≡◌, ℕ, suc, List, [], ◌∷◌, ◌++◌, length, drop, map, Option, refl, sym, ◌∙◌, ap, arith}
use Rattle.std.proofs.lemmas.List.{length-map}
use Rattle.std.specs.Borrow.{Bor}
use Rattle.ct_sorts.specs.declared.ids.SortId.{SortId}
use Rattle.ct_formulas.specs.Formula.{bind}
use Rattle.ct_names.specs.declared.variables.BoundVariable.{BoundVariable}
use Rattle.ct_names.specs.Bounds.{variable_of, held_name}
use Rattle.ct_names.specs.Variables.{Variable, variables}
use Rattle.ct_check.proofs.BoundLemmas.{drop-bind}

-- the scope of a case, and of the body of a `let`
pub case-scope : (outer scope : List Variable) (inner inner_slice : List BoundVariable) → outer ≡ scope → inner_slice ≡ inner → bind (map variable_of inner_slice) outer ≡ bind (map variable_of inner) scope
case-scope outer scope inner inner_slice back ei = ap (bind (map variable_of inner_slice)) back ∙ ap (λ (xs : List BoundVariable). bind (map variable_of xs) scope) ei

pub inner-scope : (outer scope : List Variable) (names names_slice : List (Option (Bor (List ℕ)))) (sorts sorts_slice : List SortId) (inner inner_slice : List BoundVariable) → outer ≡ scope → names_slice ≡ names → sorts_slice ≡ sorts → map variable_of inner ≡ variables (map held_name names_slice) sorts_slice → inner_slice ≡ inner → bind (map variable_of inner_slice) outer ≡ bind (variables (map held_name names) sorts) scope
inner-scope outer scope names names_slice sorts sorts_slice inner inner_slice back en es is ei =
    case-scope outer scope inner inner_slice back ei
    ∙ ap (λ (vs : List Variable). bind vs scope) (is ∙ ap (λ (ns : List (Option (Bor (List ℕ)))). variables (map held_name ns) sorts_slice) en ∙ ap (λ (ss : List SortId). variables (map held_name names) ss) es)

-- variables that were bound, and left after a term
pub left_again : (inner : List BoundVariable) (scope entered after left : List Variable) (count : ℕ) → entered ≡ bind (map variable_of inner) scope → after ≡ entered → count ≡ length inner → left ≡ drop count after → left ≡ scope
left_again inner scope entered after left count bound back long rest =
    let counted : count ≡ length (map variable_of inner) = long ∙ sym (length-map inner variable_of) in
    rest ∙ ap (drop count) (back ∙ bound) ∙ ap (λ (n : ℕ). drop n (bind (map variable_of inner) scope)) counted ∙ drop-bind (map variable_of inner) scope

-- one more of each
pub one_more_each : {X Y : Type 0} (xs : List X) (ys : List Y) (x : X) (y : Y) → length xs ≡ length ys → length (xs ++ x ∷ []) ≡ length (ys ++ y ∷ [])
one_more_each [] [] x y e = refl
one_more_each [] (b ∷ ys) x y e = absurd (omega (arith, e))
one_more_each (a ∷ xs) [] x y e = absurd (omega (arith, e))
one_more_each (a ∷ xs) (b ∷ ys) x y e = ap suc (one_more_each xs ys x y (omega (arith, e)))
