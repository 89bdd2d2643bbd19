-- Where an outcome is a value, each of its steps was one.
use Rattle.std.proofs.Common.{◌≡◌, ℕ, Bool, true, false, Result, Ok, Err, refl, ◌∙◌, ap}
use Rattle.std.proofs.lemmas.Bool.Decides.{Decides-eqb}
use Rattle.ct_sorts.specs.declared.ids.SortId.{SortId}
use Rattle.ct_formulas.specs.Formula.{Formula}
use Rattle.ct_names.specs.Outcome.{Outcome, Elaborated, Sorted, and_then, unless_refused, unless_halted, step, is_sort, of_sort}
use Rattle.ct_names.specs.Refusals.{wrong_sort}

pub and_then-inverse : {X Y E : Type 0} (first : Result X E) (next : X → Result Y E) (y : Y) → and_then first next ≡ Ok y → (x : X) × (first ≡ Ok x) × (next x ≡ Ok y)
and_then-inverse (Ok x) next y e = (x, refl, e)
and_then-inverse (Err n) next y e = absurd cc

pub unless-inverse : {X : Type 0} (holds : Bool) (n : ℕ) (outcome : Outcome X) (x : X) → unless_refused holds n outcome ≡ Ok x → (holds ≡ true) × (outcome ≡ Ok x)
unless-inverse true n outcome x e = (refl, e)
unless-inverse false n outcome x e = absurd cc

pub halted-inverse : {X : Type 0} (holds : Bool) (n : ℕ) (outcome : Elaborated X) (x : X) → unless_halted holds n outcome ≡ Ok x → (holds ≡ true) × (outcome ≡ Ok x)
halted-inverse true n outcome x e = (refl, e)
halted-inverse false n outcome x e = absurd cc

pub step-inverse : {X : Type 0} (outcome : Outcome X) (x : X) → step outcome ≡ Ok x → outcome ≡ Ok x
step-inverse (Ok y) x e = let same : y ≡ x = cc in ap (λ (z : _). Ok z) same
step-inverse (Err n) x e = absurd cc

pub same_value : {X E : Type 0} (x y : X) → (let o : Result X E = Ok x in o) ≡ Ok y → x ≡ y
same_value x y e = cc

pub one_sort : (s t : SortId) → is_sort s t ≡ true → s ≡ t
one_sort s t e = let n : s.0 ≡ t.0 = (Decides-eqb s.0 t.0).0 e in ap (λ (k : ℕ). record { 0 = k }) n

-- a formula of a sort is one whose sort is this one
pub of_sort-inverse : (sort : SortId) (outcome : Elaborated Sorted) (f : Formula) → of_sort sort outcome ≡ Ok f → outcome ≡ Ok (f, sort)
of_sort-inverse sort outcome f e =
    let first = and_then-inverse outcome (λ t. unless_halted (is_sort t.1 sort) wrong_sort (Ok t.0)) f e in
    let test = halted-inverse (is_sort first.0.1 sort) wrong_sort (Ok first.0.0) f first.2 in
    let formula : first.0.0 ≡ f = same_value first.0.0 f test.1 in
    first.1 ∙ ap (λ (g : Formula). Ok (g, first.0.1)) formula ∙ ap (λ (s : SortId). Ok (f, s)) (one_sort first.0.1 sort test.0)
