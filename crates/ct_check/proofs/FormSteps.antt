-- What `let`, `match`, `!` and quantifiers come to, step by step.
use Rattle.std.proofs.Common.{◌≡◌, true, false, List, [], ◌∷◌, length, get_or, None, Vec, Global, Err, sym, ◌∙◌, ap, arith}
use Rattle.ct_sexpr.specs.declared.sexpr.Sexpr.{Sexpr, List as list_in_memory}
use Rattle.ct_sexpr.specs.View.{expression_of, expressions_of}
use Rattle.ct_sorts.specs.Declarations.{Declarations}
use Rattle.ct_formulas.specs.declared.tree.Quantifier.{Quantifier}
use Rattle.ct_names.specs.Outcome.{and_then, unless_halted, step, refused}
use Rattle.ct_names.specs.Refusals.{out_of_scope}
use Rattle.ct_names.specs.Variables.{Variable}
use Rattle.ct_names.specs.Parts.{Part, Parts, with_part, no_parts}
use Rattle.ct_names.specs.Forms.{are_cases, are_attributes}
use Rattle.ct_names.specs.Patterns.{matchable}
use Rattle.ct_names.specs.Elaboration.{part_of, parts_of, meaning_of_part, let_of, let_form, quantified_of, quantified_form, match_form, match_of, checked_cases, exhausted, annotated}
use Rattle.ct_names.proofs.PartLemmas.{part_of_list, two_items}

-- a subject and cases, step by step
module _ (d : Declarations) (scope : List Variable) (t : Part) (cases : Parts) where
  pub cases-other : are_cases cases ≡ false → match_of d scope t cases ≡ Err (refused out_of_scope)
  cases-other e = ap (λ b. unless_halted b out_of_scope (and_then (meaning_of_part d scope t) (λ subject. and_then (step (matchable d subject.1)) (λ side. and_then (checked_cases d scope side None cases) (λ checked. exhausted d subject checked))))) e

  pub cases-subject : are_cases cases ≡ true → match_of d scope t cases ≡ and_then (meaning_of_part d scope t) (λ subject. and_then (step (matchable d subject.1)) (λ side. and_then (checked_cases d scope side None cases) (λ checked. exhausted d subject checked)))
  cases-subject e = ap (λ b. unless_halted b out_of_scope (and_then (meaning_of_part d scope t) (λ subject. and_then (step (matchable d subject.1)) (λ side. and_then (checked_cases d scope side None cases) (λ checked. exhausted d subject checked))))) e

-- a term with attributes
pub annotated-other : (d : Declarations) (scope : List Variable) (args : List Sexpr) (first : Sexpr) (others : List Sexpr) → args ≡ first ∷ others → are_attributes (parts_of d (expressions_of others)) ≡ false → annotated d scope (parts_of d (expressions_of args)) ≡ Err (refused out_of_scope)
annotated-other d scope args first others is e =
    ap (λ (xs : List Sexpr). annotated d scope (parts_of d (expressions_of xs))) is ∙ ap (λ b. unless_halted b out_of_scope (meaning_of_part d scope (part_of d (expression_of first)))) e

pub annotated-term : (d : Declarations) (scope : List Variable) (args : List Sexpr) (first : Sexpr) (others : List Sexpr) → args ≡ first ∷ others → are_attributes (parts_of d (expressions_of others)) ≡ true → annotated d scope (parts_of d (expressions_of args)) ≡ meaning_of_part d scope (part_of d (expression_of first))
annotated-term d scope args first others is e =
    ap (λ (xs : List Sexpr). annotated d scope (parts_of d (expressions_of xs))) is ∙ ap (λ b. unless_halted b out_of_scope (meaning_of_part d scope (part_of d (expression_of first)))) e

-- `let` with a list of bindings, and `match` with a list of cases
pub let-list : (d : Declarations) (scope : List Variable) (args : List Sexpr) (first body : Sexpr) (bindings : Vec Sexpr Global) (slice : List Sexpr) → args ≡ first ∷ (body ∷ []) → first ≡ list_in_memory bindings → slice ≡ bindings.items → let_form d scope (parts_of d (expressions_of args)) ≡ let_of d scope (parts_of d (expressions_of slice)) (part_of d (expression_of body))
let-list d scope args first body bindings slice two is same =
    ap (λ (xs : List Sexpr). let_form d scope (parts_of d (expressions_of xs))) two
    ∙ ap (λ (p : Part). let_form d scope (with_part p (with_part (part_of d (expression_of body)) no_parts))) (part_of_list d first bindings slice is same)

pub match-list : (d : Declarations) (scope : List Variable) (args : List Sexpr) (first second : Sexpr) (cases : Vec Sexpr Global) (slice : List Sexpr) → args ≡ first ∷ (second ∷ []) → second ≡ list_in_memory cases → slice ≡ cases.items → match_form d scope (parts_of d (expressions_of args)) ≡ match_of d scope (part_of d (expression_of first)) (parts_of d (expressions_of slice))
match-list d scope args first second cases slice two is same =
    ap (λ (xs : List Sexpr). match_form d scope (parts_of d (expressions_of xs))) two
    ∙ ap (λ (p : Part). match_form d scope (with_part (part_of d (expression_of first)) (with_part p no_parts))) (part_of_list d second cases slice is same)

-- a quantifier with a list of variables
pub quantified-items : (d : Declarations) (scope : List Variable) (q : Quantifier) (args : List Sexpr) (first body : Sexpr) → args ≡ first ∷ (body ∷ []) → quantified_form d scope q (parts_of d (expressions_of args)) ≡ quantified_form d scope q (with_part (part_of d (expression_of first)) (with_part (part_of d (expression_of body)) no_parts))
quantified-items d scope q args first body two = ap (λ (xs : List Sexpr). quantified_form d scope q (parts_of d (expressions_of xs))) two

pub quantified-list : (d : Declarations) (scope : List Variable) (q : Quantifier) (list : Sexpr) (body : Part) (bindings : Vec Sexpr Global) (slice : List Sexpr) → list ≡ list_in_memory bindings → slice ≡ bindings.items → quantified_form d scope q (with_part (part_of d (expression_of list)) (with_part body no_parts)) ≡ quantified_of d scope q (parts_of d (expressions_of slice)) body
quantified-list d scope q list body bindings slice is same = ap (λ (p : Part). quantified_form d scope q (with_part p (with_part body no_parts))) (part_of_list d list bindings slice is same)

-- two items, of which both are known, or the second
pub two_of : {X : Type 0} (items : List X) (x y : X) → length items ≡ 2 → x ≡ get_or items 0 x → y ≡ get_or items 1 y → items ≡ x ∷ (y ∷ [])
two_of items x y long ex ey = two_items items x y (omega (arith, long)) (omega (arith, long)) ex ey

pub pair_at : {X : Type 0} (items : List X) (t : X) → length items ≡ 2 → t ≡ get_or items 1 t → (x : X) × (items ≡ x ∷ (t ∷ []))
pair_at [] t long e = absurd (omega (arith, long))
pair_at (a ∷ []) t long e = absurd (omega (arith, long))
pair_at (a ∷ (b ∷ [])) t long e = (a, ap (λ z. a ∷ (z ∷ [])) (sym e))
pair_at (a ∷ (b ∷ (c ∷ items))) t long e = absurd (omega (arith, long))
