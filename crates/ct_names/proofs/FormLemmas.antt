-- Forms of lists by their lengths.
use Rattle.std.proofs.Common.{◌≡◌, ◌<◌, ◌≤◌, Bool, false, List, [], ◌∷◌, length, get_or, refl, sym, ap, ◌∙◌, ◌==◌, arith}
use Rattle.std.proofs.lemmas.Bool.{true≢false}
use Rattle.ct_sexpr.specs.declared.sexpr.Sexpr.{Sexpr}
use Rattle.ct_sexpr.specs.View.{expression_of, expressions_of}
use Rattle.ct_sorts.specs.Declarations.{Declarations}
use Rattle.ct_names.specs.Outcome.{Elaborated, Sorted}
use Rattle.ct_names.specs.Variables.{Variable}
use Rattle.ct_names.specs.Parts.{list_part}
use Rattle.ct_names.specs.Forms.{is_name, is_pattern, is_binding, is_case, are_attributes, are_attributes_from}
use Rattle.ct_names.specs.Elaboration.{part_of, parts_of}

module _ (d : Declarations) (m : List Variable → Elaborated Sorted) where
  pub is_binding-fewer : (items : List Sexpr) → length items < 2 → false ≡ is_binding (list_part (parts_of d (expressions_of items)) m)
  is_binding-fewer [] h = refl
  is_binding-fewer (a ∷ []) h = refl
  is_binding-fewer (a ∷ (b ∷ items)) h = absurd (omega arith)

  pub is_binding-two : (items : List Sexpr) (x : Sexpr) → 2 ≤ length items → length items < 3 → x ≡ get_or items 0 x → is_name (part_of d (expression_of x)) ≡ is_binding (list_part (parts_of d (expressions_of items)) m)
  is_binding-two [] x p q e = absurd (omega arith)
  is_binding-two (a ∷ []) x p q e = absurd (omega arith)
  is_binding-two (a ∷ (b ∷ [])) x p q e = ap (λ (y : Sexpr). is_name (part_of d (expression_of y))) e
  is_binding-two (a ∷ (b ∷ (c ∷ items))) x p q e = absurd (omega arith)

  pub is_binding-more : (items : List Sexpr) → 3 ≤ length items → false ≡ is_binding (list_part (parts_of d (expressions_of items)) m)
  is_binding-more [] h = refl
  is_binding-more (a ∷ []) h = refl
  is_binding-more (a ∷ (b ∷ [])) h = absurd (omega arith)
  is_binding-more (a ∷ (b ∷ (c ∷ items))) h = refl

  pub is_case-fewer : (items : List Sexpr) → length items < 2 → false ≡ is_case (list_part (parts_of d (expressions_of items)) m)
  is_case-fewer [] h = refl
  is_case-fewer (a ∷ []) h = refl
  is_case-fewer (a ∷ (b ∷ items)) h = absurd (omega arith)

  pub is_case-two : (items : List Sexpr) (x : Sexpr) → 2 ≤ length items → length items < 3 → x ≡ get_or items 0 x → is_pattern (part_of d (expression_of x)) ≡ is_case (list_part (parts_of d (expressions_of items)) m)
  is_case-two [] x p q e = absurd (omega arith)
  is_case-two (a ∷ []) x p q e = absurd (omega arith)
  is_case-two (a ∷ (b ∷ [])) x p q e = ap (λ (y : Sexpr). is_pattern (part_of d (expression_of y))) e
  is_case-two (a ∷ (b ∷ (c ∷ items))) x p q e = absurd (omega arith)

  pub is_case-more : (items : List Sexpr) → 3 ≤ length items → false ≡ is_case (list_part (parts_of d (expressions_of items)) m)
  is_case-more [] h = refl
  is_case-more (a ∷ []) h = refl
  is_case-more (a ∷ (b ∷ [])) h = absurd (omega arith)
  is_case-more (a ∷ (b ∷ (c ∷ items))) h = refl

-- where there is an attribute at all, no value stands first
pub are_attributes-some : (d : Declarations) (exprs : List Sexpr) (empty : Bool) → empty ≡ (length exprs == 0) → empty ≡ false → are_attributes_from false (parts_of d (expressions_of exprs)) ≡ are_attributes (parts_of d (expressions_of exprs))
are_attributes-some d [] empty is not = absurd (true≢false (sym is ∙ not))
are_attributes-some d (e ∷ exprs) empty is not = refl
