-- What bindings come to before what they bind.
use Rattle.std.proofs.Common.{◌≡◌, ℕ, Bool, true, false, not, ◌&&◌, ◌==◌, List, [], ◌∷◌, length, Option, Err, refl, sym, ◌∙◌, ap, arith, true≢false}
use Rattle.std.proofs.lemmas.Bool.Decides.{Decides-eqb}
use Rattle.ct_lemmas.proofs.Booleans.{not_true}
use Rattle.ct_sexpr.specs.declared.sexpr.Sexpr.{Sexpr}
use Rattle.ct_sexpr.specs.View.{expressions_of}
use Rattle.ct_sorts.specs.Declarations.{Declarations}
use Rattle.ct_names.specs.Outcome.{Elaborated, Sorted, unless_halted, refused}
use Rattle.ct_names.specs.Refusals.{out_of_scope, repeated_variable}
use Rattle.ct_names.specs.Variables.{present_names, has_repeated}
use Rattle.ct_names.specs.Parts.{Parts, count}
use Rattle.ct_names.specs.Forms.{are_bindings, bound_names}
use Rattle.ct_names.specs.Elaboration.{parts_of}
use Rattle.ct_check.specs.Binders.{with_names}

-- the test of an empty list
pub empty_is : {X : Type 0} (xs : List X) (empty : Bool) → empty ≡ (length xs == 0) → empty ≡ true → length xs ≡ 0
empty_is xs empty is e = (Decides-eqb (length xs) 0).0 (sym is ∙ e)

pub some_are : {X : Type 0} (xs : List X) (empty : Bool) → empty ≡ (length xs == 0) → empty ≡ false → length xs ≡ 0 → ⊥
some_are xs empty is e h = true≢false (sym ((Decides-eqb (length xs) 0).1 h) ∙ sym is ∙ e)

some_parts : (n : ℕ) → (n ≡ 0 → ⊥) → (n == 0) ≡ false
some_parts n h = not_true (n == 0) (λ e. h ((Decides-eqb n 0).0 e))

abbrev named : List (Option (List ℕ)) → (List (Option (List ℕ)) → Elaborated Sorted) → Elaborated Sorted
named names next = unless_halted (not (has_repeated (present_names names))) repeated_variable (next names)

pub bound-empty : (d : Declarations) (bindings : List Sexpr) (next : List (Option (List ℕ)) → Elaborated Sorted) → length bindings ≡ 0 → with_names (parts_of d (expressions_of bindings)) next ≡ Err (refused out_of_scope)
bound-empty d [] next h = refl
bound-empty d (x ∷ xs) next h = absurd (omega (arith, h))

pub bound-other : (ps : Parts) (next : List (Option (List ℕ)) → Elaborated Sorted) → are_bindings ps ≡ false → with_names ps next ≡ Err (refused out_of_scope)
bound-other ps next e = ap (λ b. unless_halted (b && not (count ps == 0)) out_of_scope (named (bound_names ps) next)) e

bound-named : (d : Declarations) (bindings : List Sexpr) (next : List (Option (List ℕ)) → Elaborated Sorted) → (length bindings ≡ 0 → ⊥) → are_bindings (parts_of d (expressions_of bindings)) ≡ true → with_names (parts_of d (expressions_of bindings)) next ≡ named (bound_names (parts_of d (expressions_of bindings))) next
bound-named d [] next h e = absurd (h refl)
bound-named d (x ∷ xs) next h e =
    let ps = parts_of d (expressions_of (x ∷ xs)) in
    ap (λ b. unless_halted (b && not (count ps == 0)) out_of_scope (named (bound_names ps) next)) e
    ∙ ap (λ b. unless_halted (not b) out_of_scope (named (bound_names ps) next)) (some_parts (count ps) (λ z. absurd (omega (arith, z))))

module _ (d : Declarations) (bindings : List Sexpr) (next : List (Option (List ℕ)) → Elaborated Sorted) (names : List (Option (List ℕ))) (some : length bindings ≡ 0 → ⊥) (are : are_bindings (parts_of d (expressions_of bindings)) ≡ true) (held : names ≡ bound_names (parts_of d (expressions_of bindings))) where
  bound-held : with_names (parts_of d (expressions_of bindings)) next ≡ named names next
  bound-held = bound-named d bindings next some are ∙ ap (λ ns. named ns next) (sym held)

  pub bound-repeated : has_repeated (present_names names) ≡ true → with_names (parts_of d (expressions_of bindings)) next ≡ Err (refused repeated_variable)
  bound-repeated e = bound-held ∙ ap (λ b. unless_halted (not b) repeated_variable (next names)) e

  pub bound-names : has_repeated (present_names names) ≡ false → with_names (parts_of d (expressions_of bindings)) next ≡ next names
  bound-names e = bound-held ∙ ap (λ b. unless_halted (not b) repeated_variable (next names)) e
