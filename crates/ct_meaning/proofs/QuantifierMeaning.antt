-- When a formula with a quantifier is true: by its body, with all or with some closed values.
use Rattle.std.proofs.Common.{◌≡◌, ◌↔◌, Bool, true, false, List, [], ◌∷◌, map, Contains, refl, sym, subst, ◌∙◌, inl, inr, true≢false}
use Rattle.std.specs.List.{AllZip, list_all, list_any}
use Rattle.ct_lemmas.proofs.Booleans.{both_parts, both_true, or_cases, or_left, or_right}
use Rattle.ct_lemmas.proofs.Contained.{Contains-none, Contains-first, Contains-rest, Contains-cons}
use Rattle.ct_sorts.specs.declared.ids.SortId.{SortId}
use Rattle.ct_sorts.specs.Declarations.{Declarations}
use Rattle.ct_values.specs.Value.{Value}
use Rattle.ct_listing.specs.Closed.{ClosedValue, IsClosedOf, value_of}
use Rattle.ct_formulas.specs.Choices.{choices_of}
use Rattle.ct_formulas.specs.declared.tree.Quantifier.TheVariants.{Forall, Exists}
use Rattle.ct_formulas.specs.Formula.{Formula, Quantified, bind}
use Rattle.ct_eval.specs.declared.interp.Interp.{Interp}
use Rattle.ct_values.specs.TruthValue.{truth, is_true}
use Rattle.ct_meaning.specs.Meaning.{eval}

module _ {X Y : Type 0} (p : Y → Bool) (f : X → Y) where
  all_of_list : (xs : List X) → list_all p (map f xs) ≡ true → (x : X) → Contains xs x → p (f x) ≡ true
  all_of_list [] h x inside = absurd (Contains-none x inside)
  all_of_list (y ∷ xs) h x inside =
      let both = both_parts (p (f y)) (list_all p (map f xs)) h in
      elim (Contains-cons y xs x inside) [
        | inl e ↦ subst (λ (z : X). p (f z) ≡ true) e both.0
        | inr rest ↦ all_of_list xs both.1 x rest
      ]

  list_of_all : (xs : List X) → ((x : X) → Contains xs x → p (f x) ≡ true) → list_all p (map f xs) ≡ true
  list_of_all [] h = refl
  list_of_all (x ∷ xs) h = both_true (p (f x)) (list_all p (map f xs)) (h x (Contains-first x xs)) (list_of_all xs (λ y at. h y (Contains-rest x xs y at)))

  some_of_list : (xs : List X) → list_any p (map f xs) ≡ true → (x : X) × Contains xs x × (p (f x) ≡ true)
  some_of_list [] h = absurd (true≢false (sym h))
  some_of_list (x ∷ xs) h =
      elim (or_cases (p (f x)) (list_any p (map f xs)) h) [
        | inl first ↦ (x, Contains-first x xs, first)
        | inr rest ↦ let found = some_of_list xs rest in (found.0, Contains-rest x xs found.0 found.1, found.2)
      ]

  list_of_some : (xs : List X) (x : X) → Contains xs x → p (f x) ≡ true → list_any p (map f xs) ≡ true
  list_of_some [] x inside h = absurd (Contains-none x inside)
  list_of_some (y ∷ xs) x inside h =
      elim (Contains-cons y xs x inside) [
        | inl e ↦ or_left (p (f y)) (list_any p (map f xs)) (subst (λ (z : X). p (f z) ≡ true) (sym e) h)
        | inr rest ↦ or_right (p (f y)) (list_any p (map f xs)) (list_of_some xs x rest h)
      ]

module _ (d : Declarations) (i : Interp) (bodies : List Formula) (env : List Value) (sorts : List SortId) (t : Formula) (exact : (vs : List ClosedValue) → Contains (choices_of d sorts) vs ↔ AllZip (IsClosedOf d) vs sorts) where
  truth_is : (b : Bool) → is_true i.graph (truth b) ≡ b
  truth_is true = refl
  truth_is false = refl

  abbrev body : List ClosedValue → Value
  body vs = eval d i bodies (bind (map value_of vs) env) t

  pub for_all : (is_true i.graph (eval d i bodies env (Quantified Forall sorts t)) ≡ true) ↔ ((vs : List ClosedValue) → AllZip (IsClosedOf d) vs sorts → is_true i.graph (body vs) ≡ true)
  for_all = (
    λ h vs of. all_of_list (is_true i.graph) body (choices_of d sorts) (sym (truth_is (list_all (is_true i.graph) (map body (choices_of d sorts)))) ∙ h) vs ((exact vs).1 of),
    λ h. truth_is (list_all (is_true i.graph) (map body (choices_of d sorts))) ∙ list_of_all (is_true i.graph) body (choices_of d sorts) (λ vs inside. h vs ((exact vs).0 inside)),
  )

  pub for_some : (is_true i.graph (eval d i bodies env (Quantified Exists sorts t)) ≡ true) ↔ ((vs : List ClosedValue) × AllZip (IsClosedOf d) vs sorts × (is_true i.graph (body vs) ≡ true))
  for_some = (
    λ h.
        let found = some_of_list (is_true i.graph) body (choices_of d sorts) (sym (truth_is (list_any (is_true i.graph) (map body (choices_of d sorts)))) ∙ h) in
        (found.0, (exact found.0).0 found.1, found.2),
    λ h. truth_is (list_any (is_true i.graph) (map body (choices_of d sorts))) ∙ list_of_some (is_true i.graph) body (choices_of d sorts) h.0 ((exact h.0).1 h.1) h.2,
  )
