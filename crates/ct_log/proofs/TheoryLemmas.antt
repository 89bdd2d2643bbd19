-- The equations of a list of steps, one by one.
use Rattle.std.proofs.Common.{◌≡◌, ℕ, ◌+◌, ◌≤◌, ◌↔◌, inl, inr, true, List, [], ◌∷◌, ◌++◌, length, take, Some, None, slice_get, refl, sym, ap, subst, ◌∙◌, arith, length-append}
use Rattle.std.proofs.lemmas.List.{take_all, take-append-le}
use Rattle.std.proofs.lemmas.Option.{none-some, same_Some, slice_get_within}
use Rattle.ct_lemmas.proofs.Lists.{slice_get-push_cases, slice_get-there}
use Rattle.ct_lemmas.proofs.Prefixes.{take-slice_get_next}
use Rattle.ct_sorts.specs.Declarations.{Declarations}
use Rattle.ct_terms.specs.declared.ids.TermId.{TermId}
use Rattle.ct_terms.specs.Clause.{Clause}
use Rattle.ct_terms.specs.Terms.{Terms}
use Rattle.ct_rules.specs.declared.equation.Equation.{Equation}
use Rattle.ct_log.specs.declared.rules.EqStep.{EqStep}
use Rattle.ct_log.specs.Equations.{Gives, GiveAll, equation}
use Rattle.ct_log.specs.Steps.{Given}

module _ (d : Declarations) (terms : Terms) (clause : Clause) where
  -- no step gives an equation yet
  pub GiveAll-none : GiveAll d terms clause [] []
  GiveAll-none = record { long = refl; each = λ index step e at other. absurd (none-some step at) }

  -- one step more
  GiveAll-push : (steps : List EqStep) (given : List Equation) (step : EqStep) (e : Equation) → GiveAll d terms clause steps given → Gives d terms clause given step e.left e.right → GiveAll d terms clause (steps ++ step ∷ []) (given ++ e ∷ [])
  GiveAll-push steps given step e all gives = record {
    long = (let a = length-append steps (step ∷ []) in let b = length-append given (e ∷ []) in let c = all.long in omega arith);
    each = λ index st eq at_step at_equation.
        elim (slice_get-push_cases steps step st index at_step) [
          | inl old ↦
              let within = slice_get_within steps index st old in
              let long = all.long in
              elim (slice_get-push_cases given e eq index at_equation) [
                | inl there ↦ subst (λ (g : List Equation). Gives d terms clause g st eq.left eq.right) (sym (take-append-le index given (e ∷ []) (omega arith))) (all.each index st eq old there)
                | inr last ↦ absurd (let is = last.0 in omega arith)
              ]
          | inr last ↦
              let is = last.0 in
              let long = all.long in
              elim (slice_get-push_cases given e eq index at_equation) [
                | inl there ↦ absurd (let within = slice_get_within given index eq there in omega arith)
                | inr also ↦
                    let whole : take index (given ++ e ∷ []) ≡ given = take-append-le index given (e ∷ []) (omega arith) ∙ take_all index given (omega arith) in
                    subst (λ (g : List Equation). Gives d terms clause g st eq.left eq.right) (sym whole)
                    (subst (λ (f : Equation). Gives d terms clause given st f.left f.right) also.1 (subst (λ (s : EqStep). Gives d terms clause given s e.left e.right) last.1 gives))
              ]
        ];
  }

  -- whatever all steps give begins with what was found
  abbrev pub BeginAll : List EqStep → ℕ → List Equation → Type 0
  BeginAll steps i given = (all : List Equation) → GiveAll d terms clause steps all → take i all ≡ given

  -- the equation that the step at the index gives, after those that were found
  given_next : (steps : List EqStep) (i : ℕ) (given : List Equation) (step : EqStep) → slice_get steps i ≡ Some step → BeginAll steps i given → (all : List Equation) → GiveAll d terms clause steps all → (e : Equation) × (slice_get all i ≡ Some e) × Gives d terms clause given step e.left e.right
  given_next steps i given step at begin all give =
      let within = slice_get_within steps i step at in
      let long = give.long in
      let found = slice_get-there all i (omega arith) in
      (found.0, found.1, subst (λ (g : List Equation). Gives d terms clause g step found.0.left found.0.right) (begin all give) (give.each i step found.0 at found.1))

  pub Given-stop : (steps : List EqStep) (i : ℕ) (given : List Equation) (step : EqStep) → slice_get steps i ≡ Some step → ((x y : TermId) → Gives d terms clause given step x y ↔ (None ≡ Some (equation x y))) → BeginAll steps i given → (all : List Equation) → GiveAll d terms clause steps all → ⊥
  Given-stop steps i given step at told begin all give =
      let e = given_next steps i given step at begin all give in
      none-some (equation e.0.left e.0.right) ((told e.0.left e.0.right).0 e.2)

  pub Given-next : (steps : List EqStep) (i : ℕ) (given : List Equation) (step : EqStep) (e : Equation) → slice_get steps i ≡ Some step → ((x y : TermId) → Gives d terms clause given step x y ↔ (Some e ≡ Some (equation x y))) → GiveAll d terms clause (take i steps) given → BeginAll steps i given → GiveAll d terms clause (take (i + 1) steps) (given ++ e ∷ []) × BeginAll steps (i + 1) (given ++ e ∷ [])
  Given-next steps i given step e at told so_far begin = (
    rw (take-slice_get_next steps i step at) (GiveAll-push (take i steps) given step e so_far ((told e.left e.right).1 refl)),
    λ all give.
        let f = given_next steps i given step at begin all give in
        let same : e ≡ f.0 = same_Some e f.0 ((told f.0.left f.0.right).0 f.2) in
        take-slice_get_next all i f.0 f.1 ∙ ap (λ (g : List Equation). g ++ f.0 ∷ []) (begin all give) ∙ ap (λ (x : Equation). given ++ x ∷ []) (sym same),
  )

  pub Given-end : (steps : List EqStep) (i : ℕ) (given : List Equation) → length steps ≤ i → GiveAll d terms clause (take i steps) given → BeginAll steps i given → Given d terms clause steps given true
  Given-end steps i given past so_far begin = (
    subst (λ (ss : List EqStep). GiveAll d terms clause ss given) (take_all i steps past) so_far,
    λ all give. sym (take_all i all (let long = give.long in omega arith)) ∙ begin all give,
  )
