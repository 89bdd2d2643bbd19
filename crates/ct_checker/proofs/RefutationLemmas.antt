-- A line of equality steps is sound: its equations contradict each other, so not every literal of its clause is false.
use Rattle.std.proofs.Common.{◌≡◌, ℕ, ◌⊎◌, inl, inr, Bool, true, false, List, [], ◌∷◌, map, All, refl, sym, ◌∙◌}
use Rattle.std.proofs.lemmas.List.Elements.{All-nil, All-cons}
use Rattle.ct_lemmas.proofs.Contained.{Contains-first, Contains-rest}
use Rattle.ct_sorts.specs.Declarations.{Declarations}
use Rattle.ct_terms.specs.declared.ids.TermId.{TermId}
use Rattle.ct_terms.specs.Literal.{IsStripped}
use Rattle.ct_terms.specs.Clause.{Clause, literal_value, HoldsUnder}
use Rattle.ct_terms.specs.Terms.{Terms}
use Rattle.ct_eval.specs.declared.interp.Interp.{Interp}
use Rattle.ct_eval.specs.Truth.{truth_value, TrueIn}
use Rattle.ct_rules.specs.declared.equation.Equation.{Equation}
use Rattle.ct_rules.specs.Cycle.{LeadsTo, LeadBack}
use Rattle.ct_log.specs.declared.rules.EqStep.{EqStep}
use Rattle.ct_log.specs.declared.rules.Hop.{Hop}
use Rattle.ct_log.specs.declared.rules.Close.{Close}
use Rattle.ct_log.specs.declared.rules.Close.TheVariants.{Clash, Cycle}
use Rattle.ct_log.specs.Equations.{Gave}
use Rattle.ct_log.specs.Closing.{IsClash, LeadBackBy, IsCycleBy, Closes}
use Rattle.ct_log.specs.Acceptance.{IsRefuted}
use Rattle.ct_checker.proofs.Setting.{Setting, Equal, value_point}
use Rattle.ct_checker.proofs.ConstructorRules.{one_ctor}
use Rattle.ct_checker.proofs.CycleLemmas.{no_cycle}
use Rattle.ct_checker.proofs.StepLemmas.{given_sound}

-- an assignment makes a clause true, or every literal of it false
pub holds_or_not : (assigned : ℕ → Bool) (clause : Clause) → HoldsUnder assigned clause ⊎ All (λ l. literal_value assigned l ≡ false) clause
holds_or_not assigned [] = inr (All-nil (λ l. literal_value assigned l ≡ false))
holds_or_not assigned (l ∷ ls) = first (literal_value assigned l) refl (holds_or_not assigned ls)
  where
    first : (b : Bool) → literal_value assigned l ≡ b → HoldsUnder assigned ls ⊎ All (λ k. literal_value assigned k ≡ false) ls → HoldsUnder assigned (l ∷ ls) ⊎ All (λ k. literal_value assigned k ≡ false) (l ∷ ls)
    first true e rest = inl (l, Contains-first l ls, e)
    first false e (inl rest) = inl (rest.0, Contains-rest l ls rest.0 rest.1, rest.2)
    first false e (inr all) = inr (All-cons (λ k. literal_value assigned k ≡ false) l ls e all)

-- a term of a cycle with its place
abbrev hop_of : Hop → TermId × ℕ
hop_of hop = (hop.con, hop.place)

module _ (d : Declarations) (i : Interp) (terms : Terms) (setting : Setting d i terms) (given : List Equation) (equal : (number : ℕ) (x y : TermId) → Gave given number x y → Equal d i terms x y) where
  no_clash : (number : ℕ) → IsClash terms given number → ⊥
  no_clash number clash =
      let heads_same = ((setting.same.always (value_point d i terms clash.left) (value_point d i terms clash.right)).0 (equal number clash.left clash.right clash.equal)).0 in
      clash.differ (one_ctor clash.ctor clash.other (
      sym (setting.table.ctor_head clash.left clash.ctor clash.xs clash.left_stands) ∙ heads_same ∙ setting.table.ctor_head clash.right clash.other clash.ys clash.right_stands
      ))

  -- what leads on by a step leads on where terms are equal
  leads : (number : ℕ) (con : TermId) (place : ℕ) (next : TermId) → LeadsTo d terms (Gave given number) con place next → LeadsTo d terms (Equal d i terms) con place next
  leads number con place next by_step = record {
    ctor = by_step.ctor;
    args = by_step.args;
    argument = by_step.argument;
    stands = by_step.stands;
    datatype = by_step.datatype;
    at = by_step.at;
    equal = equal number by_step.argument next by_step.equal;
  }

  leads_back : (hop : Hop) (hops : List Hop) (end : TermId) → LeadBackBy d terms given (hop ∷ hops) end → LeadBack d terms (Equal d i terms) (hop_of hop ∷ map hop_of hops) end
  leads_back hop [] end back = leads hop.step hop.con hop.place end back
  leads_back hop (next ∷ hops) end back = (leads hop.step hop.con hop.place next.con back.0, leads_back next hops end back.1)

  no_cycle_by : (hops : List Hop) → IsCycleBy d terms given hops → ⊥
  no_cycle_by [] cycle = cycle
  no_cycle_by (hop ∷ hops) cycle = no_cycle d i terms setting (Equal d i terms) (λ x y same. same) (hop_of hop ∷ map hop_of hops) (leads_back hop hops hop.con cycle)

  pub never_closes : (close : Close) → Closes d terms given close → ⊥
  never_closes (Clash number) clash = no_clash number clash
  never_closes (Cycle hops) cycle = no_cycle_by hops cycle

module _ (d : Declarations) (i : Interp) (terms : Terms) (setting : Setting d i terms) where
  pub refutation_sound : (clause : Clause) (steps : List EqStep) (close : Close) → All (λ l. IsStripped terms l.term) clause → IsRefuted d terms clause steps close → TrueIn d i terms clause
  refutation_sound clause steps close literals refuted =
      elim (holds_or_not (λ t. truth_value d i terms (record { 0 = t })) clause) [
        | inl holds ↦ holds
        | inr untrue ↦
            absurd (never_closes d i terms setting refuted.given (given_sound d i terms setting clause literals untrue steps refuted.given refuted.give) close refuted.closes)
      ]
