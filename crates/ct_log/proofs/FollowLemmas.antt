-- Steps of a line follow by the rules of equality.
use Rattle.std.proofs.Common.{◌≡◌, ℕ, ◌<◌, ◌⊎◌, inl, inr, true, false, length, List, [], ◌∷◌, map, Contains, sym, ap, subst, ◌∙◌}
use Rattle.std.specs.List.{AllZip}
use Rattle.ct_lemmas.proofs.Contained.{Contains-from_slice_get, Contains-map, Contains-map_cases, slice_get-from_Contains}
use Rattle.ct_sorts.specs.Declarations.{Declarations}
use Rattle.ct_terms.specs.declared.ids.TermId.{TermId}
use Rattle.ct_terms.specs.Clause.{Clause, opposites}
use Rattle.ct_terms.specs.declared.term.Core.{Core}
use Rattle.ct_terms.specs.declared.term.Core.TheVariants as core
use Rattle.ct_terms.specs.Terms.{Terms, Has}
use Rattle.ct_rules.specs.declared.equation.Equation.{Equation}
use Rattle.ct_rules.specs.Rules.{truth_term, IsSingleton, Follows, by_reflexivity, by_symmetry, by_transitivity, by_congruence, by_injection, by_selection, by_testing, by_expansion, by_equation_in, by_equation_out, by_negation, by_singleton}
use Rattle.ct_rules.specs.Derivation.{AreAmong, IsHypothesis}
use Rattle.ct_rules.specs.Uniqueness.{IsUniqueness, AreMatched, IsPairMatched}
use Rattle.ct_rules.specs.Cycle.{IsCycle, LeadBack, LeadsTo}
use Rattle.ct_log.specs.declared.rules.Hop.{Hop}
use Rattle.ct_log.specs.declared.rules.Pair.{Pair}
use Rattle.ct_log.specs.declared.rules.Entry.{Entry}
use Rattle.ct_log.specs.declared.rules.Entry.TheVariants as entry
use Rattle.ct_log.specs.declared.rules.EqStep.{EqStep}
use Rattle.ct_log.specs.declared.rules.EqStep.TheVariants.{Hyp, Refl, Sym, Trans, Cong, Inject, Sel, Test, Expand, EqualIn, EqualOut, Neg, Single, Unique}
use Rattle.ct_log.specs.Closing.{IsCycleBy, LeadBackBy}
use Rattle.ct_log.specs.Equations.{Gives, Gave, GaveEach, AreEntriesFor, IsEntryFor, AreUnique, equation}
use Rattle.ct_log.proofs.MarkLemmas.{Contains-opposites}

-- the term is in the table, and is this one
abbrev IsInside : Terms → TermId → Type 0
IsInside terms t = t.0 < length terms

abbrev HasAt : Terms → Core → TermId → Type 0
HasAt terms term t = Has terms term t.0

module _ (given : List Equation) where
  -- what a step gave is among the equations
  among : (step : ℕ) (x y : TermId) → Gave given step x y → AreAmong given x y
  among step x y gave = Contains-from_slice_get given step (equation x y) gave

  among_each : (steps : List ℕ) (xs ys : List TermId) → GaveEach given steps xs ys → AllZip (AreAmong given) xs ys
  among_each [] [] [] all = tt
  among_each [] [] (y ∷ ys) all = absurd all
  among_each [] (x ∷ xs) ys all = absurd all
  among_each (n ∷ ns) [] ys all = absurd all
  among_each (n ∷ ns) (x ∷ xs) [] all = absurd all
  among_each (n ∷ ns) (x ∷ xs) (y ∷ ys) all = (among n x y all.0, among_each ns xs ys all.1)

  -- the equation of a pair
  abbrev pair_equation : Pair → Equation
  pair_equation pair = equation pair.left pair.right

  module _ (pairs : List Pair) where
    matched_one : (e : Entry) (x y : TermId) → IsEntryFor given pairs e x y → AreMatched (AreAmong given) (map pair_equation pairs) x y
    matched_one (entry.Step i) x y h = inl (among i x y h)
    matched_one (entry.Pair k i j) x y h = inr (pair_equation h.0, Contains-map pair_equation pairs h.0 (Contains-from_slice_get pairs k h.0 h.1), among i x h.0.left h.2, among j h.0.right y h.3)

    matched_each : (es : List Entry) (xs ys : List TermId) → AreEntriesFor given pairs es xs ys → AllZip (AreMatched (AreAmong given) (map pair_equation pairs)) xs ys
    matched_each [] [] [] all = tt
    matched_each [] [] (y ∷ ys) all = absurd all
    matched_each [] (x ∷ xs) ys all = absurd all
    matched_each (e ∷ es) [] ys all = absurd all
    matched_each (e ∷ es) (x ∷ xs) [] all = absurd all
    matched_each (e ∷ es) (x ∷ xs) (y ∷ ys) all = (matched_one e x y all.0, matched_each es xs ys all.1)

    unique_follows : (terms : Terms) (number : ℕ) (x y : TermId) → AreUnique terms given number pairs x y → IsUniqueness terms (AreAmong given) x y
    unique_follows terms number x y h =
        let asked : pair_equation h.asked ≡ equation x y = ap (λ (t : TermId). equation t h.asked.right) h.left ∙ ap (λ (t : TermId). equation x t) h.right in
        record {
          pairs = map pair_equation pairs;
          listed = subst (λ (e : Equation). Contains (map pair_equation pairs) e) asked (Contains-map pair_equation pairs h.asked (Contains-from_slice_get pairs number h.asked h.stands));
          matched = λ e inside.
              let found = Contains-map_cases pair_equation pairs e inside in
              let at = slice_get-from_Contains pairs found.0 found.1 in
              let by = h.each at.0 found.0 at.1 in
              let matched : IsPairMatched terms (AreAmong given) (map pair_equation pairs) found.0.left found.0.right =
              record { ctor = by.ctor; xs = by.xs; ys = by.ys; left_stands = by.left_stands; right_stands = by.right_stands; arguments = matched_each found.0.entries by.xs by.ys by.entries } in
              subst (λ (f : Equation). IsPairMatched terms (AreAmong given) (map pair_equation pairs) f.left f.right) found.2 matched;
        }

  -- each step
  pub step_follows : (d : Declarations) (terms : Terms) (clause : Clause) (step : EqStep) (x y : TermId) → Gives d terms clause given step x y → IsHypothesis (opposites clause) x y ⊎ (Follows d terms (AreAmong given) x y ⊎ IsUniqueness terms (AreAmong given) x y)
  step_follows d terms clause (Hyp l) x y h = inl (l, (Contains-opposites clause l).1 h.0, (h.1, h.2))
  step_follows d terms clause (Refl t) x y h = inr (inl (by_reflexivity (record { inside = subst (λ (s : TermId). IsInside terms s) (sym h.1) h.0; one = h.1 ∙ sym h.2 })))
  step_follows d terms clause (Sym i) x y h = inr (inl (by_symmetry (among i y x h)))
  step_follows d terms clause (Trans i j) x y h = inr (inl (by_transitivity (record { middle = h.0; first = among i x h.0 h.1; second = among j h.0 y h.2 })))
  step_follows d terms clause (Cong t u steps) x y h =
      let by = h.2 in
      inr (inl (by_congruence (record {
        left = by.left;
        right = by.right;
        left_stands = subst (λ (s : TermId). HasAt terms by.left s) (sym h.0) by.left_stands;
        right_stands = subst (λ (s : TermId). HasAt terms by.right s) (sym h.1) by.right_stands;
        head = by.head;
        arguments = among_each steps _ _ by.arguments;
      })))
  step_follows d terms clause (Inject i k) x y h = inr (inl (by_injection (record { left = h.left; right = h.right; ctor = h.ctor; xs = h.xs; ys = h.ys; place = k; equal = among i h.left h.right h.equal; left_stands = h.left_stands; right_stands = h.right_stands; left_at = h.left_at; right_at = h.right_at })))
  step_follows d terms clause (Sel t i) x y h =
      let by = h.1 in
      inr (inl (by_selection (record { sel = by.sel; selector = by.selector; argument = by.argument; con = by.con; args = by.args; stands = subst (λ (s : TermId). HasAt terms (core.Sel by.sel by.argument) s) (sym h.0) by.stands; declared = by.declared; equal = among i by.argument by.con by.equal; con_stands = by.con_stands; at = by.at })))
  step_follows d terms clause (Test t i) x y h =
      let by = h.1 in
      inr (inl (by_testing (record { tested = by.tested; argument = by.argument; con = by.con; ctor = by.ctor; args = by.args; stands = subst (λ (s : TermId). HasAt terms (core.Test by.tested by.argument) s) (sym h.0) by.stands; equal = among i by.argument by.con by.equal; con_stands = by.con_stands; answer = by.answer })))
  step_follows d terms clause (Expand i c) x y h =
      let by = h.1 in
      inr (inl (by_expansion (record { test = by.test; id = by.id; ctor = by.ctor; args = by.args; declared = by.declared; holds = among i by.test (truth_term true) by.holds; test_stands = by.test_stands; con_stands = subst (λ (s : TermId). HasAt terms (core.Con by.id by.args) s) (sym h.0) by.con_stands; fields = by.fields })))
  step_follows d terms clause (EqualIn t i) x y h =
      inr (inl (by_equation_in (record { left = h.2.0; right = h.2.1; stands = subst (λ (s : TermId). HasAt terms (core.Eq h.2.0 h.2.1) s) (sym h.0) h.2.2; equal = among i h.2.0 h.2.1 h.2.3; answer = h.1 })))
  step_follows d terms clause (EqualOut i) x y h = inr (inl (by_equation_out (record { term = h.0; stands = h.2; holds = among i h.0 (truth_term true) h.1 })))
  step_follows d terms clause (Neg t i) x y h =
      inr (inl (by_negation (record {
        argument = h.1.0;
        stands = subst (λ (s : TermId). HasAt terms (core.Not h.1.0) s) (sym h.0) h.1.1;
        answer = elim h.1.2 [ inl k ↦ inl (among i h.1.0 (truth_term true) k.0, k.1) | inr k ↦ inr (among i h.1.0 (truth_term false) k.0, k.1) ];
      })))
  step_follows d terms clause (Single t u) x y h = inr (inl (by_singleton (subst (λ (s : TermId). IsSingleton d terms s y) (sym h.0) (subst (λ (s : TermId). IsSingleton d terms t s) (sym h.1) h.2))))
  step_follows d terms clause (Unique p pairs) x y h = inr (inr (unique_follows pairs terms p x y h))

  -- hops, as pairs of a term and a place
  abbrev hop_pair : Hop → TermId × ℕ
  hop_pair hop = (hop.con, hop.place)

  leads_follow : (d : Declarations) (terms : Terms) (step : ℕ) (con : TermId) (place : ℕ) (next : TermId) → LeadsTo d terms (Gave given step) con place next → LeadsTo d terms (AreAmong given) con place next
  leads_follow d terms step con place next h = record { ctor = h.ctor; args = h.args; argument = h.argument; stands = h.stands; datatype = h.datatype; at = h.at; equal = among step h.argument next h.equal }

  back_follows : (d : Declarations) (terms : Terms) (hops : List Hop) (end : TermId) → LeadBackBy d terms given hops end → LeadBack d terms (AreAmong given) (map hop_pair hops) end
  back_follows d terms [] end h = absurd h
  back_follows d terms (hop ∷ []) end h = leads_follow d terms hop.step hop.con hop.place end h
  back_follows d terms (hop ∷ (next ∷ hops)) end h = (leads_follow d terms hop.step hop.con hop.place next.con h.0, back_follows d terms (next ∷ hops) end h.1)

  pub cycle_follows : (d : Declarations) (terms : Terms) (hops : List Hop) → IsCycleBy d terms given hops → IsCycle d terms (AreAmong given) (map (λ (hop : Hop). (hop.con, hop.place)) hops)
  cycle_follows d terms [] h = absurd h
  cycle_follows d terms (hop ∷ hops) h = back_follows d terms (hop ∷ hops) hop.con h
