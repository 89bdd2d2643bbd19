-- The clauses of Boolean terms and of choices are true, each by the truth of the term.
use Rattle.std.proofs.Common.{◌≡◌, ℕ, zero, suc, Bool, true, false, not, ◌&&◌, ◌||◌, List, [], ◌∷◌, Some, slice_get, if◌then◌else◌, refl, sym, ap, subst, ◌∙◌, true≢false}
use Rattle.std.specs.List.{list_all, list_any}
use Rattle.std.proofs.lemmas.Option.{none-some, same_Some}
use Rattle.ct_lemmas.proofs.Booleans.{not_true}
use Rattle.ct_lemmas.proofs.Contained.{Contains-first, Contains-rest}
use Rattle.ct_lemmas.proofs.Lists.{list_all-at}
use Rattle.ct_sorts.specs.Declarations.{Declarations}
use Rattle.ct_values.specs.Value.{Value}
use Rattle.ct_values.specs.Agreement.{point, AgreeAlways}
use Rattle.ct_values.specs.TruthValue.{is_true}
use Rattle.ct_terms.specs.declared.ids.TermId.{TermId}
use Rattle.ct_terms.specs.declared.ids.Lit.{Lit}
use Rattle.ct_terms.specs.declared.term.Core.TheVariants as core
use Rattle.ct_terms.specs.Literal.{opposite, literal_of}
use Rattle.ct_terms.specs.Clause.{Clause, opposites, with_value, literal_value}
use Rattle.ct_terms.specs.Terms.{Terms, Has}
use Rattle.ct_eval.specs.declared.interp.Interp.{Interp}
use Rattle.ct_eval.specs.Evaluation.{value_of}
use Rattle.ct_eval.specs.Truth.{truth_value, TrueIn}
use Rattle.ct_rules.specs.Rules.{truth_term}
use Rattle.ct_log.specs.declared.rules.Gate.{Gate}
use Rattle.ct_log.specs.declared.rules.Gate.TheVariants.{True, False, AndPos, AndNeg, OrPos, OrNeg, Iff1, Iff2, Iff3, Iff4, Ite1, Ite2, Ite3, Ite4, Then, Else}
use Rattle.ct_log.specs.Gates.{positive, negative, literals_of, IsGateClause}
use Rattle.ct_checker.proofs.Setting.{Setting, value_point}
use Rattle.ct_checker.proofs.ValueLemmas.{truth_of-truth}

-- a negation that is not true is of what is true
not_false : (b : Bool) → not b ≡ false → b ≡ true
not_false true e = refl
not_false false e = absurd (true≢false e)

-- what is not false is true
must : (b : Bool) → (b ≡ false → ⊥) → b ≡ true
must true h = refl
must false h = absurd (h refl)

-- nothing is both
not_both : (b : Bool) → b ≡ true → b ≡ false → ⊥
not_both b is is_not = true≢false (sym is ∙ is_not)

-- the opposite of a literal has the other value
opposite_value : (sign value : Bool) → with_value (not sign) value ≡ not (with_value sign value)
opposite_value true value = refl
opposite_value false true = refl
opposite_value false false = refl

neither : (a b : Bool) → (a || b) ≡ false → (a ≡ false) × (b ≡ false)
neither true b e = absurd (true≢false e)
neither false true e = absurd (true≢false e)
neither false false e = (refl, refl)

-- each part of a conjunction that is true is true, and of a disjunction that is false is false
module _ {X : Type 0} (p : X → Bool) where
  any_at : (xs : List X) (index : ℕ) (x : X) → list_any p xs ≡ false → slice_get xs index ≡ Some x → p x ≡ false
  any_at [] index x none at = absurd (none-some x at)
  any_at (y ∷ ys) zero x none at = ap p (sym (same_Some y x at)) ∙ (neither (p y) (list_any p ys) none).0
  any_at (y ∷ ys) (suc index) x none at = any_at ys index x (neither (p y) (list_any p ys) none).1 at

module _ (d : Declarations) (i : Interp) (terms : Terms) (setting : Setting d i terms) where
  -- the truth of terms and of literals
  abbrev true_in : TermId → Bool
  true_in = truth_value d i terms

  abbrev lit_value : Lit → Bool
  lit_value = literal_value (λ t. truth_value d i terms (record { 0 = t }))

  -- a clause is true where its first literal is, or else its rest is
  of_first : (l : Lit) (clause : Clause) → lit_value l ≡ true → TrueIn d i terms (l ∷ clause)
  of_first l clause e = (l, Contains-first l clause, e)

  of_rest : (l : Lit) (clause : Clause) → (lit_value l ≡ false → TrueIn d i terms clause) → TrueIn d i terms (l ∷ clause)
  of_rest l clause rest = by (lit_value l) refl
    where
      by : (b : Bool) → lit_value l ≡ b → TrueIn d i terms (l ∷ clause)
      by true e = of_first l clause e
      by false e = let found = rest e in (found.0, Contains-rest l clause found.0 found.1, found.2)

  of_two : (l k : Lit) → (lit_value l ≡ false → lit_value k ≡ true) → TrueIn d i terms (l ∷ (k ∷ []))
  of_two l k last = of_rest l (k ∷ []) (λ e. of_first k [] (last e))

  of_three : (l k m : Lit) → (lit_value l ≡ false → lit_value k ≡ false → lit_value m ≡ true) → TrueIn d i terms (l ∷ (k ∷ (m ∷ [])))
  of_three l k m last = of_rest l (k ∷ (m ∷ [])) (λ e. of_two k m (last e))

  -- the literal of a term has the term's truth, and its opposite the other
  read_literal : (t : TermId) (b : Bool) → lit_value (literal_of terms t) ≡ b → true_in t ≡ b
  read_literal t b e = setting.truths.literal t ∙ e

  pub literal_is : (t : TermId) (b : Bool) → true_in t ≡ b → lit_value (literal_of terms t) ≡ b
  literal_is t b e = sym (setting.truths.literal t) ∙ e

  opposite_literal : (t : TermId) → lit_value (opposite (literal_of terms t)) ≡ not (lit_value (literal_of terms t))
  opposite_literal t = opposite_value (literal_of terms t).positive (true_in (literal_of terms t).term)

  read_opposite : (t : TermId) → lit_value (opposite (literal_of terms t)) ≡ false → true_in t ≡ true
  read_opposite t e = read_literal t true (not_false _ (sym (opposite_literal t) ∙ e))

  opposite_is : (t : TermId) → true_in t ≡ false → lit_value (opposite (literal_of terms t)) ≡ true
  opposite_is t e = opposite_literal t ∙ ap not (literal_is t false e)

  -- a disjunction that is true has a true literal, and a conjunction that is false the opposite of one
  some_true : (args : List TermId) → list_any true_in args ≡ true → TrueIn d i terms (literals_of terms args)
  some_true [] e = absurd (true≢false (sym e))
  some_true (a ∷ args) e =
      of_rest (literal_of terms a) (literals_of terms args) (λ no_a. some_true args (sym (ap (λ (b : Bool). b || list_any true_in args) (read_literal a false no_a)) ∙ e))

  some_false : (args : List TermId) → list_all true_in args ≡ false → TrueIn d i terms (opposites (literals_of terms args))
  some_false [] e = absurd (true≢false e)
  some_false (a ∷ args) e =
      of_rest (opposite (literal_of terms a)) (opposites (literals_of terms args)) (λ no_a. some_false args (sym (ap (λ (b : Bool). b && list_all true_in args) (read_opposite a no_a)) ∙ e))

  -- the truth of a choice
  chosen_first : (t c a b : TermId) → Has terms (core.Ite c a b) t.0 → true_in c ≡ true → value_of d i terms t ≡ value_of d i terms a
  chosen_first t c a b stands e = setting.truths.choice t c a b stands ∙ ap (λ (q : Bool). if q then value_of d i terms a else value_of d i terms b) e

  chosen_second : (t c a b : TermId) → Has terms (core.Ite c a b) t.0 → true_in c ≡ false → value_of d i terms t ≡ value_of d i terms b
  chosen_second t c a b stands e = setting.truths.choice t c a b stands ∙ ap (λ (q : Bool). if q then value_of d i terms a else value_of d i terms b) e

  truth_by : (t a : TermId) → value_of d i terms t ≡ value_of d i terms a → true_in t ≡ true_in a
  truth_by t a e = ap (is_true i.graph) e

  equation_by : (t a e : TermId) → Has terms (core.Eq t a) e.0 → value_of d i terms t ≡ value_of d i terms a → true_in e ≡ true
  equation_by t a e stands one =
      (setting.truths.equality e t a stands).1 (subst (λ (w : Value). AgreeAlways (value_point d i terms t) (point i.graph w)) one (setting.same.itself (value_point d i terms t)))

  -- clauses of an equivalence
  module _ (t a b : TermId) (stands : Has terms (core.Iff a b) t.0) where
    same_sides : true_in t ≡ true → true_in a ≡ true_in b
    same_sides = (setting.truths.equivalence t a b stands).0

    other_sides : true_in t ≡ false → true_in a ≡ true_in b → ⊥
    other_sides no_t e = not_both (true_in t) ((setting.truths.equivalence t a b stands).1 e) no_t

    iff_1 : TrueIn d i terms (negative t ∷ (opposite (literal_of terms a) ∷ (literal_of terms b ∷ [])))
    iff_1 = of_three _ _ _ (λ no_t no_a. literal_is b true (sym (same_sides (not_false _ no_t)) ∙ read_opposite a no_a))

    iff_2 : TrueIn d i terms (negative t ∷ (literal_of terms a ∷ (opposite (literal_of terms b) ∷ [])))
    iff_2 = of_three _ _ _ (λ no_t no_a. opposite_is b (sym (same_sides (not_false _ no_t)) ∙ read_literal a false no_a))

    iff_3 : TrueIn d i terms (positive t ∷ (literal_of terms a ∷ (literal_of terms b ∷ [])))
    iff_3 = of_three _ _ _ (λ no_t no_a. literal_is b true (must _ (λ no_b. other_sides no_t (read_literal a false no_a ∙ sym no_b))))

    iff_4 : TrueIn d i terms (positive t ∷ (opposite (literal_of terms a) ∷ (opposite (literal_of terms b) ∷ [])))
    iff_4 = of_three _ _ _ (λ no_t no_a. opposite_is b (not_true _ (λ is_b. other_sides no_t (read_opposite a no_a ∙ sym is_b))))

  -- clauses of a choice
  module _ (t c a b : TermId) (stands : Has terms (core.Ite c a b) t.0) where
    ite_1 : TrueIn d i terms (negative t ∷ (opposite (literal_of terms c) ∷ (literal_of terms a ∷ [])))
    ite_1 = of_three _ _ _ (λ no_t no_c. literal_is a true (sym (truth_by t a (chosen_first t c a b stands (read_opposite c no_c))) ∙ not_false _ no_t))

    ite_2 : TrueIn d i terms (negative t ∷ (literal_of terms c ∷ (literal_of terms b ∷ [])))
    ite_2 = of_three _ _ _ (λ no_t no_c. literal_is b true (sym (truth_by t b (chosen_second t c a b stands (read_literal c false no_c))) ∙ not_false _ no_t))

    ite_3 : TrueIn d i terms (positive t ∷ (opposite (literal_of terms c) ∷ (opposite (literal_of terms a) ∷ [])))
    ite_3 = of_three _ _ _ (λ no_t no_c. opposite_is a (sym (truth_by t a (chosen_first t c a b stands (read_opposite c no_c))) ∙ no_t))

    ite_4 : TrueIn d i terms (positive t ∷ (literal_of terms c ∷ (opposite (literal_of terms b) ∷ [])))
    ite_4 = of_three _ _ _ (λ no_t no_c. opposite_is b (sym (truth_by t b (chosen_second t c a b stands (read_literal c false no_c))) ∙ no_t))

    then_true : (e : TermId) → Has terms (core.Eq t a) e.0 → TrueIn d i terms (opposite (literal_of terms c) ∷ (positive e ∷ []))
    then_true e equation = of_two _ _ (λ no_c. equation_by t a e equation (chosen_first t c a b stands (read_opposite c no_c)))

    else_true : (e : TermId) → Has terms (core.Eq t b) e.0 → TrueIn d i terms (literal_of terms c ∷ (positive e ∷ []))
    else_true e equation = of_two _ _ (λ no_c. equation_by t b e equation (chosen_second t c a b stands (read_literal c false no_c)))

  -- a clause under another name
  named : (clause other : Clause) → clause ≡ other → TrueIn d i terms other → TrueIn d i terms clause
  named clause other e holds = subst (TrueIn d i terms) (sym e) holds

  -- each gate's clause is true
  pub gate_sound : (gate : Gate) (t : TermId) (place : ℕ) (clause : Clause) → IsGateClause terms gate t place clause → TrueIn d i terms clause
  gate_sound True t place clause is = named clause _ is.2 (of_first (positive (truth_term true)) [] (truth_of-truth d i terms setting true))
  gate_sound False t place clause is = named clause _ is.2 (of_first (negative (truth_term false)) [] (ap not (truth_of-truth d i terms setting false)))
  gate_sound AndPos t place clause (args, a, stands, at, is) =
      named clause _ is (of_two (negative t) (literal_of terms a) (λ no_t. literal_is a true (list_all-at true_in args place a (sym (setting.truths.conjunction t args stands) ∙ not_false _ no_t) at)))
  gate_sound AndNeg t place clause (args, stands, no_place, is) =
      named clause _ is (of_rest (positive t) (opposites (literals_of terms args)) (λ no_t. some_false args (sym (setting.truths.conjunction t args stands) ∙ no_t)))
  gate_sound OrPos t place clause (args, stands, no_place, is) =
      named clause _ is (of_rest (negative t) (literals_of terms args) (λ no_t. some_true args (sym (setting.truths.disjunction t args stands) ∙ not_false _ no_t)))
  gate_sound OrNeg t place clause (args, a, stands, at, is) =
      named clause _ is (of_two (positive t) (opposite (literal_of terms a)) (λ no_t. opposite_is a (any_at true_in args place a (sym (setting.truths.disjunction t args stands) ∙ no_t) at)))
  gate_sound Iff1 t place clause (no_place, (a, b, stands, is)) = named clause _ is (iff_1 t a b stands)
  gate_sound Iff2 t place clause (no_place, (a, b, stands, is)) = named clause _ is (iff_2 t a b stands)
  gate_sound Iff3 t place clause (no_place, (a, b, stands, is)) = named clause _ is (iff_3 t a b stands)
  gate_sound Iff4 t place clause (no_place, (a, b, stands, is)) = named clause _ is (iff_4 t a b stands)
  gate_sound Ite1 t place clause (no_place, (c, a, b, stands, is)) = named clause _ is (ite_1 t c a b stands.0)
  gate_sound Ite2 t place clause (no_place, (c, a, b, stands, is)) = named clause _ is (ite_2 t c a b stands.0)
  gate_sound Ite3 t place clause (no_place, (c, a, b, stands, is)) = named clause _ is (ite_3 t c a b stands.0)
  gate_sound Ite4 t place clause (no_place, (c, a, b, stands, is)) = named clause _ is (ite_4 t c a b stands.0)
  gate_sound Then t place clause (c, a, b, e, stands, equation, no_place, is) = named clause _ is (then_true t c a b stands.0 e equation)
  gate_sound Else t place clause (c, a, b, e, stands, equation, no_place, is) = named clause _ is (else_true t c a b stands.0 e equation)
