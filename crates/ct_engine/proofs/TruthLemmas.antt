-- The classes under literals that decide a closed table give each Boolean term the truth value of its parts, and each term that
-- is split a constructor.
use Rattle.std.proofs.Common.{◌≡◌, ℕ, zero, suc, ◌<◌, ◌⊎◌, inl, inr, Bool, true, false, List, [], ◌∷◌, length, Option, Some, None, option_map, unwrap_or, slice_get, All, Contains, refl, sym, ap, subst, ◌∙◌, arith}
use Rattle.std.specs.List.{AllZip}
use Rattle.std.proofs.lemmas.Option.{slice_get_within, same_Some}
use Rattle.std.proofs.lemmas.List.Elements.{All-contains}
use Rattle.ct_lemmas.proofs.Booleans.{not_twice}
use Rattle.ct_lemmas.proofs.Contained.{Contains-cons, Contains-first, Contains-from_slice_get, Contains-map_cases, Contains-none, Contains-rest, slice_get-from_Contains}
use Rattle.ct_lemmas.proofs.Numbers.{same_or_other}
use Rattle.ct_lemmas.proofs.Prefixes.{slice_get-take}
use Rattle.ct_sorts.specs.declared.ids.CtorId.{CtorId}
use Rattle.ct_sorts.specs.declared.ids.SortId.{SortId}
use Rattle.ct_sorts.specs.Declarations.{Declarations, Sort, bool_sort}
use Rattle.ct_terms.specs.declared.ids.TermId.{TermId}
use Rattle.ct_terms.specs.declared.ids.Lit.{Lit}
use Rattle.ct_terms.specs.declared.term.Core.{Core}
use Rattle.ct_terms.specs.declared.term.Core.TheVariants as core
use Rattle.ct_terms.specs.Literal.{opposite, literal_step, literal_below, literal_of, IsStripped}
use Rattle.ct_terms.specs.Clause.{Clause, opposites}
use Rattle.ct_terms.specs.Fields.{ctor_ids_of_sort}
use Rattle.ct_terms.specs.Terms.{Terms, Has, IsBoolean, IsOfSort, AreOrdered, AreSingle, AreSorted, BeginsWithTruths}
use Rattle.ct_rules.specs.declared.equation.Equation.{Equation}
use Rattle.ct_rules.specs.Rules.{Follows, by_negation, by_equation_out, truth_term}
use Rattle.ct_rules.specs.Derivation.{IsHypothesis}
use Rattle.ct_closure.specs.ClosedTable.{IsClosedTable, IsPresent, IsSplitTerm, HasCases}
use Rattle.ct_log.specs.declared.rules.Gate.{Gate}
use Rattle.ct_log.specs.declared.rules.Gate.TheVariants as gate
use Rattle.ct_log.specs.declared.line.Line.{Line}
use Rattle.ct_log.specs.declared.line.Step.TheVariants as step
use Rattle.ct_log.specs.Gates.{positive, negative, literals_of, IsGateClause, IsTestOf}
use Rattle.ct_congr.specs.State.{State, AreEqual}
use Rattle.ct_clauses.specs.Initial.{IsInitialLine}
use Rattle.ct_theory.specs.Entailment.{Entails, IsSaturation}
use Rattle.ct_build.specs.Assignment.{IsTrueTerm, IsFalseTerm, HaveOneTruth, HaveTwoTruths, AreDecided as GiveTruths}
use Rattle.ct_engine.specs.Saturated.{AreComplete, AreDecided}
use Rattle.ct_engine.specs.Theorems.{ClassTheorems, ClosureTheorems}
use Rattle.ct_engine.proofs.ValuedLemmas.{true_or_false}

-- what is known of the classes, the table and the literals
record Deciding (d : Declarations) (terms : Terms) (asserts : List TermId) (literals : List Lit) (state : State) : Type 0 where
  ordered : AreOrdered terms
  sorted : AreSorted d terms
  conditionals : (t c a b : TermId) (sort : SortId) → slice_get terms t.0 ≡ Some (core.Ite c a b, sort) → (sort ≡ bool_sort → ⊥)
      → IsPresent terms (core.Eq t a) × IsPresent terms (core.Eq t b)
  splits : (t : TermId) (sort : SortId) → IsSplitTerm d terms t sort → HasCases d terms t sort
  complete : AreComplete terms literals
  initial : (line : Line) → IsInitialLine d terms asserts line → (l : Lit) × Contains line.clause l × Contains literals l
  holds : (l : Lit) → Contains literals l → AreEqual state l.term (truth_term l.positive)
  follows : (x y : TermId) → Follows d terms (AreEqual state) x y → AreEqual state x y
  symmetric : (x y : TermId) → AreEqual state x y → AreEqual state y x
  transitive : (x y z : TermId) → AreEqual state x y → AreEqual state y z → AreEqual state x z
  apart : AreEqual state (truth_term true) (truth_term false) → ⊥

-- the term is a negation
abbrev IsNot : Core → Type 0
IsNot (core.Not a) = Unit {0}
IsNot c = ⊥

-- the literal is over a variable; where it is true the term is, and where its opposite is true the term is false
abbrev Tells : Terms → List Lit → State → TermId → Lit → Type 0
Tells terms literals state t l = IsStripped terms l.term × (Contains literals l → IsTrueTerm state t) × (Contains literals (opposite l) → IsFalseTerm state t)

-- `true` and `false` as terms of a table
abbrev truth_core : Bool → Core
truth_core true = core.Con (record { 0 = 0 }) []
truth_core false = core.Con (record { 0 = 1 }) []

opposite_twice : (l : Lit) → opposite (opposite l) ≡ l
opposite_twice l = ap (λ (b : Bool). (let k : Lit = record { term = l.term; positive = b } in k)) (not_twice l.positive)

-- some literal of a clause of two, or of three, is one of these
among_two : (literals : List Lit) (x y : Lit) → (l : Lit) × Contains (x ∷ (y ∷ [])) l × Contains literals l → Contains literals x ⊎ Contains literals y
among_two literals x y (l, inside, holds) =
    elim (Contains-cons x (y ∷ []) l inside) [
      | inl same ↦ inl (subst (Contains literals) (sym same) holds)
      | inr rest ↦ elim (Contains-cons y [] l rest) [
        | inl same ↦ inr (subst (Contains literals) (sym same) holds)
        | inr none ↦ absurd (Contains-none l none)
      ]
    ]

among_three : (literals : List Lit) (x y z : Lit) → (l : Lit) × Contains (x ∷ (y ∷ (z ∷ []))) l × Contains literals l → Contains literals x ⊎ (Contains literals y ⊎ Contains literals z)
among_three literals x y z (l, inside, holds) =
    elim (Contains-cons x (y ∷ (z ∷ [])) l inside) [
      | inl same ↦ inl (subst (Contains literals) (sym same) holds)
      | inr rest ↦ inr (among_two literals y z (l, rest, holds))
    ]

module _ (d : Declarations) (terms : Terms) (asserts : List TermId) (literals : List Lit) (state : State) (given : Deciding d terms asserts literals state) where
  -- no term is true and false, and terms of one truth value are equal
  not_both : (t : TermId) → IsTrueTerm state t → IsFalseTerm state t → ⊥
  not_both t holds fails =
      given.apart (given.transitive (truth_term true) t (truth_term false) (given.symmetric t (truth_term true) holds) fails)

  alike : (t u v : TermId) → AreEqual state t v → AreEqual state u v → AreEqual state t u
  alike t u v left right = given.transitive t v u left (given.symmetric u v right)

  -- a term that is no negation is its own literal
  plain : (t : TermId) (c : Core) → slice_get terms t.0 ≡ Some (c, bool_sort) → (IsNot c → ⊥) → Tells terms literals state t (positive t)
  plain t c at other = (
    ((c, at), λ a has. other (subst IsNot (ap (λ (e : Core × SortId). e.0) (same_Some (core.Not a, has.0) (c, bool_sort) (sym has.1 ∙ at))) tt)),
    given.holds (positive t),
    given.holds (negative t),
  )

  -- a negation has the opposite of the literal of the term under it
  negation : (n : ℕ) (t a : TermId) → slice_get terms t.0 ≡ Some (core.Not a, bool_sort) → Tells terms literals state a (literal_below n terms a) → Tells terms literals state t (opposite (literal_below n terms a))
  negation n t a at under = (
    under.0,
    λ h. given.follows t (truth_term true) (by_negation (record { argument = a; stands = (bool_sort, at); answer = inr (under.2 h, refl) })),
    λ h. given.follows t (truth_term false) (by_negation (record { argument = a; stands = (bool_sort, at); answer = inl (under.1 (subst (Contains literals) (opposite_twice (literal_below n terms a)) h), refl) })),
  )

  layer : (n : ℕ) → ((a : TermId) → a.0 < n → IsBoolean terms a → Tells terms literals state a (literal_below n terms a)) → (t : TermId) → t.0 < suc n → (c : Core) → slice_get terms t.0 ≡ Some (c, bool_sort) → Tells terms literals state t (literal_step (literal_below n terms) t (Some (c, bool_sort)))
  layer n below t within (core.Not a) at =
      let under : a.0 < t.0 = (given.ordered t.0 (core.Not a) (bool_sort, at)).0 in
      negation n t a at (below a (omega (arith, under, within)) (given.sorted t.0 (core.Not a) bool_sort at).0)
  layer n below t within (core.Con c args) at = plain t (core.Con c args) at (λ h. h)
  layer n below t within (core.Sel s a) at = plain t (core.Sel s a) at (λ h. h)
  layer n below t within (core.Test c a) at = plain t (core.Test c a) at (λ h. h)
  layer n below t within (core.Apply f args) at = plain t (core.Apply f args) at (λ h. h)
  layer n below t within (core.Eq a b) at = plain t (core.Eq a b) at (λ h. h)
  layer n below t within (core.And args) at = plain t (core.And args) at (λ h. h)
  layer n below t within (core.Or args) at = plain t (core.Or args) at (λ h. h)
  layer n below t within (core.Iff a b) at = plain t (core.Iff a b) at (λ h. h)
  layer n below t within (core.Ite c a b) at = plain t (core.Ite c a b) at (λ h. h)

  -- the literal of each Boolean term tells its truth value
  told_below : (n : ℕ) (t : TermId) → t.0 < n → IsBoolean terms t → Tells terms literals state t (literal_below n terms t)
  unfolding literal_below
  told_below zero t within boolean = absurd (omega (arith, within))
  told_below (suc n) t within (c, at) =
      subst (λ (o : Option (Core × SortId)). Tells terms literals state t (literal_step (literal_below n terms) t o)) (sym at)
      (layer n (λ a below boolean. told_below n a below boolean) t within c at)

  told : (t : TermId) → IsBoolean terms t → Tells terms literals state t (literal_of terms t)
  told t boolean = told_below (suc t.0) t (omega arith) boolean

  true_by : (t : TermId) → IsBoolean terms t → Contains literals (literal_of terms t) → IsTrueTerm state t
  true_by t boolean h = (told t boolean).1 h

  false_by : (t : TermId) → IsBoolean terms t → Contains literals (opposite (literal_of terms t)) → IsFalseTerm state t
  false_by t boolean h = (told t boolean).2 h

  truth : (t : TermId) → IsBoolean terms t → IsTrueTerm state t ⊎ IsFalseTerm state t
  truth t boolean =
      elim (true_or_false (Contains literals) (literal_of terms t) (given.complete.each (literal_of terms t).term (told t boolean).0)) [
        | inl h ↦ inl (true_by t boolean h)
        | inr h ↦ inr (false_by t boolean h)
      ]

  -- a term whose literal is true is Boolean
  boolean_by : (t : TermId) (o : Option (Core × SortId)) → slice_get terms t.0 ≡ o → Contains literals (literal_step (literal_below t.0 terms) t o) → IsBoolean terms t
  boolean_by t None at h = (given.complete.only (positive t) h).0
  boolean_by t (Some (core.Not a, s)) at h = (core.Not a, at ∙ ap (λ (q : SortId). Some (core.Not a, q)) (given.sorted t.0 (core.Not a) s at).1)
  boolean_by t (Some (core.Con c args, s)) at h = (given.complete.only (positive t) h).0
  boolean_by t (Some (core.Sel f a, s)) at h = (given.complete.only (positive t) h).0
  boolean_by t (Some (core.Test c a, s)) at h = (given.complete.only (positive t) h).0
  boolean_by t (Some (core.Apply f args, s)) at h = (given.complete.only (positive t) h).0
  boolean_by t (Some (core.Eq a b, s)) at h = (given.complete.only (positive t) h).0
  boolean_by t (Some (core.And args, s)) at h = (given.complete.only (positive t) h).0
  boolean_by t (Some (core.Or args, s)) at h = (given.complete.only (positive t) h).0
  boolean_by t (Some (core.Iff a b, s)) at h = (given.complete.only (positive t) h).0
  boolean_by t (Some (core.Ite c a b, s)) at h = (given.complete.only (positive t) h).0

  -- the literal of an assertion is true, and so the assertion is Boolean and true
  literal_of_assertion : (t : TermId) → Contains asserts t → Contains literals (literal_of terms t)
  literal_of_assertion t inside =
      let found = given.initial (record { clause = literal_of terms t ∷ []; step = step.Input t }) (record { initial = tt; justified = (inside, refl) }) in
      elim (Contains-cons (literal_of terms t) [] found.0 found.1) [
        | inl same ↦ subst (Contains literals) (sym same) found.2
        | inr none ↦ absurd (Contains-none found.0 none)
      ]

  assertion_boolean : (t : TermId) → Contains asserts t → IsBoolean terms t
  unfolding literal_below
  assertion_boolean t inside = boolean_by t (slice_get terms t.0) refl (literal_of_assertion t inside)

  assertion_true : (t : TermId) → Contains asserts t → IsTrueTerm state t
  assertion_true t inside = true_by t (assertion_boolean t inside) (literal_of_assertion t inside)

  -- each clause of a gate has a true literal
  of_gate : (g : Gate) (t : TermId) (k : ℕ) (clause : Clause) → IsGateClause terms g t k clause → (l : Lit) × Contains clause l × Contains literals l
  of_gate g t k clause is = given.initial (record { clause = clause; step = step.Gate g t k }) (record { initial = tt; justified = is })

  -- conjunctions
  conjuncts : (t : TermId) (args : List TermId) → Has terms (core.And args) t.0 → All (IsBoolean terms) args
  conjuncts t args stands = (given.sorted t.0 (core.And args) stands.0 stands.1).booleans

  conjunction_true : (t : TermId) (args : List TermId) → Has terms (core.And args) t.0 → All (IsTrueTerm state) args → IsTrueTerm state t
  conjunction_true t args stands all =
      let found = of_gate gate.AndNeg t 0 (positive t ∷ opposites (literals_of terms args)) (args, stands, refl, refl) in
      elim (Contains-cons (positive t) (opposites (literals_of terms args)) found.0 found.1) [
        | inl same ↦ given.holds (positive t) (subst (Contains literals) (sym same) found.2)
        | inr rest ↦ absurd (none found.0 rest found.2)
      ]
    where
      none : (l : Lit) → Contains (opposites (literals_of terms args)) l → Contains literals l → ⊥
      none l inside holds =
          let of = Contains-map_cases opposite (literals_of terms args) l inside in
          let arg = Contains-map_cases (literal_of terms) args of.0 of.1 in
          let is : opposite (literal_of terms arg.0) ≡ l = ap opposite arg.2 ∙ of.2 in
          not_both arg.0 (All-contains (IsTrueTerm state) args arg.0 all arg.1)
          (false_by arg.0 (All-contains (IsBoolean terms) args arg.0 (conjuncts t args stands) arg.1) (subst (Contains literals) (sym is) holds))

  conjunction_false : (t : TermId) (args : List TermId) → Has terms (core.And args) t.0 → (a : TermId) → Contains args a → IsFalseTerm state a → IsFalseTerm state t
  conjunction_false t args stands a inside fails =
      let at = slice_get-from_Contains args a inside in
      elim (among_two literals (negative t) (literal_of terms a) (of_gate gate.AndPos t at.0 (negative t ∷ (literal_of terms a ∷ [])) (args, a, stands, at.1, refl))) [
        | inl h ↦ given.holds (negative t) h
        | inr h ↦ absurd (not_both a (true_by a (All-contains (IsBoolean terms) args a (conjuncts t args stands) inside) h) fails)
      ]

  -- disjunctions
  disjuncts : (t : TermId) (args : List TermId) → Has terms (core.Or args) t.0 → All (IsBoolean terms) args
  disjuncts t args stands = (given.sorted t.0 (core.Or args) stands.0 stands.1).booleans

  disjunction_false : (t : TermId) (args : List TermId) → Has terms (core.Or args) t.0 → All (IsFalseTerm state) args → IsFalseTerm state t
  disjunction_false t args stands all =
      let found = of_gate gate.OrPos t 0 (negative t ∷ literals_of terms args) (args, stands, refl, refl) in
      elim (Contains-cons (negative t) (literals_of terms args) found.0 found.1) [
        | inl same ↦ given.holds (negative t) (subst (Contains literals) (sym same) found.2)
        | inr rest ↦ absurd (none found.0 rest found.2)
      ]
    where
      none : (l : Lit) → Contains (literals_of terms args) l → Contains literals l → ⊥
      none l inside holds =
          let arg = Contains-map_cases (literal_of terms) args l inside in
          not_both arg.0 (true_by arg.0 (All-contains (IsBoolean terms) args arg.0 (disjuncts t args stands) arg.1) (subst (Contains literals) (sym arg.2) holds))
          (All-contains (IsFalseTerm state) args arg.0 all arg.1)

  disjunction_true : (t : TermId) (args : List TermId) → Has terms (core.Or args) t.0 → (a : TermId) → Contains args a → IsTrueTerm state a → IsTrueTerm state t
  disjunction_true t args stands a inside holds =
      let at = slice_get-from_Contains args a inside in
      elim (among_two literals (positive t) (opposite (literal_of terms a)) (of_gate gate.OrNeg t at.0 (positive t ∷ (opposite (literal_of terms a) ∷ [])) (args, a, stands, at.1, refl))) [
        | inl h ↦ given.holds (positive t) h
        | inr h ↦ absurd (not_both a holds (false_by a (All-contains (IsBoolean terms) args a (disjuncts t args stands) inside) h))
      ]

  -- equivalences
  module _ (t a b : TermId) (stands : Has terms (core.Iff a b) t.0) where
    sides : IsBoolean terms a × IsBoolean terms b
    sides = let sorts = given.sorted t.0 (core.Iff a b) stands.0 stands.1 in (sorts.0, sorts.1)

    equivalence_true : HaveOneTruth state a b → IsTrueTerm state t
    equivalence_true (inl (left, right)) =
        elim (among_three literals (positive t) (opposite (literal_of terms a)) (opposite (literal_of terms b)) (of_gate gate.Iff4 t 0 (positive t ∷ (opposite (literal_of terms a) ∷ (opposite (literal_of terms b) ∷ []))) (refl, (a, b, stands, refl)))) [
          | inl h ↦ given.holds (positive t) h
          | inr (inl h) ↦ absurd (not_both a left (false_by a sides.0 h))
          | inr (inr h) ↦ absurd (not_both b right (false_by b sides.1 h))
        ]
    equivalence_true (inr (left, right)) =
        elim (among_three literals (positive t) (literal_of terms a) (literal_of terms b) (of_gate gate.Iff3 t 0 (positive t ∷ (literal_of terms a ∷ (literal_of terms b ∷ []))) (refl, (a, b, stands, refl)))) [
          | inl h ↦ given.holds (positive t) h
          | inr (inl h) ↦ absurd (not_both a (true_by a sides.0 h) left)
          | inr (inr h) ↦ absurd (not_both b (true_by b sides.1 h) right)
        ]

    equivalence_false : HaveTwoTruths state a b → IsFalseTerm state t
    equivalence_false (inl (left, right)) =
        elim (among_three literals (negative t) (opposite (literal_of terms a)) (literal_of terms b) (of_gate gate.Iff1 t 0 (negative t ∷ (opposite (literal_of terms a) ∷ (literal_of terms b ∷ []))) (refl, (a, b, stands, refl)))) [
          | inl h ↦ given.holds (negative t) h
          | inr (inl h) ↦ absurd (not_both a left (false_by a sides.0 h))
          | inr (inr h) ↦ absurd (not_both b (true_by b sides.1 h) right)
        ]
    equivalence_false (inr (left, right)) =
        elim (among_three literals (negative t) (literal_of terms a) (opposite (literal_of terms b)) (of_gate gate.Iff2 t 0 (negative t ∷ (literal_of terms a ∷ (opposite (literal_of terms b) ∷ []))) (refl, (a, b, stands, refl)))) [
          | inl h ↦ given.holds (negative t) h
          | inr (inl h) ↦ absurd (not_both a (true_by a sides.0 h) left)
          | inr (inr h) ↦ absurd (not_both b right (false_by b sides.1 h))
        ]

  -- choices that are formulas
  module _ (t c a b : TermId) (stands : Has terms (core.Ite c a b) t.0) (boolean : IsBoolean terms t) (condition : IsBoolean terms c) (left : IsBoolean terms a) (right : IsBoolean terms b) where
    formula_first : IsTrueTerm state c → AreEqual state t a
    formula_first holds = elim (truth a left) [
      | inl true_a ↦ elim (among_three literals (positive t) (opposite (literal_of terms c)) (opposite (literal_of terms a)) (of_gate gate.Ite3 t 0 (positive t ∷ (opposite (literal_of terms c) ∷ (opposite (literal_of terms a) ∷ []))) (refl, (c, a, b, (stands, boolean), refl)))) [
        | inl h ↦ alike t a (truth_term true) (given.holds (positive t) h) true_a
        | inr (inl h) ↦ absurd (not_both c holds (false_by c condition h))
        | inr (inr h) ↦ absurd (not_both a true_a (false_by a left h))
      ]
      | inr false_a ↦ elim (among_three literals (negative t) (opposite (literal_of terms c)) (literal_of terms a) (of_gate gate.Ite1 t 0 (negative t ∷ (opposite (literal_of terms c) ∷ (literal_of terms a ∷ []))) (refl, (c, a, b, (stands, boolean), refl)))) [
        | inl h ↦ alike t a (truth_term false) (given.holds (negative t) h) false_a
        | inr (inl h) ↦ absurd (not_both c holds (false_by c condition h))
        | inr (inr h) ↦ absurd (not_both a (true_by a left h) false_a)
      ]
    ]

    formula_second : IsFalseTerm state c → AreEqual state t b
    formula_second fails = elim (truth b right) [
      | inl true_b ↦ elim (among_three literals (positive t) (literal_of terms c) (opposite (literal_of terms b)) (of_gate gate.Ite4 t 0 (positive t ∷ (literal_of terms c ∷ (opposite (literal_of terms b) ∷ []))) (refl, (c, a, b, (stands, boolean), refl)))) [
        | inl h ↦ alike t b (truth_term true) (given.holds (positive t) h) true_b
        | inr (inl h) ↦ absurd (not_both c (true_by c condition h) fails)
        | inr (inr h) ↦ absurd (not_both b true_b (false_by b right h))
      ]
      | inr false_b ↦ elim (among_three literals (negative t) (literal_of terms c) (literal_of terms b) (of_gate gate.Ite2 t 0 (negative t ∷ (literal_of terms c ∷ (literal_of terms b ∷ []))) (refl, (c, a, b, (stands, boolean), refl)))) [
        | inl h ↦ alike t b (truth_term false) (given.holds (negative t) h) false_b
        | inr (inl h) ↦ absurd (not_both c (true_by c condition h) fails)
        | inr (inr h) ↦ absurd (not_both b (true_by b right h) false_b)
      ]
    ]

  -- other choices
  module _ (t c a b : TermId) (sort : SortId) (stands : slice_get terms t.0 ≡ Some (core.Ite c a b, sort)) (other : sort ≡ bool_sort → ⊥) (condition : IsBoolean terms c) where
    no_formula : IsBoolean terms t → ⊥
    no_formula (e, at) = other (ap (λ (p : Core × SortId). p.1) (same_Some (core.Ite c a b, sort) (e, bool_sort) (sym stands ∙ at)))

    other_first : IsTrueTerm state c → AreEqual state t a
    other_first holds =
        let present = (given.conditionals t c a b sort stands other).0 in
        let e : TermId = record { 0 = present.0 } in
        elim (among_two literals (opposite (literal_of terms c)) (positive e) (of_gate gate.Then t 0 (opposite (literal_of terms c) ∷ (positive e ∷ [])) (c, a, b, e, ((sort, stands), no_formula), present.1, refl, refl))) [
          | inl h ↦ absurd (not_both c holds (false_by c condition h))
          | inr h ↦ given.follows t a (by_equation_out (record { term = e; stands = present.1; holds = given.holds (positive e) h }))
        ]

    other_second : IsFalseTerm state c → AreEqual state t b
    other_second fails =
        let present = (given.conditionals t c a b sort stands other).1 in
        let e : TermId = record { 0 = present.0 } in
        elim (among_two literals (literal_of terms c) (positive e) (of_gate gate.Else t 0 (literal_of terms c ∷ (positive e ∷ [])) (c, a, b, e, ((sort, stands), no_formula), present.1, refl, refl))) [
          | inl h ↦ absurd (not_both c (true_by c condition h) fails)
          | inr h ↦ given.follows t b (by_equation_out (record { term = e; stands = present.1; holds = given.holds (positive e) h }))
        ]

  choice : (t c a b : TermId) → Has terms (core.Ite c a b) t.0 → (IsTrueTerm state c → AreEqual state t a) × (IsFalseTerm state c → AreEqual state t b)
  choice t c a b (sort, stands) =
      let sorts = given.sorted t.0 (core.Ite c a b) sort stands in
      elim (same_or_other sort.0 bool_sort.0) [
        | inl same ↦ of_formula sort (ap (λ (n : ℕ). (let id : SortId = record { 0 = n } in id)) same) stands sorts.0 sorts.1 sorts.2
        | inr other ↦ (
          other_first t c a b sort stands (λ is. other (ap (λ (id : SortId). id.0) is)) sorts.0,
          other_second t c a b sort stands (λ is. other (ap (λ (id : SortId). id.0) is)) sorts.0,
        )
      ]
    where
      of_formula : (s : SortId) → s ≡ bool_sort → slice_get terms t.0 ≡ Some (core.Ite c a b, s) → IsBoolean terms c → IsOfSort terms a s → IsOfSort terms b s → (IsTrueTerm state c → AreEqual state t a) × (IsFalseTerm state c → AreEqual state t b)
      of_formula s same at condition left right =
          let boolean : IsBoolean terms t = subst (IsOfSort terms t) same (core.Ite c a b, at) in
          let left_boolean : IsBoolean terms a = subst (IsOfSort terms a) same left in
          let right_boolean : IsBoolean terms b = subst (IsOfSort terms b) same right in (
            formula_first t c a b (s, at) boolean condition left_boolean right_boolean,
            formula_second t c a b (s, at) boolean condition left_boolean right_boolean,
          )

  -- the tests of a term on these constructors
  tests_of : (t : TermId) (ctors : List CtorId) → ((c : CtorId) → Contains ctors c → IsPresent terms (core.Test c t)) → (clause : Clause) × AllZip (IsTestOf terms t) clause ctors × ((l : Lit) → Contains clause l → (c : CtorId) × (l.positive ≡ true) × Has terms (core.Test c t) l.term.0)
  tests_of t [] each = ([], tt, λ l h. absurd (Contains-none l h))
  tests_of t (c ∷ ctors) each =
      let here = each c (Contains-first c ctors) in
      let test : TermId = record { 0 = here.0 } in
      let rest = tests_of t ctors (λ k h. each k (Contains-rest c ctors k h)) in (
        positive test ∷ rest.0,
        ((refl, here.1), rest.1),
        λ l h. elim (Contains-cons (positive test) rest.0 l h) [
          | inl same ↦ subst (λ (k : Lit). (e : CtorId) × (k.positive ≡ true) × Has terms (core.Test e t) k.term.0) same (c, refl, here.1)
          | inr later ↦ rest.2 l later
        ],
      )

  -- some test of a term that is split is true
  tested : (t : TermId) (sort : SortId) → IsSplitTerm d terms t sort → (c : CtorId) × (test : TermId) × Has terms (core.Test c t) test.0 × IsTrueTerm state test
  tested t sort split =
      let structured = split.unsettled.structured in
      let cases = given.splits t sort split in
      let listed : ctor_ids_of_sort d sort ≡ structured.0.ctors = ap (λ (o : Option Sort). unwrap_or (option_map (λ (x : Sort). x.ctors) o) []) structured.1 in
      let tests = tests_of t structured.0.ctors (λ c inside. (cases c (subst (λ (cs : List CtorId). Contains cs c) (sym listed) inside)).tested) in
      let found = given.initial (record { clause = tests.0; step = step.Exhaust t }) (record {
        initial = (sort, split);
        justified = record {
          id = sort;
          sort = structured.0;
          sorted = (split.unsettled.core, split.unsettled.stands);
          declared = structured.1;
          kind = structured.2;
          tests = tests.1;
        };
      }) in
      let of = tests.2 found.0 found.1 in
      (of.0, found.0.term, of.2, subst (λ (b : Bool). AreEqual state found.0.term (truth_term b)) of.1 (given.holds found.0 found.2))

-- literals that decide a closed table, and classes that are exactly what they entail
module _ (classes : ClassTheorems) (closures : ClosureTheorems) (d : Declarations) (terms : Terms) (asserts : List TermId) (literals : List Lit) (state : State) (order : List TermId) (ordered : AreOrdered terms) (single : AreSingle terms) (begins : BeginsWithTruths terms) (sorted : AreSorted d terms) (closed : IsClosedTable d terms) (decided : AreDecided d terms asserts literals) (saturation : IsSaturation d terms literals state order) where
  -- `true` and `false` stand first
  truth_stands : (b : Bool) → slice_get terms (truth_term b).0 ≡ Some (truth_core b, bool_sort)
  truth_stands true = slice_get-take 2 terms 0 (core.Con (record { 0 = 0 }) [], bool_sort) (ap (λ (ts : Terms). slice_get ts 0) begins)
  truth_stands false = slice_get-take 2 terms 1 (core.Con (record { 0 = 1 }) [], bool_sort) (ap (λ (ts : Terms). slice_get ts 1) begins)

  truth_within : (b : Bool) → (truth_term b).0 < length terms
  truth_within b = slice_get_within terms (truth_term b).0 (truth_core b, bool_sort) (truth_stands b)

  -- a literal entails what it states
  literal_within : (l : Lit) → Contains literals l → l.term.0 < length terms
  literal_within l h = let variable = decided.complete.only l h in slice_get_within terms l.term.0 (variable.0.0, bool_sort) variable.0.1

  stated : (l : Lit) → Contains literals l → Entails d terms literals l.term (truth_term l.positive)
  stated l h =
      let e : Equation = record { left = l.term; right = truth_term l.positive } in
      record {
        equations = e ∷ [];
        entailed = record {
          inside = λ f k. elim (Contains-cons e [] f k) [
            | inl same ↦ subst (λ (g : Equation). (g.left.0 < length terms) × (g.right.0 < length terms)) same (literal_within l h, truth_within l.positive)
            | inr none ↦ absurd (Contains-none f none)
          ];
          each = λ index f at. elim (Contains-cons e [] f (Contains-from_slice_get (e ∷ []) index f at)) [
            | inl same ↦ inl (subst (λ (g : Equation). IsHypothesis literals g.left g.right) same (l, h, (refl, refl)))
            | inr none ↦ absurd (Contains-none f none)
          ];
        };
        stands = Contains-first e [];
      }

  -- `true` and `false` are of two classes
  truths_apart : AreEqual state (truth_term true) (truth_term false) → ⊥
  truths_apart equal =
      saturation.quiet.one (truth_term true) (truth_term false) (record {
        first = record { 0 = 0 };
        second = record { 0 = 1 };
        xs = [];
        ys = [];
        left = subst (λ (ts : Terms). Has ts (core.Con (record { 0 = 0 }) []) 0) (sym saturation.terms_are) (bool_sort, truth_stands true);
        right = subst (λ (ts : Terms). Has ts (core.Con (record { 0 = 1 }) []) 1) (sym saturation.terms_are) (bool_sort, truth_stands false);
        apart = λ same. let e : zero ≡ suc zero = ap (λ (c : CtorId). c.0) same in absurd (omega (arith, e));
        equal = equal;
      })

  deciding : Deciding d terms asserts literals state
  deciding = record {
    ordered = ordered;
    sorted = sorted;
    conditionals = λ t c a b sort. closures.conditionals d terms t c a b sort ordered single sorted closed;
    splits = λ t sort. closures.splits d terms t sort ordered single sorted closed;
    complete = decided.complete;
    initial = decided.initial;
    holds = λ l h. (saturation.exact l.term (truth_term l.positive) (literal_within l h) (truth_within l.positive)).1 (stated l h);
    follows = λ x y h. saturation.quiet.closed.closed x y
        (subst (λ (ts : Terms). Follows state.declarations ts (AreEqual state) x y) (sym saturation.terms_are)
        (subst (λ (e : Declarations). Follows e terms (AreEqual state) x y) (sym saturation.declarations) h));
    symmetric = classes.symmetric state;
    transitive = classes.transitive state;
    apart = truths_apart;
  }

  -- the classes give each Boolean term a truth value, and each term that is split a constructor
  pub GiveTruths-saturated : GiveTruths state
  GiveTruths-saturated =
      let given : Deciding state.declarations state.terms asserts literals state =
      subst (λ (ts : Terms). Deciding state.declarations ts asserts literals state) (sym saturation.terms_are)
      (subst (λ (e : Declarations). Deciding e terms asserts literals state) (sym saturation.declarations) deciding) in
      record {
        booleans = truth state.declarations state.terms asserts literals state given;
        conjunctions = λ t args stands. (conjunction_true state.declarations state.terms asserts literals state given t args stands, conjunction_false state.declarations state.terms asserts literals state given t args stands);
        disjunctions = λ t args stands. (disjunction_false state.declarations state.terms asserts literals state given t args stands, disjunction_true state.declarations state.terms asserts literals state given t args stands);
        equivalences = λ t a b stands. (equivalence_true state.declarations state.terms asserts literals state given t a b stands, equivalence_false state.declarations state.terms asserts literals state given t a b stands);
        choices = choice state.declarations state.terms asserts literals state given;
        splits = λ t sort split.
            let found = tested state.declarations state.terms asserts literals state given t sort split in
            record { ctor = found.0; test = found.1; stands = found.2; holds = found.3 };
      }

  -- each assertion is Boolean, and in the class of `true`
  pub boolean_assertion : (t : TermId) → Contains asserts t → IsBoolean terms t
  boolean_assertion = assertion_boolean d terms asserts literals state deciding

  pub true_assertion : (t : TermId) → Contains asserts t → IsTrueTerm state t
  true_assertion = assertion_true d terms asserts literals state deciding
