-- What one turn keeps, and what it comes to.
use Rattle.std.proofs.Common.{◌≡◌, ℕ, ◌<◌, ◌≤◌, Bool, true, false, List, [], ◌∷◌, ◌++◌, length, refl, sym, ap, subst, ◌∙◌, inl, inr, arith}
use Rattle.std.specs.List.{Contains}
use Rattle.std.proofs.lemmas.Option.{slice_get_within}
use Rattle.std.proofs.lemmas.List.Elements.{Contains-push_cases}
use Rattle.ct_sorts.specs.Declarations.{Declarations}
use Rattle.ct_terms.specs.declared.ids.TermId.{TermId}
use Rattle.ct_terms.specs.declared.ids.Lit.{Lit}
use Rattle.ct_terms.specs.Clause.{Clause}
use Rattle.ct_terms.specs.Terms.{Terms}
use Rattle.ct_rules.specs.declared.equation.Equation.{Equation}
use Rattle.ct_rules.specs.Derivation.{IsHypothesis}
use Rattle.ct_rules.specs.Uniqueness.{AreAllMatched}
use Rattle.ct_rules.specs.Cycle.{IsCycle}
use Rattle.ct_log.specs.declared.rules.EqStep.{EqStep}
use Rattle.ct_log.specs.declared.rules.Close.{Close}
use Rattle.ct_congr.specs.declared.merge.Merge.{Merge}
use Rattle.ct_congr.specs.Merges.{AreConnected}
use Rattle.ct_congr.specs.State.{State, AreEqual, Continues, IsConstructorTerm, IsQuiet}
use Rattle.ct_acyclic.specs.Order.{IsClassOrder}
use Rattle.ct_unique.specs.Found.{missing_pairs}
use Rattle.ct_unique.specs.Partition.{IsStronglyExtensional}
use Rattle.ct_theory.specs.Entailment.{Entails, IsSaturation, IsConflictOf}
use Rattle.ct_theory.specs.Consulting.{IsUnderWay, in_one_class, unequal}
use Rattle.ct_theory.proofs.FollowsLemmas.{IsUniqueness-wider}
use Rattle.ct_theory.proofs.EntailmentLemmas.{Entails-follows}
use Rattle.ct_theory.proofs.BisimulationLemmas.{in_one_class-from, in_one_class-to, InOneClass-left}
use Rattle.ct_theory.proofs.SaturationLemmas.{AreEqual-entailed, Entails-equal}
use Rattle.ct_theory.proofs.CountLemmas.{missing_pairs-falls, missing_pairs-less}

-- ---- the number of pairs of two classes

module _ (old new : State) (terms_are : new.terms ≡ old.terms) (keeps : (x y : TermId) → AreEqual old x y → AreEqual new x y) where
  more : (l r : ℕ) → in_one_class old.reps l r ≡ true → in_one_class new.reps l r ≡ true
  more l r h = in_one_class-from new.reps (record { 0 = l }) (record { 0 = r }) (keeps (record { 0 = l }) (record { 0 = r }) (in_one_class-to old.reps (record { 0 = l }) (record { 0 = r }) h))

  pub unequal-falls : unequal new ≤ unequal old
  unfolding unequal
  unequal-falls =
      let n = length old.terms in
      subst (λ k. missing_pairs (in_one_class new.reps) k k ≤ missing_pairs (in_one_class old.reps) n n) (sym (ap length terms_are))
      (missing_pairs-falls (in_one_class old.reps) (in_one_class new.reps) more n n)

  apart_false : (a b : TermId) (value : Bool) → in_one_class old.reps a.0 b.0 ≡ value → (AreEqual old a b → ⊥) → value ≡ false
  apart_false a b true is apart = absurd (apart (in_one_class-to old.reps a b is))
  apart_false a b false is apart = refl

  pub unequal-less : (a b : TermId) → a.0 < length old.terms → b.0 < length old.terms → (AreEqual old a b → ⊥) → AreEqual new a b → unequal new < unequal old
  unfolding unequal
  unequal-less a b in_a in_b apart equal =
      let n = length old.terms in
      subst (λ k. missing_pairs (in_one_class new.reps) k k < missing_pairs (in_one_class old.reps) n n) (sym (ap length terms_are))
      (missing_pairs-less (in_one_class old.reps) (in_one_class new.reps) more n n a.0 b.0 in_a in_b (apart_false a b (in_one_class old.reps a.0 b.0) refl apart) (in_one_class-from new.reps a b equal))

-- ---- more merges

-- terms of one class stay so where merges are added
pub AreEqual-stays : (old new : State) (further : List Merge)
    → ((x y : TermId) → AreEqual old x y → AreConnected old.merges x y)
    → ((x y : TermId) → x.0 < length new.terms → AreConnected new.merges x y → AreEqual new x y)
    → ((merges added : List Merge) (x y : TermId) → AreConnected merges x y → AreConnected (merges ++ added) x y)
    → length old.reps ≡ length old.terms → new.terms ≡ old.terms → new.merges ≡ old.merges ++ further
    → (x y : TermId) → AreEqual old x y → AreEqual new x y
AreEqual-stays old new further connected equal grow long terms_are grown x y h =
    let inside = InOneClass-left old.reps x y h in
    let within : x.0 < length new.terms = omega (arith, inside, long, ap length terms_are) in
    equal x y within (subst (λ (ms : List Merge). AreConnected ms x y) (sym grown) (grow old.merges further x y (connected x y h)))

-- ---- what is under way

module _ (d : Declarations) (terms : Terms) (literals : List Lit) (state : State) (under : IsUnderWay d terms literals state) where
  -- what holds of the classes' own declarations, terms and hypotheses, and back
  carry : (P : Declarations → Terms → List Lit → Type 0) → P state.declarations state.terms state.hypotheses → P d terms literals
  carry P p = subst (P d terms) under.hypotheses (subst (λ (t : Terms). P d t state.hypotheses) under.terms_are (subst (λ (q : Declarations). P q state.terms state.hypotheses) under.declarations p))

  carry_back : (P : Declarations → Terms → List Lit → Type 0) → P d terms literals → P state.declarations state.terms state.hypotheses
  carry_back P p = subst (λ (q : Declarations). P q state.terms state.hypotheses) (sym under.declarations) (subst (λ (t : Terms). P d t state.hypotheses) (sym under.terms_are) (subst (P d terms) (sym under.hypotheses) p))

  given_entailed : (e : Equation) → Contains state.given e → Entails state.declarations state.terms state.hypotheses e.left e.right
  given_entailed e h = carry_back (λ q t h. Entails q t h e.left e.right) (under.given e h)

  -- a conflict of the classes is one of the literals
  pub IsConflictOf-under : (clause : Clause) (steps : List EqStep) (close : Close) → IsConflictOf state.declarations state.terms state.hypotheses clause steps close → IsConflictOf d terms literals clause steps close
  IsConflictOf-under clause steps close = carry (λ q t h. IsConflictOf q t h clause steps close)

  -- closing keeps it
  pub IsUnderWay-continues : (new : State) → Continues new state → new.given ≡ state.given → IsUnderWay d terms literals new
  IsUnderWay-continues new later same = record {
    declarations = later.declarations ∙ under.declarations;
    terms_are = later.terms ∙ under.terms_are;
    hypotheses = later.hypotheses ∙ under.hypotheses;
    given = λ e h. under.given e (subst (λ (es : List Equation). Contains es e) same h);
  }

  module _ (quiet : IsQuiet state) (long : length state.reps ≡ length state.terms) (states : (x y : TermId) → IsHypothesis state.hypotheses x y → AreEqual state x y) where
    -- classes of which no two are bisimilar have all that is entailed
    pub IsSaturation-of : (order : List TermId) → ((hops : List (TermId × ℕ)) → IsCycle state.declarations state.terms (AreEqual state) hops → ⊥) → IsClassOrder state order → IsStronglyExtensional state → IsSaturation d terms literals state order
    IsSaturation-of order acyclic ordered extensional = record {
      declarations = under.declarations;
      terms_are = under.terms_are;
      hypotheses = under.hypotheses;
      quiet = quiet;
      exact = λ x y in_x in_y. (
        λ h. carry (λ q t hyps. Entails q t hyps x y) (Entails-equal state quiet long states given_entailed x y h),
        λ h. AreEqual-entailed state quiet long states extensional x y (carry_back (λ q t hyps. Entails q t hyps x y) h),
      );
      acyclic = λ hops cycle. acyclic hops (carry_back (λ q t hyps. IsCycle q t (AreEqual state) hops) cycle);
      ordered = ordered;
      extensional = extensional;
    }

    -- two terms that are bisimilar by pairs are entailed to be equal
    unique_entailed : (pairs : List Equation) (a b : TermId) → IsConstructorTerm state.terms a → IsConstructorTerm state.terms b → Contains pairs (record { left = a; right = b }) → AreAllMatched state.terms (AreEqual state) pairs → Entails state.declarations state.terms state.hypotheses a b
    unique_entailed pairs a b con_a con_b listed matched =
        Entails-follows state.declarations state.terms state.hypotheses a b (slice_get_within state.terms a.0 _ con_a.2.1) (slice_get_within state.terms b.0 _ con_b.2.1)
        (inr (IsUniqueness-wider state.declarations state.terms (AreEqual state) (Entails state.declarations state.terms state.hypotheses) (Entails-equal state quiet long states given_entailed) a b
        (record { pairs = pairs; listed = listed; matched = matched })))

    -- making their classes one keeps it
    pub IsUnderWay-merged : (new : State) (pairs : List Equation) (a b : TermId) → new.declarations ≡ state.declarations → new.terms ≡ state.terms → new.hypotheses ≡ state.hypotheses → new.given ≡ state.given ++ (record { left = a; right = b }) ∷ [] → IsConstructorTerm state.terms a → IsConstructorTerm state.terms b → Contains pairs (record { left = a; right = b }) → AreAllMatched state.terms (AreEqual state) pairs → IsUnderWay d terms literals new
    IsUnderWay-merged new pairs a b declarations terms_are hypotheses given con_a con_b listed matched = record {
      declarations = declarations ∙ under.declarations;
      terms_are = terms_are ∙ under.terms_are;
      hypotheses = hypotheses ∙ under.hypotheses;
      given = all;
    }
      where
        all : (e : Equation) → Contains new.given e → Entails d terms literals e.left e.right
        all e h = elim (Contains-push_cases state.given (record { left = a; right = b }) e (subst (λ (es : List Equation). Contains es e) given h)) [
          | inl before ↦ under.given e before
          | inr here ↦ subst (λ (f : Equation). Entails d terms literals f.left f.right) here (carry (λ q t hyps. Entails q t hyps a b) (unique_entailed pairs a b con_a con_b listed matched))
        ]
