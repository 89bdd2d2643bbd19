-- Every line that is accepted has a clause that is true, where the assertions and the clauses of the lines before it are.
use Rattle.std.proofs.Common.{◌≡◌, ℕ, zero, suc, ◌⊎◌, inl, inr, Bool, true, List, [], ◌∷◌, All, Contains, Some, slice_get, sym, ap, subst, ◌∙◌}
use Rattle.std.specs.List.{AllZip}
use Rattle.std.proofs.lemmas.List.Elements.{All-contains}
use Rattle.std.proofs.lemmas.Option.{none-some, same_Some}
use Rattle.ct_lemmas.proofs.Contained.{Contains-first, Contains-rest}
use Rattle.ct_lemmas.proofs.Each.{All-at}
use Rattle.ct_sorts.specs.declared.ids.CtorId.{CtorId}
use Rattle.ct_sorts.specs.declared.ids.Kind.{Kind}
use Rattle.ct_sorts.specs.declared.ids.Kind.TheVariants.{Free, Data, Codata}
use Rattle.ct_sorts.specs.Declarations.{Declarations, Sort}
use Rattle.ct_values.specs.TruthValue.{is_built}
use Rattle.ct_terms.specs.declared.ids.TermId.{TermId}
use Rattle.ct_terms.specs.Literal.{literal_of, IsStripped}
use Rattle.ct_terms.specs.Clause.{Clause, with_value}
use Rattle.ct_terms.specs.Propagation.{Rup}
use Rattle.ct_terms.specs.Terms.{Terms}
use Rattle.ct_eval.specs.declared.interp.Interp.{Interp}
use Rattle.ct_eval.specs.Evaluation.{value_of}
use Rattle.ct_eval.specs.Truth.{truth_value, Holds, TrueIn}
use Rattle.ct_log.specs.declared.line.Line.{Line}
use Rattle.ct_log.specs.declared.line.Step.{Step}
use Rattle.ct_log.specs.declared.line.Step.TheVariants.{Input, Gate, Exhaust, Theory, Learn}
use Rattle.ct_log.specs.Gates.{IsTestOf, IsExhaustion}
use Rattle.ct_log.specs.Acceptance.{Justifies, IsAccepted}
use Rattle.ct_checker.proofs.Setting.{Setting}
use Rattle.ct_checker.proofs.GateLemmas.{literal_is, gate_sound}
use Rattle.ct_checker.proofs.RefutationLemmas.{refutation_sound}

-- a datatype or codatatype is no uninterpreted sort
not_free : (kind : Kind) → (kind ≡ Data) ⊎ (kind ≡ Codata) → kind ≡ Free → ⊥
not_free kind (inl e) free = let h : Data ≡ Free = sym e ∙ free in cc
not_free kind (inr e) free = let h : Codata ≡ Free = sym e ∙ free in cc

module _ (d : Declarations) (i : Interp) (terms : Terms) (setting : Setting d i terms) where
  -- the literal of an assertion is true
  input_sound : (asserts : List TermId) (t : TermId) → Holds d i terms asserts → Contains asserts t → TrueIn d i terms (literal_of terms t ∷ [])
  input_sound asserts t holds inside =
      (literal_of terms t, Contains-first (literal_of terms t) [], literal_is d i terms setting t true (All-contains (λ (a : TermId). truth_value d i terms a ≡ true) asserts t holds inside))

  -- of the tests of a term by each constructor of a list, that by its own is true
  test_true : (t : TermId) (c : CtorId) → is_built i.graph c (value_of d i terms t) ≡ true → (clause : Clause) (ctors : List CtorId) (index : ℕ) → AllZip (IsTestOf terms t) clause ctors → slice_get ctors index ≡ Some c → TrueIn d i terms clause
  test_true t c built clause [] index tests at = absurd (none-some c at)
  test_true t c built [] (k ∷ ctors) index tests at = absurd tests
  test_true t c built (l ∷ clause) (k ∷ ctors) zero tests at =
      let holds : truth_value d i terms l.term ≡ true =
      setting.truths.test l.term t k tests.0.1 ∙ ap (λ (z : CtorId). is_built i.graph z (value_of d i terms t)) (same_Some k c at) ∙ built in
      (l, Contains-first l clause, ap (λ (sign : Bool). with_value sign (truth_value d i terms l.term)) tests.0.0 ∙ holds)
  test_true t c built (l ∷ clause) (k ∷ ctors) (suc index) tests at =
      let rest = test_true t c built clause ctors index tests.1 at in
      (rest.0, Contains-rest l clause rest.0 rest.1, rest.2)

  -- a term of a datatype or codatatype is built by one of the constructors of its sort
  exhaustion_sound : (t : TermId) (clause : Clause) → IsExhaustion d terms t clause → TrueIn d i terms clause
  exhaustion_sound t clause exhaust =
      let found = setting.values.constructed (value_of d i terms t) exhaust.id exhaust.sort (setting.table.sorted t exhaust.id exhaust.sorted) exhaust.declared (not_free exhaust.sort.kind exhaust.kind) in
      let own = setting.values.of_their_sorts found.0.0 found.1.ctor found.1.declared in
      let same : own.0 ≡ exhaust.sort = same_Some _ _ (sym own.2 ∙ ap (λ s. slice_get d.sorts s.0) found.1.of_sort ∙ exhaust.declared) in
      let built : is_built i.graph found.0 (value_of d i terms t) ≡ true = (setting.values.built (value_of d i terms t) found.0).1 found.1.headed in
      test_true t found.0 built clause exhaust.sort.ctors own.1 exhaust.tests (subst (λ (s : Sort). slice_get s.ctors own.1 ≡ Some found.0) same own.3)

  -- what follows from earlier clauses by hints is true
  learned_sound : (earlier : List Clause) (hints : List ℕ) (clause : Clause) → All (TrueIn d i terms) earlier → Rup earlier hints clause → TrueIn d i terms clause
  learned_sound earlier hints clause all rup =
      setting.truths.propagation earlier hints clause (λ t. truth_value d i terms (record { 0 = t })) rup
      (λ hint named inside numbered. All-at (TrueIn d i terms) earlier numbered.0 named all numbered.2)

  -- what a step justifies is true
  justified_sound : (asserts : List TermId) (earlier : List Clause) (step : Step) (clause : Clause) → All (λ l. IsStripped terms l.term) clause → Holds d i terms asserts → All (TrueIn d i terms) earlier → Justifies d terms asserts earlier step clause → TrueIn d i terms clause
  justified_sound asserts earlier (Input t) clause literals holds all why = subst (TrueIn d i terms) (sym why.1) (input_sound asserts t holds why.0)
  justified_sound asserts earlier (Gate gate t place) clause literals holds all why = gate_sound d i terms setting gate t place clause why
  justified_sound asserts earlier (Exhaust t) clause literals holds all why = exhaustion_sound t clause why
  justified_sound asserts earlier (Theory steps close) clause literals holds all why = refutation_sound d i terms setting clause steps close literals why
  justified_sound asserts earlier (Learn hints) clause literals holds all why = learned_sound earlier hints clause all why

  pub line_sound : (asserts : List TermId) (earlier : List Clause) (line : Line) → IsAccepted d terms asserts earlier line → Holds d i terms asserts → All (TrueIn d i terms) earlier → TrueIn d i terms line.clause
  line_sound asserts earlier line accepted holds all = justified_sound asserts earlier line.step line.clause accepted.literals holds all accepted.justified
