use Rattle.ct_sorts.specs.Declarations.{Declarations}
use Rattle.ct_sorts.specs.Consistent.{IsConsistent}
use Rattle.ct_values.specs.Graph.{IsClosed}
use Rattle.ct_terms.specs.Terms.{Terms, AreOrdered, AreSorted, BeginsWithTruths}
use Rattle.ct_eval.specs.declared.interp.Interp.{Interp}
use Rattle.ct_eval.specs.Evaluation.{value_of}
use Rattle.ct_eval.specs.Interpretation.{IsProper}
use Rattle.ct_checker.proofs.Setting.{Sameness, ValueFacts, TermFacts, TruthFacts, Setting}
use Rattle.ct_checker.proofs.LineLemmas.{line_sound}
use Rattle.ct_checker.proofs.RecordLemmas.{no_model}
use Rattle.ct_checker.proofs.theorems.accepted_lines.Goals as goal

-- what the calls give
sameness : goal.After-constructor_terms → Sameness
sameness c = record {
  start = c.agreement.ensures.start;
  step = c.agreement.ensures.step;
  equivalence = c.agreement.ensures.equivalence;
  itself = c.agreement.ensures.itself;
  turned = c.agreement.ensures.turned;
  chained = c.agreement.ensures.chained;
  always = c.agreement.ensures.always;
}

values : goal.After-constructor_terms → (d : Declarations) (i : Interp) → IsConsistent d → IsProper d i → ValueFacts d i
values c d i consistent proper = record {
  of_their_sorts = c.structure.ensures.of_their_sorts d consistent;
  own_selectors = c.structure.ensures.own_selectors d consistent;
  built = c.well_sorted_values.ensures.built i.graph;
  constructor = λ v s k. c.well_sorted_values.ensures.constructor d i.graph v s k proper.graph.fits;
  constructed = λ v s sort. c.well_sorted_values.ensures.constructed d i.graph v s sort proper.graph.fits;
  single = λ v w s. c.single_sorts.ensures.same d i.graph i.graph v w s consistent proper.graph.fits proper.graph.fits;
  no_cycle = λ v chain last. c.finite_values.ensures.no_cycle d i.graph v chain last proper.graph;
}

module _ (d : Declarations) (i : Interp) (terms : Terms) (consistent : IsConsistent d) (proper : IsProper d i) (ordered : AreOrdered terms) (begins : BeginsWithTruths terms) (sorts : AreSorted d terms) where
  closed : goal.After-constructor_terms → IsClosed i.graph
  closed c = c.fitting_graphs.ensures.closed d i.graph proper.graph.fits

  table : goal.After-constructor_terms → TermFacts d i terms
  table c = record {
    begins = begins;
    sorts = sorts;
    sorted = λ t sort. c.evaluation.ensures.sorted d i terms t sort consistent proper ordered sorts;
    boolean = λ t. c.evaluation.ensures.boolean d i terms t consistent proper ordered sorts;
    congruent = λ t u left right at_t at_u. c.congruence.ensures.terms d i terms t u left right at_t.0 at_u.0 (closed c) ordered at_t.1 at_u.1;
    one_truth = c.congruence.ensures.truth d i terms;
    one_answer = λ k t u. c.congruence.ensures.test i.graph i.graph k (value_of d i terms t) (value_of d i terms u);
    ctor_head = λ t k args at. c.constructor_terms.ensures.head d i terms t k args at.0 ordered at.1;
    ctor_children = λ t k args at. c.constructor_terms.ensures.children d i terms t k args at.0 ordered at.1;
    selected = λ t a s selector at. c.constructor_terms.ensures.selected d i terms t a s selector at.0 consistent proper ordered sorts at.1;
  }

  truths : goal.After-constructor_terms → TruthFacts d i terms
  truths c = record {
    literal = λ t. c.evaluation.ensures.literals d i terms t ordered;
    test = λ t a k at. c.truth_values.ensures.test d i terms t a k at.0 ordered at.1;
    equality = λ t a b at. c.truth_values.ensures.equality d i terms t a b at.0 (closed c) ordered at.1;
    negation = λ t a at. c.truth_values.ensures.negation d i terms t a at.0 ordered at.1;
    conjunction = λ t args at. c.truth_values.ensures.conjunction d i terms t args at.0 ordered at.1;
    disjunction = λ t args at. c.truth_values.ensures.disjunction d i terms t args at.0 ordered at.1;
    equivalence = λ t a b at. c.truth_values.ensures.equivalence d i terms t a b at.0 ordered at.1;
    choice = λ t k a b at. c.truth_values.ensures.choice d i terms t k a b at.0 ordered at.1;
    propagation = c.propagation_is_sound.ensures.sound;
  }

  setting : goal.After-constructor_terms → Setting d i terms
  setting c = record { same = sameness c; values = values c d i consistent proper; table = table c; truths = truths c }

pub returns-clause-line : goal.returns-clause-line
returns-clause-line c = λ d i terms asserts earlier next consistent proper ordered begins sorts accepted holds all.
    line_sound d i terms (setting d i terms consistent proper ordered begins sorts c) asserts earlier next accepted holds all

pub returns-clause-no_model : goal.returns-clause-no_model
returns-clause-no_model c = λ d i terms asserts lines consistent proper ordered begins sorts passes holds.
    no_model d i terms (setting d i terms consistent proper ordered begins sorts c) asserts lines holds passes
