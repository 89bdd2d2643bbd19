use Rattle.std.proofs.Common.{◌≡◌, [], sym, ap, subst, ◌∙◌}
use Rattle.ct_sorts.specs.Declarations.{Declarations, bool_sort}
use Rattle.ct_sorts.specs.Consistent.{IsConsistent}
use Rattle.ct_values.specs.TruthValue.{is_true}
use Rattle.ct_terms.specs.CoreTree.{no_term, term_at}
use Rattle.ct_formulas.specs.Formula.{MentionsBelow}
use Rattle.ct_formulas.specs.FormulaSorts.{IsSorted}
use Rattle.ct_formulas.specs.Calls.{calls_below}
use Rattle.ct_formulas.specs.Compiled.{compiled, core_of}
use Rattle.ct_eval.specs.declared.interp.Interp.{Interp}
use Rattle.ct_eval.specs.Interpretation.{IsProper}
use Rattle.ct_eval.specs.TreeValue.{tree_value}
use Rattle.ct_meaning.specs.Meaning.{eval}
use Rattle.ct_eval.specs.Truth.{truth_value}
use Rattle.ct_eval.proofs.TruthLemmas.{all_pass}
use Rattle.ct_eval.proofs.ValueLemmas.{SortTheorems}
use Rattle.ct_meaning.proofs.FactLemmas.{facts_of}
use Rattle.ct_meaning.proofs.MeaningSorted.{eval_sorted}
use Rattle.ct_meaning.proofs.MeaningAgrees.{eval_agrees}
use Rattle.ct_meaning.proofs.MeaningReach.{eval_reaches}
use Rattle.ct_meaning.proofs.CompiledMeaning.{core_of_means}
use Rattle.ct_meaning.proofs.MeaningFacts.{Facts, true_agrees}
use Rattle.ct_meaning.proofs.TreeSortLemmas.{tree_value-sorted, tree_value-lasting}
use Rattle.ct_eval.proofs.TreeValueLemmas.{value_of-tree}
use Rattle.ct_meaning.proofs.QuantifierMeaning.{for_all, for_some}
use Rattle.ct_meaning.proofs.theorems.meanings.Goals as goal

-- the theorems on values with sorts that the calls give
sorts : goal.After-value_theorems → SortTheorems
sorts c = record {
  over = c.well_sorted_values.ensures.over;
  built = c.well_sorted_values.ensures.built;
  field = c.well_sorted_values.ensures.field;
}

-- what is known of values in a well-formed interpretation
facts : goal.After-value_theorems → (d : Declarations) (i : Interp) → IsConsistent d → IsProper d i → Facts d i
facts c d i consistent proper =
    facts_of c.value_theorems.ensures.theorems (sorts c) d i (c.fitting_graphs.ensures.closed d i.graph proper.graph.fits) consistent proper (c.structure.ensures.own_selectors d consistent) (c.structure.ensures.of_their_sorts d consistent)
    (λ v h. c.boolean_values.ensures.same i.graph i.graph v (is_true i.graph v) (c.boolean_values.ensures.truth d i.graph v consistent proper.graph.fits h))
    (record {
      chosen = λ ss vs listable inside. (c.listed_values.ensures.choices d ss vs consistent listable).0 inside;
      closed_term = λ v s h. c.listed_values.ensures.term d v s h;
      closed_value = λ v s h. c.listed_values.ensures.value d i.graph v s h;
    })

pub returns-clause-tree : goal.returns-clause-tree
returns-clause-tree c = λ d i terms t. value_of-tree d i terms t

pub returns-clause-sorted : goal.returns-clause-sorted
returns-clause-sorted c = λ d i bodies env sorts t sort consistent proper sound fit h.
    let mentions = subst (λ n. MentionsBelow n t) (sym sound.one_each) (c.formulas.ensures.mentions d sorts t sort h) in
    eval_sorted d i (facts c d i consistent proper) bodies sound env sorts t sort fit mentions h

pub returns-clause-same : goal.returns-clause-same
returns-clause-same c = λ d i bodies env others t consistent proper h.
    eval_agrees d i (facts c d i consistent proper) bodies t env others h

pub returns-clause-longer : goal.returns-clause-longer
returns-clause-longer c = λ later earlier i bodies more env sorts t sort consistent extends sound h.
    let mentions = subst (λ n. MentionsBelow n t) (sym sound.one_each) (c.formulas.ensures.mentions earlier sorts t sort h) in
    eval_reaches later earlier i extends
    (record { listable = λ r. c.listed_values.ensures.lasting later earlier r consistent extends; listed = λ r. c.listed_values.ensures.longer later earlier r consistent extends }) bodies more sound t env sorts sort mentions h

pub returns-clause-compiled : goal.returns-clause-compiled
returns-clause-compiled c = λ d i bodies terms env sorts t sort consistent proper sound of_terms of_env mean h.
    let mentions = subst (λ n. MentionsBelow n t) (sym sound.one_each) (c.formulas.ensures.mentions d sorts t sort h) in
    core_of_means d i (facts c d i consistent proper) bodies sound (λ s u of. c.core_trees.ensures.read d u s of)
    (λ k ctor u ss declared of fields. c.formulas.ensures.fields d k ctor u ss consistent declared of fields)
    (λ n u trees us r fit m of. c.formulas.ensures.compiled d n (calls_below (compiled d) no_term bodies n) trees us u r consistent (c.formulas.ensures.calls d bodies n consistent sound) fit m of)
    t terms env sorts sort of_terms of_env mean mentions h

pub returns-clause-tree_sorted : goal.returns-clause-tree_sorted
returns-clause-tree_sorted c = λ d i t sort consistent proper h.
    tree_value-sorted d i (facts c d i consistent proper) t sort h

pub returns-clause-tree_lasting : goal.returns-clause-tree_lasting
returns-clause-tree_lasting c = λ later earlier i t sort extends h. tree_value-lasting later earlier i extends t sort h

pub returns-clause-truth : goal.returns-clause-truth
returns-clause-truth c = λ d i v w consistent proper h.
    true_agrees d i (facts c d i consistent proper) v w h

pub returns-clause-assertions : goal.returns-clause-assertions
returns-clause-assertions c = λ d i bodies terms ids asserts consistent proper sound sorted terms_of.
    all_pass (λ a t. term_at terms a ≡ core_of d bodies [] t) (λ t. IsSorted d [] t bool_sort) (truth_value d i terms) (λ t. is_true i.graph (eval d i bodies [] t))
    (λ a t is of.
    ap (is_true i.graph) (value_of-tree d i terms a ∙ ap (tree_value d i) is)
    ∙ true_agrees d i (facts c d i consistent proper) (tree_value d i (core_of d bodies [] t)) (eval d i bodies [] t)
    (returns-clause-compiled c d i bodies [] [] [] t bool_sort consistent proper sound tt tt tt of))
    ids asserts terms_of sorted

pub returns-clause-for_all : goal.returns-clause-for_all
returns-clause-for_all c = λ d i bodies env ss t consistent listable.
    for_all d i bodies env ss t (λ vs. c.listed_values.ensures.choices d ss vs consistent listable)

pub returns-clause-for_some : goal.returns-clause-for_some
returns-clause-for_some c = λ d i bodies env ss t consistent listable.
    for_some d i bodies env ss t (λ vs. c.listed_values.ensures.choices d ss vs consistent listable)
