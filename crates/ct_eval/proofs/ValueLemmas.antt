-- The value of a term has the term's sort, and its truth value is that of its literal.
use Rattle.std.proofs.Common.{◌≡◌, ◌↔◌, ℕ, zero, suc, ◌<◌, Bool, true, false, not, List, [], ◌∷◌, map, Option, Some, None, if◌then◌else◌, slice_get, refl, sym, ap, subst, ◌∙◌, arith}
use Rattle.std.specs.List.{AllZip, AllByRecursion}
use Rattle.ct_sorts.specs.declared.ids.CtorId.{CtorId}
use Rattle.ct_sorts.specs.declared.ids.FunId.{FunId}
use Rattle.ct_sorts.specs.declared.ids.SelId.{SelId}
use Rattle.ct_sorts.specs.declared.ids.SortId.{SortId}
use Rattle.ct_sorts.specs.Declarations.{Declarations, Constructor, Selector, Function, bool_sort}
use Rattle.ct_sorts.specs.Consistent.{IsConsistent}
use Rattle.ct_values.specs.Value.{Value, construct, no_values, values_of, IsOver}
use Rattle.ct_values.specs.declared.node.Head.TheVariants as heads
use Rattle.ct_values.specs.Graph.{Nodes}
use Rattle.ct_values.specs.Agreement.{head_of, children_of}
use Rattle.ct_values.specs.Fitting.{FitsGraph}
use Rattle.ct_terms.specs.declared.ids.TermId.{TermId}
use Rattle.ct_terms.specs.declared.term.Core.{Core}
use Rattle.ct_terms.specs.declared.term.Core.TheVariants.{Con, Sel, Test, Apply, Eq, Not, And, Or, Iff, Ite}
use Rattle.ct_terms.specs.Terms.{Terms, IsOfSort, IsOfField, HasSort, HasArgumentsBelow, AreSorted, AreOrdered}
use Rattle.ct_terms.specs.Literal.{literal_step, literal_below, literal_of}
use Rattle.ct_terms.specs.Clause.{with_value, literal_value}
use Rattle.ct_eval.specs.declared.interp.Interp.{Interp}
use Rattle.ct_eval.specs.declared.interp.Table.{Table}
use Rattle.ct_eval.specs.Interpretation.{IsProper}
use Rattle.ct_values.specs.TruthValue.{truth, is_built, is_true}
use Rattle.ct_eval.specs.Evaluation.{table_value, select, core_value, layer, value_below, value_of}
use Rattle.ct_eval.specs.Truth.{truth_value}
use Rattle.ct_values.specs.ValueSort.{HasValueSort, AreOfFields}
use Rattle.ct_eval.proofs.EvaluationLemmas.{value_below-enough}
use Rattle.ct_eval.proofs.StepSelect.{select_built, select_wrongly}
use Rattle.ct_eval.proofs.StepTables.{look_up_sorted, function_table, selector_table}
use Rattle.ct_eval.proofs.StepTruth.{truth_ctor}

-- the theorems on values with sorts that these rest on
pub record SortTheorems : Type 0 where
  pub over : (d : Declarations) (g : Nodes) (v : Value) (s : SortId) → HasValueSort d g v s → IsOver g v
  pub built : (g : Nodes) (v : Value) (c : CtorId) → (is_built g c v ≡ true) ↔ (head_of g v ≡ Some (heads.Con c))
  pub field : (d : Declarations) (g : Nodes) (v : Value) (sort : SortId) (s : SelId) (selector : Selector) → IsConsistent d → FitsGraph d g → HasValueSort d g v sort → slice_get d.sels s.0 ≡ Some selector → head_of g v ≡ Some (heads.Con selector.ctor) → (w : Value) × (slice_get (children_of g v) selector.place ≡ Some w) × HasValueSort d g w selector.sort

module _ (theorems : SortTheorems) (d : Declarations) (i : Interp) (consistent : IsConsistent d) (proper : IsProper d i) where
  -- the value is of this sort
  abbrev Sorted : Value → SortId → Type 0
  Sorted v sort = HasValueSort d i.graph v sort

  -- a truth value is of sort Bool
  truth_with : (k : ℕ) → k < 2 → Sorted (construct (record { 0 = k }) no_values) bool_sort
  truth_with k below =
      let ctor = truth_ctor d k consistent below in
      (ctor.0, ctor.1, ctor.2, subst (λ (ss : List SelId). AreOfFields d i.graph no_values ss) (sym ctor.3) tt)

  pub truth_sorted : (b : Bool) → Sorted (truth b) bool_sort
  truth_sorted true = truth_with 0 (omega arith)
  truth_sorted false = truth_with 1 (omega arith)

  answer_sorted : (b : Bool) (sort : SortId) → sort ≡ bool_sort → Sorted (truth b) sort
  answer_sorted b sort is = subst (Sorted (truth b)) (sym is) (truth_sorted b)

  -- what a function gives
  pub given_sorted : (f : FunId) (function : Function) (values : List Value) → slice_get d.functions f.0 ≡ Some function → Sorted (table_value i (slice_get i.funs f.0) values) function.result
  given_sorted f function values declared =
      let table = function_table d i f.0 function proper declared in
      subst (λ (o : Option Table). Sorted (table_value i o values) function.result) (sym table.1) (look_up_sorted d i.graph function.args function.result table.0 values table.2)

  -- what a selector gives
  pub select_sorted : (s : SelId) (selector : Selector) (ctor : Constructor) (v : Value) → slice_get d.sels s.0 ≡ Some selector → slice_get d.ctors selector.ctor.0 ≡ Some ctor → Sorted v ctor.sort → Sorted (select i s (slice_get d.sels s.0) v) selector.sort
  select_sorted s selector ctor v declared built sorted = by (is_built i.graph selector.ctor v) refl
    where
      by : (b : Bool) → is_built i.graph selector.ctor v ≡ b → Sorted (select i s (slice_get d.sels s.0) v) selector.sort
      by true e =
          let w = theorems.field d i.graph v ctor.sort s selector consistent proper.graph.fits sorted declared ((theorems.built i.graph v selector.ctor).0 e) in
          subst (λ (u : Value). Sorted u selector.sort) (sym (select_built i s (slice_get d.sels s.0) selector v w.0 declared e w.1)) w.2
      by false e =
          let table = selector_table d i s.0 selector ctor proper declared built in
          subst (λ (u : Value). Sorted u selector.sort) (sym (select_wrongly i s (slice_get d.sels s.0) selector v table.0 declared e table.1)) (look_up_sorted d i.graph (ctor.sort ∷ []) selector.sort table.0 (v ∷ []) table.2)

  -- what is of a sort in both cases of a test
  choice_sorted : (b : Bool) (v w : Value) (sort : SortId) → Sorted v sort → Sorted w sort → Sorted (if b then v else w) sort
  choice_sorted true v w sort left right = left
  choice_sorted false v w sort left right = right

  module _ (terms : Terms) where
    -- the terms below the bound have values of their sorts
    abbrev AreSortedBelow : ℕ → (TermId → Value) → Type 0
    AreSortedBelow n value = (t : TermId) (sort : SortId) → t.0 < n → IsOfSort terms t sort → Sorted (value t) sort

    fields_sorted : (n : ℕ) (value : TermId → Value) → AreSortedBelow n value → (args : List TermId) (ss : List SelId) → AllZip (IsOfField d terms) args ss → AllByRecursion (λ t. t.0 < n) args → AreOfFields d i.graph (values_of (map value args)) ss
    fields_sorted n value sorted [] [] fields below = tt
    fields_sorted n value sorted [] (s ∷ ss) fields below = absurd fields
    fields_sorted n value sorted (t ∷ args) [] fields below = absurd fields
    fields_sorted n value sorted (t ∷ args) (s ∷ ss) fields below = (
      (fields.0.selector, fields.0.declared, sorted t fields.0.selector.sort below.0 fields.0.sorted),
      fields_sorted n value sorted args ss fields.1 below.1,
    )

    -- one layer of a term has the term's sort
    core_sorted : (n : ℕ) (value : TermId → Value) → AreSortedBelow n value → (core : Core) (sort : SortId) → HasSort d terms core sort → HasArgumentsBelow n core → Sorted (core_value d i value core) sort
    core_sorted n value sorted (Con c args) sort h below =
        (h.ctor, h.declared, sym h.result, fields_sorted n value sorted args h.ctor.sels h.fields below)
    core_sorted n value sorted (Sel s t) sort h below =
        subst (Sorted (select i s (slice_get d.sels s.0) (value t))) (sym h.result) (select_sorted s h.selector h.ctor (value t) h.declared h.constructor (sorted t h.ctor.sort below.0 h.sorted))
    core_sorted n value sorted (Test c t) sort h below = answer_sorted _ sort h.result
    core_sorted n value sorted (Apply f args) sort h below =
        subst (Sorted (table_value i (slice_get i.funs f.0) (map value args))) (sym h.result) (given_sorted f h.function (map value args) h.declared)
    core_sorted n value sorted (Eq a b) sort h below = answer_sorted _ sort h.result
    core_sorted n value sorted (Not t) sort h below = answer_sorted _ sort h.1
    core_sorted n value sorted (And args) sort h below = answer_sorted _ sort h.result
    core_sorted n value sorted (Or args) sort h below = answer_sorted _ sort h.result
    core_sorted n value sorted (Iff a b) sort h below = answer_sorted _ sort h.2
    core_sorted n value sorted (Ite c a b) sort h below =
        choice_sorted (is_true i.graph (value c)) (value a) (value b) sort (sorted a sort below.1.0 h.1) (sorted b sort below.1.1.0 h.2)

    -- so has its value
    below_sorted : AreOrdered terms → AreSorted d terms → (n : ℕ) → AreSortedBelow n (value_below n d i terms)
    unfolding value_below
    below_sorted ordered sorts zero t sort within of = absurd (omega arith)
    below_sorted ordered sorts (suc n) t sort within of =
        subst (λ (o : Option (Core × SortId)). Sorted (layer d i (value_below n d i terms) o) sort) (sym of.1)
        (core_sorted t.0 (value_below n d i terms) (λ u s below at. below_sorted ordered sorts n u s (omega arith) at) of.0 sort (sorts t.0 of.0 sort of.1) (ordered t.0 of.0 (sort, of.1)))

    pub value_of-sorted : AreOrdered terms → AreSorted d terms → (t : TermId) (sort : SortId) → IsOfSort terms t sort → Sorted (value_of d i terms t) sort
    value_of-sorted ordered sorts t sort of = below_sorted ordered sorts (suc t.0) t sort (omega arith) of

    -- so a value is over the graph of the interpretation
    pub value_of-over : AreOrdered terms → AreSorted d terms → (t : TermId) → IsOver i.graph (value_of d i terms t)
    unfolding value_below
    value_of-over ordered sorts t = at (slice_get terms t.0) refl
      where
        at : (o : Option (Core × SortId)) → slice_get terms t.0 ≡ o → IsOver i.graph (value_of d i terms t)
        at None e = subst (λ (o : Option (Core × SortId)). IsOver i.graph (layer d i (value_below t.0 d i terms) o)) (sym e) tt
        at (Some (core, sort)) e = theorems.over d i.graph (value_of d i terms t) sort (value_of-sorted ordered sorts t sort (core, e))

-- a truth value is `true` just where it is
pub truth_is : (g : Nodes) (b : Bool) → is_true g (truth b) ≡ b
truth_is g true = refl
truth_is g false = refl

-- a negation turns the value of a literal
with_value-not : (sign value : Bool) → with_value (not sign) value ≡ not (with_value sign value)
with_value-not true value = refl
with_value-not false true = refl
with_value-not false false = refl

-- the truth value of a term is that of its literal
module _ (d : Declarations) (i : Interp) (terms : Terms) (ordered : AreOrdered terms) where
  abbrev by_number : ℕ → Bool
  by_number k = truth_value d i terms (record { 0 = k })

  literal_layer : (n : ℕ) (t : TermId) (o : Option (Core × SortId)) → is_true i.graph (layer d i (value_below n d i terms) o) ≡ truth_value d i terms t → ((a : TermId) (s : SortId) → o ≡ Some (Not a, s) → is_true i.graph (value_below n d i terms a) ≡ literal_value by_number (literal_below n terms a)) → is_true i.graph (layer d i (value_below n d i terms) o) ≡ literal_value by_number (literal_step (literal_below n terms) t o)
  literal_layer n t (Some (Not a, s)) own under =
      truth_is i.graph (not (is_true i.graph (value_below n d i terms a))) ∙ ap not (under a s refl) ∙ sym (with_value-not (literal_below n terms a).positive (by_number (literal_below n terms a).term.0))
  literal_layer n t None own under = own
  literal_layer n t (Some (_, s)) own under = own

  literal_bounded : (n : ℕ) (t : TermId) → t.0 < n → is_true i.graph (value_below n d i terms t) ≡ literal_value by_number (literal_below n terms t)
  unfolding value_below literal_below
  literal_bounded zero t within = absurd (omega arith)
  literal_bounded (suc n) t within =
      literal_layer n t (slice_get terms t.0) (ap (is_true i.graph) (value_below-enough d i terms ordered (suc n) (suc t.0) t within (omega arith)))
      (λ a s e. let below : a.0 < t.0 = (ordered t.0 (Not a) (s, e)).0 in literal_bounded n a (omega arith))

  pub truth_of-literal : (t : TermId) → truth_value d i terms t ≡ literal_value by_number (literal_of terms t)
  truth_of-literal t = literal_bounded (suc t.0) t (omega arith)
