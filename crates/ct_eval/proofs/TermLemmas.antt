-- When each form of Boolean term is true, and what constructors and selectors mean.
use Rattle.std.proofs.Common.{◌≡◌, ◌↔◌, ℕ, Bool, true, false, not, IsTrue, List, [], ◌∷◌, map, Option, Some, unwrap_or, if◌then◌else◌, slice_get, option_map, refl, sym, ap, subst, ◌∙◌}
use Rattle.std.specs.List.{list_all, list_any}
use Rattle.std.proofs.lemmas.Option.{slice_get-map}
use Rattle.ct_sorts.specs.declared.ids.CtorId.{CtorId}
use Rattle.ct_sorts.specs.declared.ids.SelId.{SelId}
use Rattle.ct_sorts.specs.declared.ids.SortId.{SortId}
use Rattle.ct_sorts.specs.Declarations.{Declarations, Selector}
use Rattle.ct_sorts.specs.Consistent.{IsConsistent}
use Rattle.ct_values.specs.declared.node.Head.TheVariants as heads
use Rattle.ct_values.specs.Graph.{IsClosed}
use Rattle.ct_values.specs.Value.{Value, list_of, values_of}
use Rattle.ct_values.specs.Agreement.{Point, point, head_of, children_of, same, AgreeAlways}
use Rattle.ct_values.specs.TruthValue.{truth, is_built, is_true}
use Rattle.ct_terms.specs.declared.ids.TermId.{TermId}
use Rattle.ct_terms.specs.declared.term.Core.{Core}
use Rattle.ct_terms.specs.declared.term.Core.TheVariants.{Con, Sel, Test, Eq, Not, And, Or, Iff, Ite}
use Rattle.ct_terms.specs.Terms.{Terms, AreOrdered, AreSorted}
use Rattle.ct_eval.specs.declared.interp.Interp.{Interp}
use Rattle.ct_eval.specs.Interpretation.{IsProper}
use Rattle.ct_eval.specs.Evaluation.{is_same, table_value, select, core_value, value_of}
use Rattle.ct_eval.specs.Truth.{truth_value}
use Rattle.ct_eval.specs.Congruence.{AreCongruent, HaveOneValue}
use Rattle.ct_eval.proofs.EvaluationLemmas.{value_of-unfolds}
use Rattle.ct_eval.proofs.ValueLemmas.{SortTheorems, truth_is, value_of-sorted}
use Rattle.ct_eval.proofs.CongruenceLemmas.{Alike, core_alike}
use Rattle.ct_eval.proofs.StepSelect.{select_built}

-- the values of a list, as those under a constructor and back
listed : (vs : List Value) → list_of (values_of vs) ≡ vs
listed [] = refl
listed (v ∷ vs) = ap (λ (ws : List Value). v ∷ ws) (listed vs)

-- two truth values are one just where an equivalence is true
iff_true : (a b : Bool) → ((if a then b else not b) ≡ true) ↔ (a ≡ b)
iff_true true b = (λ e. sym e, λ e. sym e)
iff_true false true = (λ e. e, λ e. e)
iff_true false false = (λ e. refl, λ e. refl)

module _ (d : Declarations) (i : Interp) (terms : Terms) (ordered : AreOrdered terms) where
  abbrev value : TermId → Value
  value = value_of d i terms

  -- a term whose layer is a truth value
  answer : (t : TermId) (core : Core) (s : SortId) (b : Bool) → slice_get terms t.0 ≡ Some (core, s) → core_value d i value core ≡ truth b → truth_value d i terms t ≡ b
  answer t core s b at is = ap (is_true i.graph) (value_of-unfolds d i terms t core s ordered at ∙ is) ∙ truth_is i.graph b

  pub test_truth : (t a : TermId) (c : CtorId) (s : SortId) → slice_get terms t.0 ≡ Some (Test c a, s) → truth_value d i terms t ≡ is_built i.graph c (value a)
  test_truth t a c s at = answer t (Test c a) s (is_built i.graph c (value a)) at refl

  pub negation_truth : (t a : TermId) (s : SortId) → slice_get terms t.0 ≡ Some (Not a, s) → truth_value d i terms t ≡ not (truth_value d i terms a)
  negation_truth t a s at = answer t (Not a) s (not (truth_value d i terms a)) at refl

  pub conjunction_truth : (t : TermId) (args : List TermId) (s : SortId) → slice_get terms t.0 ≡ Some (And args, s) → truth_value d i terms t ≡ list_all (truth_value d i terms) args
  conjunction_truth t args s at = answer t (And args) s (list_all (truth_value d i terms) args) at refl

  pub disjunction_truth : (t : TermId) (args : List TermId) (s : SortId) → slice_get terms t.0 ≡ Some (Or args, s) → truth_value d i terms t ≡ list_any (truth_value d i terms) args
  disjunction_truth t args s at = answer t (Or args) s (list_any (truth_value d i terms) args) at refl

  pub equivalence_truth : (t a b : TermId) (s : SortId) → slice_get terms t.0 ≡ Some (Iff a b, s) → (truth_value d i terms t ≡ true) ↔ (truth_value d i terms a ≡ truth_value d i terms b)
  equivalence_truth t a b s at =
      let p : Bool = truth_value d i terms a in
      let q : Bool = truth_value d i terms b in
      let is : truth_value d i terms t ≡ (if p then q else not q) = answer t (Iff a b) s (if p then q else not q) at refl in
      let reported = iff_true p q in
      (λ e. reported.0 (sym is ∙ e), λ e. is ∙ reported.1 e)

  pub choice_value : (t c a b : TermId) (s : SortId) → slice_get terms t.0 ≡ Some (Ite c a b, s) → value t ≡ (if truth_value d i terms c then value a else value b)
  choice_value t c a b s at = value_of-unfolds d i terms t (Ite c a b) s ordered at

  pub equality_truth : ((p q : Point) → IsClosed p.graph → IsClosed q.graph → IsTrue (same p q) ↔ AgreeAlways p q) → IsClosed i.graph → (t a b : TermId) (s : SortId) → slice_get terms t.0 ≡ Some (Eq a b, s) → (truth_value d i terms t ≡ true) ↔ HaveOneValue i value value a b
  equality_truth every closed t a b s at =
      let is : truth_value d i terms t ≡ is_same i.graph (value a) (value b) = answer t (Eq a b) s (is_same i.graph (value a) (value b)) at refl in
      let reported = every (point i.graph (value a)) (point i.graph (value b)) closed closed in
      (λ e. reported.0 (sym is ∙ e), λ h. is ∙ reported.1 h)

  -- terms with one head over terms whose values are the same have values that are
  pub terms_alike : Alike → IsClosed i.graph → (t u : TermId) (core more : Core) (r s : SortId) → slice_get terms t.0 ≡ Some (core, r) → slice_get terms u.0 ≡ Some (more, s) → AreCongruent (HaveOneValue i value value) core more → HaveOneValue i value value t u
  terms_alike theorems closed t u core more r s at_t at_u h =
      subst₂ (sym (value_of-unfolds d i terms t core r ordered at_t)) (sym (value_of-unfolds d i terms u more s ordered at_u)) (core_alike theorems i closed value value d core more h)
    where
      subst₂ : {v w x y : Value} → v ≡ w → x ≡ y → AgreeAlways (point i.graph v) (point i.graph x) → AgreeAlways (point i.graph w) (point i.graph y)
      subst₂ {v = v} {w = w} {x = x} {y = y} e f h = subst (λ (z : Value). AgreeAlways (point i.graph w) (point i.graph z)) f (subst (λ (z : Value). AgreeAlways (point i.graph z) (point i.graph x)) e h)

  -- ---- constructors and selectors

  pub ctor_head : (t : TermId) (c : CtorId) (args : List TermId) (s : SortId) → slice_get terms t.0 ≡ Some (Con c args, s) → head_of i.graph (value t) ≡ Some (heads.Con c)
  ctor_head t c args s at = ap (head_of i.graph) (value_of-unfolds d i terms t (Con c args) s ordered at)

  pub ctor_children : (t : TermId) (c : CtorId) (args : List TermId) (s : SortId) → slice_get terms t.0 ≡ Some (Con c args, s) → children_of i.graph (value t) ≡ map value args
  ctor_children t c args s at = ap (children_of i.graph) (value_of-unfolds d i terms t (Con c args) s ordered at) ∙ listed (map value args)

  pub off_value : (t a : TermId) (s : SelId) (selector : Selector) (r : SortId) → slice_get terms t.0 ≡ Some (Sel s a, r) → slice_get d.sels s.0 ≡ Some selector → is_built i.graph selector.ctor (value a) ≡ false → value t ≡ table_value i (slice_get i.offs s.0) (value a ∷ [])
  off_value t a s selector r at declared other =
      value_of-unfolds d i terms t (Sel s a) r ordered at
      ∙ ap (λ (x : Option Selector). select i s x (value a)) declared
      ∙ ap (λ (b : Bool). if b then unwrap_or (slice_get (children_of i.graph (value a)) selector.place) (value a) else table_value i (slice_get i.offs s.0) (value a ∷ [])) other

  -- a selector of a value that is built by its constructor
  on_value : (t a : TermId) (s : SelId) (selector : Selector) (r : SortId) (w : Value) → slice_get terms t.0 ≡ Some (Sel s a, r) → slice_get d.sels s.0 ≡ Some selector → is_built i.graph selector.ctor (value a) ≡ true → slice_get (children_of i.graph (value a)) selector.place ≡ Some w → value t ≡ w
  on_value t a s selector r w at declared built there =
      value_of-unfolds d i terms t (Sel s a) r ordered at ∙ select_built i s (slice_get d.sels s.0) selector (value a) w declared built there

  module _ (theorems : SortTheorems) where
    pub selected_value : IsConsistent d → IsProper d i → AreSorted d terms → (t a : TermId) (s : SelId) (selector : Selector) (r : SortId) → slice_get terms t.0 ≡ Some (Sel s a, r) → slice_get d.sels s.0 ≡ Some selector → is_built i.graph selector.ctor (value a) ≡ true → slice_get (children_of i.graph (value a)) selector.place ≡ Some (value t)
    selected_value consistent proper sorts t a s selector r at declared built =
        let of = sorts t.0 (Sel s a) r at in
        let sorted = value_of-sorted theorems d i consistent proper terms ordered sorts a of.ctor.sort of.sorted in
        let w = theorems.field d i.graph (value a) of.ctor.sort s selector consistent proper.graph.fits sorted declared ((theorems.built i.graph (value a) selector.ctor).0 built) in
        w.1 ∙ ap Some (sym (on_value t a s selector r w.0 at declared built w.1))

    pub argument_value : (t a b : TermId) (s : SelId) (selector : Selector) (args : List TermId) (q r : SortId) → slice_get terms t.0 ≡ Some (Sel s a, r) → slice_get d.sels s.0 ≡ Some selector → slice_get terms a.0 ≡ Some (Con selector.ctor args, q) → slice_get args selector.place ≡ Some b → value t ≡ value b
    argument_value t a b s selector args q r at declared at_a there =
        let built : is_built i.graph selector.ctor (value a) ≡ true = (theorems.built i.graph (value a) selector.ctor).1 (ctor_head a selector.ctor args q at_a) in
        let position : ℕ = selector.place in
        on_value t a s selector r (value b) at declared built
        (ap (λ (vs : List Value). slice_get vs position) (ctor_children a selector.ctor args q at_a) ∙ slice_get-map value args position ∙ ap (option_map value) there)
