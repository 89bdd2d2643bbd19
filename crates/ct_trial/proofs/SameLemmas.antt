-- Terms keep their values where the tables of the functions that they apply give what they gave.
use Rattle.std.proofs.Common.{◌≡◌, ℕ, zero, suc, ◌<◌, ◌≤◌, List, [], ◌∷◌, length, map, Option, Some, None, slice_get, if◌then◌else◌, unwrap_or, refl, sym, ap, subst, ◌∙◌, arith}
use Rattle.std.proofs.lemmas.Option.{slice_get_within}
use Rattle.ct_lemmas.proofs.Lists.{slice_get-there}
use Rattle.ct_sorts.specs.declared.ids.FunId.{FunId}
use Rattle.ct_sorts.specs.declared.ids.SelId.{SelId}
use Rattle.ct_sorts.specs.declared.ids.SortId.{SortId}
use Rattle.ct_sorts.specs.Declarations.{Declarations, Selector}
use Rattle.ct_values.specs.declared.node.NodeId.{NodeId}
use Rattle.ct_values.specs.Value.{Value}
use Rattle.ct_values.specs.Agreement.{point, children_of}
use Rattle.ct_values.specs.Fitting.{HasNodeSort}
use Rattle.ct_values.specs.Sharing.{IsRepresentative}
use Rattle.ct_values.specs.TruthValue.{is_built}
use Rattle.ct_terms.specs.declared.ids.TermId.{TermId}
use Rattle.ct_terms.specs.declared.term.Core.{Core}
use Rattle.ct_terms.specs.declared.term.Core.TheVariants.{Con, Sel, Test, Apply, Eq, Not, And, Or, Iff, Ite}
use Rattle.ct_terms.specs.Terms.{Terms, AreOrdered}
use Rattle.ct_eval.specs.declared.interp.Table.{Table}
use Rattle.ct_eval.specs.declared.interp.Interp.{Interp}
use Rattle.ct_eval.specs.Evaluation.{table_value, select, core_value, value_of}
use Rattle.ct_eval.specs.EvaluationStep.{AreValued}
use Rattle.ct_eval.proofs.EvaluationLemmas.{map-agrees, core_value-agrees, value_of-unfolds}
use Rattle.ct_trial.specs.Growth.{with_functions, HasRow, AreRowed}

module _ (i : Interp) (funs : List Table) where
  abbrev pub changed : Interp
  changed = with_functions i funs

  -- tables give what they gave
  given_same : (o : Option Table) (vs : List Value) → table_value changed o vs ≡ table_value i o vs
  given_same None vs = refl
  given_same (Some table) vs = refl

  -- and so do selectors
  select_same : (s : SelId) (o : Option Selector) (v : Value) → select changed s o v ≡ select i s o v
  select_same s None v = refl
  select_same s (Some selector) v =
      ap (λ (w : Value). if is_built i.graph selector.ctor v then unwrap_or (slice_get (children_of i.graph v) selector.place) v else w) (given_same (slice_get i.offs s.0) (v ∷ []))

  -- so one layer gives what it gave, unless it applies a function
  layer_same : (d e : Declarations) → d.sels ≡ e.sels → (value : TermId → Value) (core : Core) → ((f : FunId) (args : List TermId) → core ≡ Apply f args → table_value i (slice_get funs f.0) (map value args) ≡ table_value i (slice_get i.funs f.0) (map value args)) → core_value e changed value core ≡ core_value d i value core
  layer_same d e sels value (Con c args) given = refl
  layer_same d e sels value (Sel s t) given =
      ap (λ (ss : List Selector). select changed s (slice_get ss s.0) (value t)) (sym sels) ∙ select_same s (slice_get d.sels s.0) (value t)
  layer_same d e sels value (Test c t) given = refl
  layer_same d e sels value (Apply f args) given = given_same (slice_get funs f.0) (map value args) ∙ given f args refl
  layer_same d e sels value (Eq a b) given = refl
  layer_same d e sels value (Not t) given = refl
  layer_same d e sels value (And args) given = refl
  layer_same d e sels value (Or args) given = refl
  layer_same d e sels value (Iff a b) given = refl
  layer_same d e sels value (Ite c a b) given = refl

  module _ (d e : Declarations) (terms : Terms) (ordered : AreOrdered terms) (sels : d.sels ≡ e.sels) (count : ℕ) (few : count ≤ length terms) (given : (t : ℕ) (f : FunId) (args : List TermId) (sort : SortId) → t < count → slice_get terms t ≡ Some (Apply f args, sort) → table_value i (slice_get funs f.0) (map (value_of d i terms) args) ≡ table_value i (slice_get i.funs f.0) (map (value_of d i terms) args)) where
    below_same : (bound : ℕ) (t : TermId) → t.0 < bound → t.0 < count → value_of e changed terms t ≡ value_of d i terms t
    below_same zero t h within = absurd (omega arith)
    below_same (suc bound) t h within =
        let there : (x : Core × SortId) × (slice_get terms t.0 ≡ Some x) = slice_get-there terms t.0 (omega arith) in
        let core : Core = there.0.0 in
        let sort : SortId = there.0.1 in
        value_of-unfolds e changed terms t core sort ordered there.1
        ∙ core_value-agrees e changed (value_of e changed terms) (value_of d i terms) t.0 (λ u below. below_same bound u (omega arith) (omega arith)) core (ordered t.0 core (sort, there.1))
        ∙ layer_same d e sels (value_of d i terms) core (λ f args is. given t.0 f args sort within (there.1 ∙ ap (λ (c : Core). Some (c, sort)) is))
        ∙ sym (value_of-unfolds d i terms t core sort ordered there.1)

    -- the first terms have the values that they had
    pub value_same : (t : TermId) → t.0 < count → value_of e changed terms t ≡ value_of d i terms t
    value_same t within = below_same (suc t.0) t (omega arith) within

    -- and the nodes that are these
    pub valued_same : (nodes : List NodeId) → length nodes ≤ count → ((n : NodeId) (s : SortId) → HasNodeSort d i.graph n s → HasNodeSort e i.graph n s) → AreValued d i terms i.graph nodes (value_of d i terms) → AreValued e changed terms i.graph nodes (value_of e changed terms)
    valued_same nodes short keeps valued t sort n sorted at =
        let within : t.0 < length nodes = slice_get_within nodes t.0 n at in
        let had = valued t sort n sorted at in
        record {
          first = subst (λ (v : Value). IsRepresentative i.graph (point i.graph v) n) (sym (value_same t (omega arith))) had.first;
          sorted = keeps n sort had.sorted;
        }

    -- the arguments of these have the values that they had
    pub args_same : (t : ℕ) (f : FunId) (args : List TermId) (sort : SortId) → t < count → slice_get terms t ≡ Some (Apply f args, sort) → map (value_of e changed terms) args ≡ map (value_of d i terms) args
    args_same t f args sort within at =
        map-agrees (value_of e changed terms) (value_of d i terms) (λ u. u.0 < t) (λ u below. value_same u (omega arith)) args (ordered t (Apply f args) (sort, at))

    -- and have rows where the tables have those that they had
    pub rowed_same : (shorter : ℕ) → shorter ≤ count → ((t : ℕ) (f : FunId) (args : List TermId) (sort : SortId) → t < shorter → slice_get terms t ≡ Some (Apply f args, sort) → HasRow i.graph (slice_get i.funs f.0) (map (value_of d i terms) args) → HasRow i.graph (slice_get funs f.0) (map (value_of d i terms) args)) → AreRowed d i terms shorter → AreRowed e changed terms shorter
    rowed_same shorter short keeps rowed t f args sort within at =
        subst (HasRow i.graph (slice_get funs f.0)) (sym (args_same t f args sort (omega arith) at)) (keeps t f args sort within at (rowed t f args sort within at))
