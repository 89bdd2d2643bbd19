-- What is the same evaluates to the same: a look-up, a selector, a test, and one layer of a term.
use Rattle.std.proofs.Common.{◌≡◌, ◌↔◌, ℕ, zero, suc, Bool, true, false, not, IsTrue, List, [], ◌∷◌, map, Option, Some, None, unwrap_or, if◌then◌else◌, slice_get, refl, ap, ap₂, subst, ◌∙◌, ◌&&◌, ◌||◌}
use Rattle.std.specs.List.{AllZip, AllByRecursion, list_all, list_any}
use Rattle.ct_sorts.specs.declared.ids.CtorId.{CtorId}
use Rattle.ct_sorts.specs.declared.ids.SelId.{SelId}
use Rattle.ct_sorts.specs.declared.ids.FunId.{FunId}
use Rattle.ct_sorts.specs.Declarations.{Declarations, Selector}
use Rattle.ct_values.specs.declared.node.NodeId.{NodeId}
use Rattle.ct_values.specs.declared.node.Head.TheVariants as heads
use Rattle.ct_values.specs.Graph.{Nodes, IsClosed}
use Rattle.ct_values.specs.Value.{Value, reference, list_of, values_of}
use Rattle.ct_values.specs.Agreement.{Point, point, node_point, head, children, children_of, same, AgreeAlways}
use Rattle.ct_values.specs.TruthValue.{truth, is_head, is_built, is_true}
use Rattle.ct_terms.specs.declared.ids.TermId.{TermId}
use Rattle.ct_terms.specs.declared.term.Core.{Core}
use Rattle.ct_terms.specs.declared.term.Core.TheVariants.{Con, Sel, Test, Apply, Eq, Not, And, Or, Iff, Ite}
use Rattle.ct_terms.specs.Children.{con_head, sel_head, test_head, apply_head, core_head, core_children}
use Rattle.ct_eval.specs.declared.interp.Row.{Row}
use Rattle.ct_eval.specs.declared.interp.Table.{Table}
use Rattle.ct_eval.specs.declared.interp.Interp.{Interp}
use Rattle.ct_eval.specs.LookUp.{are_same, row_for, look_up}
use Rattle.ct_eval.specs.Evaluation.{is_same, table_value, select, core_value}
use Rattle.ct_eval.specs.Congruence.{AreCongruent, HaveOneValue}
use Rattle.ct_eval.proofs.StepTruth.{one_answer}

-- the theorems on agreement that these rest on
pub record Alike : Type 0 where
  pub itself : (p : Point) → AgreeAlways p p
  pub turned : (p q : Point) → AgreeAlways p q → AgreeAlways q p
  pub chained : (p q r : Point) → AgreeAlways p q → AgreeAlways q r → AgreeAlways p r
  pub always : (p q : Point) → AgreeAlways p q ↔ ((head p ≡ head q) × AllZip AgreeAlways (children p) (children q))
  pub every_depth : (p q : Point) → IsClosed p.graph → IsClosed q.graph → IsTrue (same p q) ↔ AgreeAlways p q

-- heads that are one are those of one constructor, selector or function
con_same : (c k : CtorId) → con_head c ≡ con_head k → c ≡ k
con_same c k e = cc

sel_same : (s r : SelId) → sel_head s ≡ sel_head r → s ≡ r
sel_same s r e = cc

test_same : (c k : CtorId) → test_head c ≡ test_head k → c ≡ k
test_same c k e = cc

apply_same : (f h : FunId) → apply_head f ≡ apply_head h → f ≡ h
apply_same f h e = cc

module _ (theorems : Alike) where
  -- values that are built alike
  pub built_alike : (g h : Nodes) (c : CtorId) (v w : Value) → AgreeAlways (point g v) (point h w) → is_built g c v ≡ is_built h c w
  built_alike g h c v w alike = ap (is_head c) ((theorems.always (point g v) (point h w)).0 alike).0

  -- points that agree with others are the same just where the others are
  pub same_alike : (p q r s : Point) → IsClosed p.graph → IsClosed q.graph → IsClosed r.graph → IsClosed s.graph → AgreeAlways p r → AgreeAlways q s → same p q ≡ same r s
  same_alike p q r s cp cq cr cs first second =
      let here = theorems.every_depth p q cp cq in
      let there = theorems.every_depth r s cr cs in
      one_answer (same p q) (same r s) (AgreeAlways p q) here (
        λ e. theorems.chained p r q first (theorems.chained r s q (there.0 e) (theorems.turned q s second)),
        λ h. there.1 (theorems.chained r p s (theorems.turned p r first) (theorems.chained p q s h second)),
      )

  -- a look-up over two graphs, in which the arguments of the rows are the same
  module _ (g h : Nodes) (closed_g : IsClosed g) (closed_h : IsClosed h) where
    -- the node is the same in both
    abbrev IsStored : NodeId → Type 0
    IsStored n = AgreeAlways (node_point g n) (node_point h n)

    args_alike : (ns : List NodeId) (vs ws : List Value) → AllByRecursion IsStored ns → AllZip AgreeAlways (map (point g) vs) (map (point h) ws) → are_same g ns vs ≡ are_same h ns ws
    args_alike [] [] [] stored alike = refl
    args_alike [] [] (w ∷ ws) stored alike = absurd alike
    args_alike [] (v ∷ vs) [] stored alike = absurd alike
    args_alike [] (v ∷ vs) (w ∷ ws) stored alike = refl
    args_alike (n ∷ ns) [] [] stored alike = refl
    args_alike (n ∷ ns) [] (w ∷ ws) stored alike = absurd alike
    args_alike (n ∷ ns) (v ∷ vs) [] stored alike = absurd alike
    args_alike (n ∷ ns) (v ∷ vs) (w ∷ ws) stored alike =
        ap₂ (λ a b. a && b)
        (same_alike (node_point g n) (point g v) (node_point h n) (point h w) closed_g closed_g closed_h closed_h stored.0 alike.0)
        (args_alike ns vs ws stored.1 alike.1)

    pub rows_alike : (rows : List Row) (vs ws : List Value) → AllByRecursion (λ row. AllByRecursion IsStored row.args) rows → AllZip AgreeAlways (map (point g) vs) (map (point h) ws) → row_for g rows vs ≡ row_for h rows ws
    rows_alike [] vs ws stored alike = refl
    rows_alike (row ∷ rows) vs ws stored alike =
        ap₂ (λ (b : Bool) (o : Option NodeId). if b then Some row.result else o) (args_alike row.args vs ws stored.0 alike) (rows_alike rows vs ws stored.1 alike)

    pub look_up_across : (table : Table) (vs ws : List Value) → AllByRecursion (λ row. AllByRecursion IsStored row.args) table.rows → AllZip AgreeAlways (map (point g) vs) (map (point h) ws) → look_up g table vs ≡ look_up h table ws
    look_up_across table vs ws stored alike = ap (λ (o : Option NodeId). unwrap_or o table.default) (rows_alike table.rows vs ws stored alike)

  -- over one graph
  module _ (g : Nodes) (closed : IsClosed g) where
    nodes_stored : (ns : List NodeId) → AllByRecursion (λ n. AgreeAlways (node_point g n) (node_point g n)) ns
    nodes_stored [] = tt
    nodes_stored (n ∷ ns) = (theorems.itself (node_point g n), nodes_stored ns)

    rows_stored : (rows : List Row) → AllByRecursion (λ row. AllByRecursion (λ n. AgreeAlways (node_point g n) (node_point g n)) row.args) rows
    rows_stored [] = tt
    rows_stored (row ∷ rows) = (nodes_stored row.args, rows_stored rows)

    pub look_up_within_one : (table : Table) (vs ws : List Value) → AllZip AgreeAlways (map (point g) vs) (map (point g) ws) → look_up g table vs ≡ look_up g table ws
    look_up_within_one table vs ws alike = look_up_across g g closed closed table vs ws (rows_stored table.rows) alike

  -- over the graph of an interpretation
  module _ (i : Interp) (closed : IsClosed i.graph) where
    -- the values are equal
    abbrev Same : Value → Value → Type 0
    Same v w = AgreeAlways (point i.graph v) (point i.graph w)

    -- values that are equal are the same
    equal_same : (v w : Value) → v ≡ w → Same v w
    equal_same v w e = subst (Same v) e (theorems.itself (point i.graph v))

    given_alike : (o : Option Table) (vs ws : List Value) → AllZip AgreeAlways (map (point i.graph) vs) (map (point i.graph) ws) → table_value i o vs ≡ table_value i o ws
    given_alike None vs ws alike = refl
    given_alike (Some table) vs ws alike = ap reference (look_up_within_one i.graph closed table vs ws alike)

    -- what stands at an index of lists that are the same, or else of the values themselves
    at_position : (vs ws : List Value) (position : ℕ) (v w : Value) → AllZip AgreeAlways (map (point i.graph) vs) (map (point i.graph) ws) → Same v w → Same (unwrap_or (slice_get vs position) v) (unwrap_or (slice_get ws position) w)
    at_position [] [] position v w all alike = alike
    at_position [] (y ∷ ws) position v w all alike = absurd all
    at_position (x ∷ vs) [] position v w all alike = absurd all
    at_position (x ∷ vs) (y ∷ ws) zero v w all alike = all.0
    at_position (x ∷ vs) (y ∷ ws) (suc position) v w all alike = at_position vs ws position v w all.1 alike

    -- what is chosen in both cases
    chosen : (a b : Bool) (v w x y : Value) → a ≡ b → Same v x → Same w y → Same (if a then v else w) (if b then x else y)
    chosen true true v w x y e first second = first
    chosen true false v w x y e first second = absurd (cc)
    chosen false true v w x y e first second = absurd (cc)
    chosen false false v w x y e first second = second

    -- a selector gives the same
    pub select_alike : (s : SelId) (o : Option Selector) (v w : Value) → Same v w → Same (select i s o v) (select i s o w)
    select_alike s None v w alike = alike
    select_alike s (Some selector) v w alike =
        chosen (is_built i.graph selector.ctor v) (is_built i.graph selector.ctor w) _ _ _ _ (built_alike i.graph i.graph selector.ctor v w alike)
        (at_position (children_of i.graph v) (children_of i.graph w) selector.place v w ((theorems.always (point i.graph v) (point i.graph w)).0 alike).1 alike)
        (equal_same _ _ (given_alike (slice_get i.offs s.0) (v ∷ []) (w ∷ []) (alike, tt)))

    -- truth values that are equal are the same
    truths_alike : (a b : Bool) → a ≡ b → Same (truth a) (truth b)
    truths_alike a b e = equal_same (truth a) (truth b) (ap truth e)

    pub true_alike : (v w : Value) → Same v w → is_true i.graph v ≡ is_true i.graph w
    true_alike v w alike = built_alike i.graph i.graph (record { 0 = 0 }) v w alike

    -- values are the same as each other just where what is the same as they is
    is_same_alike : (v w x y : Value) → Same v x → Same w y → is_same i.graph v w ≡ is_same i.graph x y
    is_same_alike v w x y first second =
        same_alike (point i.graph v) (point i.graph w) (point i.graph x) (point i.graph y) closed closed closed closed first second

    module _ (value other : TermId → Value) where
      abbrev Both : TermId → TermId → Type 0
      Both = HaveOneValue i value other

      values_alike : (ts us : List TermId) → AllZip Both ts us → AllZip AgreeAlways (map (point i.graph) (map value ts)) (map (point i.graph) (map other us))
      values_alike [] [] all = tt
      values_alike [] (u ∷ us) all = absurd all
      values_alike (t ∷ ts) [] all = absurd all
      values_alike (t ∷ ts) (u ∷ us) all = (all.0, values_alike ts us all.1)

      arguments_alike : (ts us : List TermId) → AllZip Both ts us → AllZip AgreeAlways (map (point i.graph) (list_of (values_of (map value ts)))) (map (point i.graph) (list_of (values_of (map other us))))
      arguments_alike [] [] all = tt
      arguments_alike [] (u ∷ us) all = absurd all
      arguments_alike (t ∷ ts) [] all = absurd all
      arguments_alike (t ∷ ts) (u ∷ us) all = (all.0, arguments_alike ts us all.1)

      all_true : (ts us : List TermId) → AllZip Both ts us → list_all (λ t. is_true i.graph (value t)) ts ≡ list_all (λ u. is_true i.graph (other u)) us
      all_true [] [] all = refl
      all_true [] (u ∷ us) all = absurd all
      all_true (t ∷ ts) [] all = absurd all
      all_true (t ∷ ts) (u ∷ us) all = ap₂ (λ a b. a && b) (true_alike (value t) (other u) all.0) (all_true ts us all.1)

      one_true : (ts us : List TermId) → AllZip Both ts us → list_any (λ t. is_true i.graph (value t)) ts ≡ list_any (λ u. is_true i.graph (other u)) us
      one_true [] [] all = refl
      one_true [] (u ∷ us) all = absurd all
      one_true (t ∷ ts) [] all = absurd all
      one_true (t ∷ ts) (u ∷ us) all = ap₂ (λ a b. a || b) (true_alike (value t) (other u) all.0) (one_true ts us all.1)

      -- one layer of terms with one head, over terms with the same values, is the same
      layer_alike : (d : Declarations) (core more : Core) → core_head core ≡ core_head more → AllZip Both (core_children core) (core_children more) → Same (core_value d i value core) (core_value d i other more)
      layer_alike d (Con c args) (Con k others) e all =
          (theorems.always (point i.graph (core_value d i value (Con c args))) (point i.graph (core_value d i other (Con k others)))).1
          (ap (λ (x : CtorId). Some (heads.Con x)) (con_same c k e), arguments_alike args others all)
      layer_alike d (Sel s t) (Sel r u) e all =
          subst (λ (x : SelId). Same (select i s (slice_get d.sels s.0) (value t)) (select i x (slice_get d.sels x.0) (other u))) (sel_same s r e) (select_alike s (slice_get d.sels s.0) (value t) (other u) all.0)
      layer_alike d (Test c t) (Test k u) e all =
          truths_alike _ _ (built_alike i.graph i.graph c (value t) (other u) all.0 ∙ ap (λ (x : CtorId). is_built i.graph x (other u)) (test_same c k e))
      layer_alike d (Apply f args) (Apply k others) e all =
          equal_same _ _ (given_alike (slice_get i.funs f.0) (map value args) (map other others) (values_alike args others all) ∙ ap (λ (x : FunId). table_value i (slice_get i.funs x.0) (map other others)) (apply_same f k e))
      layer_alike d (Eq a b) (Eq x y) e all = truths_alike _ _ (is_same_alike (value a) (value b) (other x) (other y) all.0 all.1.0)
      layer_alike d (Not t) (Not u) e all = truths_alike _ _ (ap not (true_alike (value t) (other u) all.0))
      layer_alike d (And args) (And others) e all = truths_alike _ _ (all_true args others all)
      layer_alike d (Or args) (Or others) e all = truths_alike _ _ (one_true args others all)
      layer_alike d (Iff a b) (Iff x y) e all =
          truths_alike _ _ (ap₂ (λ (p q : Bool). if p then q else not q) (true_alike (value a) (other x) all.0) (true_alike (value b) (other y) all.1.0))
      layer_alike d (Ite c a b) (Ite k x y) e all =
          chosen (is_true i.graph (value c)) (is_true i.graph (other k)) (value a) (value b) (other x) (other y) (true_alike (value c) (other k) all.0) all.1.0 all.1.1.0
      layer_alike d core more e all = absurd (cc)

      pub core_alike : (d : Declarations) (core more : Core) → AreCongruent Both core more → Same (core_value d i value core) (core_value d i other more)
      core_alike d core more h = layer_alike d core more h.0 h.1
