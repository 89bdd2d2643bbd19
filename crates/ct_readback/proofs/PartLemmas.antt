-- What the parts of an item say, put together: values, rows and bodies.
use Rattle.std.proofs.Common.{◌≡◌, ℕ, suc, Bool, true, false, List, [], ◌∷◌, ◌++◌, None, Some, refl, sym, subst, ◌∙◌, append_assoc, append-nil, inl, inr, true≢false}
use Rattle.std.specs.List.{AllZip}
use Rattle.std.proofs.lemmas.Option.{none-some, same_Some, slice_get_within}
use Rattle.std.proofs.lemmas.List.Elements.{Contains-append_left, Contains-append_right, Contains-append_cases}
use Rattle.ct_lemmas.proofs.Pairs.{AllZip-push, AllZip-weaker}
use Rattle.ct_lemmas.proofs.Contained.{Contains-first, Contains-cons, Contains-none}
use Rattle.ct_sorts.specs.declared.ids.SortId.{SortId}
use Rattle.ct_sorts.specs.Declarations.{Declarations}
use Rattle.ct_sexpr.specs.Expression.{Expression, Expressions, none, more}
use Rattle.ct_values.specs.declared.node.NodeId.{NodeId}
use Rattle.ct_values.specs.Graph.{Nodes, IsClosed}
use Rattle.ct_values.specs.Value.{reference}
use Rattle.ct_values.specs.Agreement.{Point, node_point}
use Rattle.ct_values.specs.Fitting.{HasNodeSort}
use Rattle.ct_values.proofs.AgreeLemmas.{AgreeAlways-trans}
use Rattle.ct_values.proofs.RepresentativeLemmas.{AgreeAlways-grown}
use Rattle.ct_card.proofs.WellFormedLemmas.{longer_sort}
use Rattle.ct_eval.specs.declared.interp.Row.{Row}
use Rattle.ct_readback.specs.declared.value.Said.{Said}
use Rattle.ct_readback.specs.declared.value.Said.TheVariants as said
use Rattle.ct_readback.specs.declared.item.Part.{Part}
use Rattle.ct_readback.specs.declared.item.Part.TheVariants as parts
use Rattle.ct_readback.specs.Cycles.{HasDataCycle}
use Rattle.ct_readback.specs.ValueAt.{IsValueAt}
use Rattle.ct_readback.specs.Rows.{equation_value}
use Rattle.ct_readback.proofs.SaidLemmas.{IsSaid-map}
use Rattle.ct_readback.specs.ItemAt.{RowValues, values_in_row, HasCycle, HasValue, IsTestAt, IsRowAt, IsEquationAt, AreEquationsAt}
use Rattle.ct_readback.specs.Said.{IsSaid, AreNodesFor, IsPart, IsRowOf, all_points}

-- a node of a closed graph that has a value has it in a longer graph
pub value_longer : (d : Declarations) (g added : Nodes) (s : SortId) (p : Point) (n : NodeId) → IsClosed g → HasNodeSort d g n s → HasValue g p n → HasValue (g ++ added) p n
value_longer d g added s p n closed (node, at, sorted) has =
    let within = slice_get_within g n.0 node at in
    AgreeAlways-trans (node_point (g ++ added) n) (node_point g n) p (AgreeAlways-grown g added (reference n) closed within) has

pub nodes_longer : (d : Declarations) (g added : Nodes) (sorts : List SortId) (values : List Point) (nodes : List NodeId) → IsClosed g → AreNodesFor d g sorts values nodes → AreNodesFor d (g ++ added) sorts values nodes
nodes_longer d g added sorts values nodes closed (sorted, have) = (longer_sorts sorts nodes sorted, longer_values sorts values nodes sorted have)
  where
    longer_sorts : (ss : List SortId) (ns : List NodeId) → AllZip (HasNodeSort d g) ns ss → AllZip (HasNodeSort d (g ++ added)) ns ss
    longer_sorts [] [] h = tt
    longer_sorts [] (n ∷ ns) h = absurd h
    longer_sorts (s ∷ ss) [] h = absurd h
    longer_sorts (s ∷ ss) (n ∷ ns) h = (longer_sort d g added n s h.0, longer_sorts ss ns h.1)

    longer_values : (ss : List SortId) (ps : List Point) (ns : List NodeId) → AllZip (HasNodeSort d g) ns ss → AllZip (HasValue g) ps ns → AllZip (HasValue (g ++ added)) ps ns
    longer_values ss [] [] h k = tt
    longer_values ss [] (n ∷ ns) h k = absurd k
    longer_values ss (p ∷ ps) [] h k = absurd k
    longer_values [] (p ∷ ps) (n ∷ ns) h k = absurd h
    longer_values (s ∷ ss) (p ∷ ps) (n ∷ ns) h k = (value_longer d g added s p n closed h.0 k.0, longer_values ss ps ns h.1 k.1)

-- a cycle among some values is one among more
pub cycle_left : (d : Declarations) (ps qs : List Point) → HasCycle d ps → HasCycle d (ps ++ qs)
cycle_left d ps qs (p, inside, cycle) = (p, Contains-append_left ps qs p inside, cycle)

pub cycle_right : (d : Declarations) (ps qs : List Point) → HasCycle d qs → HasCycle d (ps ++ qs)
cycle_right d ps qs (p, inside, cycle) = (p, Contains-append_right ps qs p inside, cycle)

pub cycle_one : (d : Declarations) (p : Point) → HasDataCycle d p.graph → HasCycle d (p ∷ [])
cycle_one d p cycle = (p, Contains-first p [], cycle)

-- where neither of two lists has a cycle, both together have none
pub acyclic_both : (d : Declarations) (ps qs : List Point) → (HasCycle d ps → ⊥) → (HasCycle d qs → ⊥) → HasCycle d (ps ++ qs) → ⊥
acyclic_both d ps qs left right (p, inside, cycle) =
    elim (Contains-append_cases ps qs p inside) [ inl h ↦ left (p, h, cycle) | inr h ↦ right (p, h, cycle) ]

pub acyclic_one : (d : Declarations) (p : Point) → (HasDataCycle d p.graph → ⊥) → HasCycle d (p ∷ []) → ⊥
acyclic_one d p never (q, inside, cycle) =
    elim (Contains-cons p [] q inside) [ inl e ↦ never (subst (λ (r : Point). HasDataCycle d r.graph) (sym e) cycle) | inr h ↦ Contains-none q h ]

-- ---- rows

module _ (d : Declarations) (sorts : List SortId) (s : SortId) (test value : Expression) where
  -- the parts of a row of some graph
  abbrev pub Args : Nodes → Part (List NodeId) → Type 0
  Args g part = IsPart d (IsTestAt d sorts test) all_points (AreNodesFor d g sorts) part

  abbrev pub Whole : Nodes → Part Row → Type 0
  Whole g part = IsPart d (IsRowAt d sorts s test value) values_in_row (IsRowOf d g sorts s) part

  pub row_no_args : (g h : Nodes) → Args g parts.Misfit → Whole h parts.Misfit
  row_no_args g h none_said = λ x says. none_said x.args says.args_are

  pub row_no_value : (g h : Nodes) → IsSaid d g (IsValueAt d s value) s said.Nothing → Whole h parts.Misfit
  row_no_value g h none_said = λ x says. none_said x.result says.result_is

  pub row_cyclic_args : (g h k : Nodes) (found : Said) → Args g parts.Cycle → IsSaid d h (IsValueAt d s value) s found → (found ≡ said.Nothing → ⊥) → Whole k parts.Cycle
  row_cyclic_args g h k said.Nothing (ps, says, cycle) value_said some = absurd (some refl)
  row_cyclic_args g h k said.Cycle (ps, says, cycle) (p, value_says, own) some =
      (record { args = ps; result = p }, record { args_are = says; result_is = value_says }, cycle_left d ps (p ∷ []) cycle)
  row_cyclic_args g h k (said.Value n) (ps, says, cycle) (p, value_says, never, node) some =
      (record { args = ps; result = p }, record { args_are = says; result_is = value_says }, cycle_left d ps (p ∷ []) cycle)

  pub row_cyclic_value : (g h k : Nodes) (nodes : List NodeId) → Args g (parts.Fine nodes) → IsSaid d h (IsValueAt d s value) s said.Cycle → Whole k parts.Cycle
  row_cyclic_value g h k nodes (ps, says, never, have) (p, value_says, cycle) =
      (record { args = ps; result = p }, record { args_are = says; result_is = value_says }, cycle_right d ps (p ∷ []) (cycle_one d p cycle))

  pub row_fine : (g : Nodes) (nodes : List NodeId) (n : NodeId) (row : Row) → row.args ≡ nodes → row.result ≡ n → Args g (parts.Fine nodes) → IsSaid d g (IsValueAt d s value) s (said.Value n) → Whole g (parts.Fine row)
  row_fine g nodes n row args_are result_is (ps, says, never, have) (p, value_says, own, node) = (
    record { args = ps; result = p },
    record { args_are = says; result_is = value_says },
    acyclic_both d ps (p ∷ []) never (acyclic_one d p own),
    record {
      fits = record {
        args_fit = subst (λ (ns : List NodeId). AllZip (HasNodeSort d g) ns sorts) (sym args_are) have.0;
        result_fits = subst (λ (m : NodeId). HasNodeSort d g m s) (sym result_is) node.sorted;
      };
      values_are = record {
        args = subst (λ (ns : List NodeId). AllZip (HasValue g) ps ns) (sym args_are) have.1;
        result = subst (λ (m : NodeId). HasValue g p m) (sym result_is) node.value;
      };
    },
  )

-- ---- one argument

pub single_none : (d : Declarations) (g h : Nodes) (s : SortId) (e : Expression) → IsSaid d g (IsEquationAt d 0 s e) s said.Nothing
    → IsPart d (AreEquationsAt d 0 (s ∷ []) (more e none)) all_points (AreNodesFor d h (s ∷ [])) parts.Misfit
single_none d g h s e none_said = λ ps says. stop ps says
  where
    stop : (ps : List Point) → AreEquationsAt d 0 (s ∷ []) (more e none) ps → ⊥
    stop [] says = says
    stop (p ∷ ps) says = none_said p says.0

pub single_cycle : (d : Declarations) (g h : Nodes) (s : SortId) (e : Expression) → IsSaid d g (IsEquationAt d 0 s e) s said.Cycle
    → IsPart d (AreEquationsAt d 0 (s ∷ []) (more e none)) all_points (AreNodesFor d h (s ∷ [])) parts.Cycle
single_cycle d g h s e (p, says, cycle) = (p ∷ [], (says, tt), cycle_one d p cycle)

pub single_node : (d : Declarations) (g : Nodes) (s : SortId) (e : Expression) (n : NodeId) → IsSaid d g (IsEquationAt d 0 s e) s (said.Value n)
    → IsPart d (AreEquationsAt d 0 (s ∷ []) (more e none)) all_points (AreNodesFor d g (s ∷ [])) (parts.Fine (n ∷ []))
single_node d g s e n (p, says, never, node) = (p ∷ [], (says, tt), acyclic_one d p never, ((node.sorted, tt), (node.value, tt)))

-- an equation says what its value text says
pub equation_said : (d : Declarations) (g : Nodes) (i : ℕ) (s : SortId) (e text : Expression) (found : Said) → equation_value i e ≡ Some text
    → IsSaid d g (IsValueAt d s text) s found → IsSaid d g (IsEquationAt d i s e) s found
equation_said d g i s e text found written said_so =
    IsSaid-map d g (IsValueAt d s text) (IsEquationAt d i s e) s found
    (λ p h. record { text = text; written = written; value = h })
    (λ p h. subst (λ (t : Expression). IsValueAt d s t p) (same_Some h.text text (sym h.written ∙ written)) h.value)
    said_so

pub equation_unsaid : (d : Declarations) (g : Nodes) (i : ℕ) (s : SortId) (e : Expression) → equation_value i e ≡ None → IsSaid d g (IsEquationAt d i s e) s said.Nothing
equation_unsaid d g i s e none_written = λ p h. none-some h.text (sym none_written ∙ h.written)

-- ---- several arguments

-- the equations before the index i say these values, and where none of them is cyclic, the nodes have them
pub record AreEquationsSoFar (d : Declarations) (g : Nodes) (sorts : List SortId) (equations : Expressions) (i : ℕ) (sorts_left : List SortId) (left : Expressions) (cyclic : Bool) (nodes : List NodeId) : Type 0 where
  pub values : List Point
  pub sorts_done : List SortId
  pub split : sorts ≡ sorts_done ++ sorts_left
  pub forward : (later : List Point) → AreEquationsAt d i sorts_left left later → AreEquationsAt d 0 sorts equations (values ++ later)
  pub backward : (all : List Point) → AreEquationsAt d 0 sorts equations all → (later : List Point) × AreEquationsAt d i sorts_left left later
  pub cycle : cyclic ≡ true → HasCycle d values
  pub acyclic : cyclic ≡ false → HasCycle d values → ⊥
  pub nodes_are : cyclic ≡ false → AreNodesFor d g sorts_done values nodes

pub equations_start : (d : Declarations) (g : Nodes) (sorts : List SortId) (equations : Expressions) → AreEquationsSoFar d g sorts equations 0 sorts equations false []
equations_start d g sorts equations = record {
  values = [];
  sorts_done = [];
  split = refl;
  forward = λ later h. h;
  backward = λ all h. (all, h);
  cycle = λ e. absurd (true≢false (sym e));
  acyclic = λ e (p, inside, cycle). Contains-none p inside;
  nodes_are = λ e. (tt, tt);
}

pub equations_longer : (d : Declarations) (g added : Nodes) (sorts : List SortId) (equations : Expressions) (i : ℕ) (ss : List SortId) (left : Expressions) (b : Bool) (nodes : List NodeId)
    → IsClosed g → AreEquationsSoFar d g sorts equations i ss left b nodes → AreEquationsSoFar d (g ++ added) sorts equations i ss left b nodes
equations_longer d g added sorts equations i ss left b nodes closed h = record {
  values = h.values;
  sorts_done = h.sorts_done;
  split = h.split;
  forward = h.forward;
  backward = h.backward;
  cycle = h.cycle;
  acyclic = h.acyclic;
  nodes_are = λ e. nodes_longer d g added h.sorts_done h.values nodes closed (h.nodes_are e);
}

-- the next one stops, is cyclic, or has a value
pub equations_stop : (d : Declarations) (g h k : Nodes) (sorts : List SortId) (equations : Expressions) (i : ℕ) (s : SortId) (ss : List SortId) (e : Expression) (left : Expressions) (b : Bool) (nodes : List NodeId)
    → AreEquationsSoFar d g sorts equations i (s ∷ ss) (more e left) b nodes → IsSaid d h (IsEquationAt d i s e) s said.Nothing
    → IsPart d (AreEquationsAt d 0 sorts equations) all_points (AreNodesFor d k sorts) parts.Misfit
equations_stop d g h k sorts equations i s ss e left b nodes so_far none_said = λ all says. stop (so_far.backward all says).0 (so_far.backward all says).1
  where
    stop : (later : List Point) → AreEquationsAt d i (s ∷ ss) (more e left) later → ⊥
    stop [] says = says
    stop (p ∷ ps) says = none_said p says.0

more_said : (d : Declarations) (g : Nodes) (sorts : List SortId) (equations : Expressions) (i : ℕ) (s : SortId) (ss : List SortId) (e : Expression) (left : Expressions) (b : Bool) (nodes : List NodeId)
    → (so_far : AreEquationsSoFar d g sorts equations i (s ∷ ss) (more e left) b nodes) → (p : Point) → IsEquationAt d i s e p
    → (later : List Point) → AreEquationsAt d (suc i) ss left later → AreEquationsAt d 0 sorts equations ((so_far.values ++ p ∷ []) ++ later)
more_said d g sorts equations i s ss e left b nodes so_far p says later h =
    subst (λ (all : List Point). AreEquationsAt d 0 sorts equations all) (sym (append_assoc so_far.values (p ∷ []) later)) (so_far.forward (p ∷ later) (says, h))

less_left : (d : Declarations) (i : ℕ) (s : SortId) (ss : List SortId) (e : Expression) (left : Expressions) → (later : List Point) × AreEquationsAt d i (s ∷ ss) (more e left) later → (later : List Point) × AreEquationsAt d (suc i) ss left later
less_left d i s ss e left ([], says) = absurd says
less_left d i s ss e left (p ∷ ps, says) = (ps, says.1)

pub equations_cycle : (d : Declarations) (g h k : Nodes) (sorts : List SortId) (equations : Expressions) (i : ℕ) (s : SortId) (ss : List SortId) (e : Expression) (left : Expressions) (b : Bool) (nodes : List NodeId)
    → AreEquationsSoFar d g sorts equations i (s ∷ ss) (more e left) b nodes → IsSaid d h (IsEquationAt d i s e) s said.Cycle → AreEquationsSoFar d k sorts equations (suc i) ss left true nodes
equations_cycle d g h k sorts equations i s ss e left b nodes so_far (p, says, cycle) = record {
  values = so_far.values ++ p ∷ [];
  sorts_done = so_far.sorts_done ++ s ∷ [];
  split = so_far.split ∙ sym (append_assoc so_far.sorts_done (s ∷ []) ss);
  forward = λ later held. more_said d g sorts equations i s ss e left b nodes so_far p says later held;
  backward = λ all held. less_left d i s ss e left (so_far.backward all held);
  cycle = λ e. cycle_right d so_far.values (p ∷ []) (cycle_one d p cycle);
  acyclic = λ e. absurd (true≢false e);
  nodes_are = λ e. absurd (true≢false e);
}

pub equations_node : (d : Declarations) (g : Nodes) (sorts : List SortId) (equations : Expressions) (i : ℕ) (s : SortId) (ss : List SortId) (e : Expression) (left : Expressions) (b : Bool) (nodes : List NodeId) (n : NodeId)
    → AreEquationsSoFar d g sorts equations i (s ∷ ss) (more e left) b nodes → IsSaid d g (IsEquationAt d i s e) s (said.Value n) → AreEquationsSoFar d g sorts equations (suc i) ss left b (nodes ++ n ∷ [])
equations_node d g sorts equations i s ss e left b nodes n so_far (p, says, never, node) = record {
  values = so_far.values ++ p ∷ [];
  sorts_done = so_far.sorts_done ++ s ∷ [];
  split = so_far.split ∙ sym (append_assoc so_far.sorts_done (s ∷ []) ss);
  forward = λ later held. more_said d g sorts equations i s ss e left b nodes so_far p says later held;
  backward = λ all held. less_left d i s ss e left (so_far.backward all held);
  cycle = λ is. cycle_left d so_far.values (p ∷ []) (so_far.cycle is);
  acyclic = λ is. acyclic_both d so_far.values (p ∷ []) (so_far.acyclic is) (acyclic_one d p never);
  nodes_are = λ is. (
    AllZip-push (HasNodeSort d g) nodes so_far.sorts_done n s (so_far.nodes_are is).0 node.sorted,
    AllZip-push (HasValue g) so_far.values nodes p n (so_far.nodes_are is).1 node.value,
  );
}

-- all were read
pub equations_all_cyclic : (d : Declarations) (g k : Nodes) (sorts : List SortId) (equations : Expressions) (i : ℕ) (nodes : List NodeId) → AreEquationsSoFar d g sorts equations i [] none true nodes
    → IsPart d (AreEquationsAt d 0 sorts equations) all_points (AreNodesFor d k sorts) parts.Cycle
equations_all_cyclic d g k sorts equations i nodes so_far =
    (so_far.values, subst (λ (all : List Point). AreEquationsAt d 0 sorts equations all) (append-nil so_far.values) (so_far.forward [] tt), so_far.cycle refl)

pub equations_all : (d : Declarations) (g : Nodes) (sorts : List SortId) (equations : Expressions) (i : ℕ) (nodes : List NodeId) → AreEquationsSoFar d g sorts equations i [] none false nodes
    → IsPart d (AreEquationsAt d 0 sorts equations) all_points (AreNodesFor d g sorts) (parts.Fine nodes)
equations_all d g sorts equations i nodes so_far = (
  so_far.values,
  subst (λ (all : List Point). AreEquationsAt d 0 sorts equations all) (append-nil so_far.values) (so_far.forward [] tt),
  so_far.acyclic refl,
  subst (λ (ss : List SortId). AreNodesFor d g ss so_far.values nodes) (sym (so_far.split ∙ append-nil so_far.sorts_done)) (so_far.nodes_are refl),
)

-- ---- longer graphs

pub row_longer : (d : Declarations) (g added : Nodes) (args : List SortId) (s : SortId) (values : RowValues) (row : Row) → IsClosed g → IsRowOf d g args s values row → IsRowOf d (g ++ added) args s values row
row_longer d g added args s values row closed h =
    let all = nodes_longer d g added args values.args row.args closed (h.fits.args_fit, h.values_are.args) in
    record {
      fits = record { args_fit = all.0; result_fits = longer_sort d g added row.result s h.fits.result_fits };
      values_are = record { args = all.1; result = value_longer d g added s values.result row.result closed h.fits.result_fits h.values_are.result };
    }

pub rows_longer : (d : Declarations) (g added : Nodes) (args : List SortId) (s : SortId) (values : List RowValues) (rows : List Row) → IsClosed g → AllZip (IsRowOf d g args s) values rows → AllZip (IsRowOf d (g ++ added) args s) values rows
rows_longer d g added args s values rows closed h = AllZip-weaker (IsRowOf d g args s) (IsRowOf d (g ++ added) args s) (λ v r k. row_longer d g added args s v r closed k) values rows h
