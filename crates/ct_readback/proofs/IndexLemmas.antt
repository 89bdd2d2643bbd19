-- What was said of the items before an index, and of one item more.
use Rattle.std.proofs.Common.{◌≡◌, ℕ, suc, ◌+◌, ◌<◌, ◌≤◌, Bool, true, false, List, [], ◌∷◌, ◌++◌, length, get_or, drop, Option, None, Some, option_map, unwrap_or, slice_get, sym, ap, subst, arith}
use Rattle.ct_sorts.specs.declared.ids.SelId.{SelId}
use Rattle.ct_sorts.specs.declared.ids.SortId.{SortId}
use Rattle.ct_sorts.specs.Declarations.{Declarations, Selector}
use Rattle.ct_sorts.specs.Grown.{Begins}
use Rattle.ct_sexpr.specs.declared.sexpr.Sexpr.{Sexpr}
use Rattle.ct_sexpr.specs.Expression.{Expressions, none, more}
use Rattle.ct_sexpr.specs.View.{expression_of, expressions_of}
use Rattle.ct_values.specs.declared.node.NodeId.{NodeId}
use Rattle.ct_values.specs.declared.node.Node.{Node}
use Rattle.ct_values.specs.Graph.{Nodes}
use Rattle.ct_values.specs.WellFormed.{IsWellFormedGraph}
use Rattle.ct_names.specs.Symbols.{field_sort_id}
use Rattle.ct_readback.specs.declared.value.Said.TheVariants as said
use Rattle.ct_readback.specs.declared.item.Part.TheVariants as parts
use Rattle.ct_readback.specs.Trees.{tree_at}
use Rattle.ct_readback.specs.TreeNode.{IsNodeOf, AreNodesOf}
use Rattle.ct_readback.specs.ItemAt.{IsEquationAt, AreEquationsAt}
use Rattle.ct_readback.specs.Said.{IsSaid, IsPart, AreNodesFor, all_points}
use Rattle.ct_readback.proofs.RestLemmas.{rest_at, rest_none, drop_none, drop_at}
use Rattle.ct_readback.proofs.TreeSteps.{AreTreesSoFar, trees_next, trees_stop, trees_all}
use Rattle.ct_readback.proofs.PartLemmas.{AreEquationsSoFar, equations_stop, equations_cycle, equations_node, equations_all, equations_all_cyclic}
use Rattle.ct_readback.proofs.GrowthLemmas.{trees_begins, equations_begins}

-- ---- arguments of a constructor

pub field_sort_is : (d : Declarations) (s : SelId) (t : SortId) → option_map (λ (x : Selector). x.sort) (slice_get d.sels s.0) ≡ Some t → t ≡ field_sort_id d s
field_sort_is d s t at = sym (ap (λ (o : Option SortId). unwrap_or o (record { 0 = 0 })) at)

module _ (d : Declarations) (fields : List SelId) (items : List Sexpr) (i : ℕ) (nodes : List NodeId) (count : length fields ≡ length items) where
  tree_first : (g : Nodes) (s : SelId) (x : Sexpr) → i < length items → slice_get fields i ≡ Some s → x ≡ get_or items i x → AreTreesSoFar d g fields (expressions_of items) (drop i fields) (expressions_of (drop i items)) nodes
      → AreTreesSoFar d g fields (expressions_of items) (s ∷ drop (suc i) fields) (more (expression_of x) (expressions_of (drop (suc i) items))) nodes
  tree_first g s x within is_s is_x so_far =
      subst (λ (es : Expressions). AreTreesSoFar d g fields (expressions_of items) (s ∷ drop (suc i) fields) es nodes) (rest_at items i x within is_x)
      (subst (λ (ss : List SelId). AreTreesSoFar d g fields (expressions_of items) ss (expressions_of (drop i items)) nodes) (drop_at fields i s is_s) so_far)

  pub tree_next : (g new : Nodes) (s : SelId) (t : SortId) (x : Sexpr) (n : NodeId) → IsWellFormedGraph d g → Begins g new → i < length items → slice_get fields i ≡ Some s → x ≡ get_or items i x → t ≡ field_sort_id d s
      → IsNodeOf d t (tree_at d t (expression_of x)) new (Some n) → AreTreesSoFar d g fields (expressions_of items) (drop i fields) (expressions_of (drop i items)) nodes
      → AreTreesSoFar d new fields (expressions_of items) (drop (i + 1) fields) (expressions_of (drop (i + 1) items)) (nodes ++ n ∷ [])
  tree_next g new s t x n formed grown within is_s is_x sort found so_far =
      let one : suc i ≡ i + 1 = omega arith in
      let first = tree_first g s x within is_s is_x so_far in
      let own = subst (λ (r : SortId). IsNodeOf d r (tree_at d r (expression_of x)) new (Some n)) sort found in
      subst (λ k. AreTreesSoFar d new fields (expressions_of items) (drop k fields) (expressions_of (drop k items)) (nodes ++ n ∷ [])) one
      (trees_next d new fields (expressions_of items) s (drop (suc i) fields) (expression_of x) (expressions_of (drop (suc i) items)) nodes n own
      (trees_begins d g new formed grown fields (expressions_of items) (s ∷ drop (suc i) fields) (more (expression_of x) (expressions_of (drop (suc i) items))) nodes first))

  pub tree_stop : (g h k : Nodes) (s : SelId) (t : SortId) (x : Sexpr) → i < length items → slice_get fields i ≡ Some s → x ≡ get_or items i x → t ≡ field_sort_id d s
      → IsNodeOf d t (tree_at d t (expression_of x)) h None → AreTreesSoFar d g fields (expressions_of items) (drop i fields) (expressions_of (drop i items)) nodes → AreNodesOf d fields (expressions_of items) k None
  tree_stop g h k s t x within is_s is_x sort found so_far =
      let own = subst (λ (r : SortId). IsNodeOf d r (tree_at d r (expression_of x)) h None) sort found in
      trees_stop d g h fields (expressions_of items) s (drop (suc i) fields) (expression_of x) (expressions_of (drop (suc i) items)) nodes own (tree_first g s x within is_s is_x so_far) k

  pub tree_all : (g : Nodes) → length items ≤ i → AreTreesSoFar d g fields (expressions_of items) (drop i fields) (expressions_of (drop i items)) nodes → AreNodesOf d fields (expressions_of items) g (Some nodes)
  tree_all g past so_far =
      trees_all d g fields (expressions_of items) nodes
      (subst (λ (es : Expressions). AreTreesSoFar d g fields (expressions_of items) [] es nodes) (rest_none items i past)
      (subst (λ (ss : List SelId). AreTreesSoFar d g fields (expressions_of items) ss (expressions_of (drop i items)) nodes) (drop_none fields i (omega (arith, past, count))) so_far))

-- ---- equations of a test

module _ (d : Declarations) (sorts : List SortId) (items : List Sexpr) (i : ℕ) (b : Bool) (nodes : List NodeId) (count : length items ≡ length sorts) where
  equation_first : (g : Nodes) (s : SortId) (x : Sexpr) → i < length sorts → slice_get sorts i ≡ Some s → x ≡ get_or items i x → AreEquationsSoFar d g sorts (expressions_of items) i (drop i sorts) (expressions_of (drop i items)) b nodes
      → AreEquationsSoFar d g sorts (expressions_of items) i (s ∷ drop (suc i) sorts) (more (expression_of x) (expressions_of (drop (suc i) items))) b nodes
  equation_first g s x within is_s is_x so_far =
      subst (λ (es : Expressions). AreEquationsSoFar d g sorts (expressions_of items) i (s ∷ drop (suc i) sorts) es b nodes) (rest_at items i x (omega (arith, within, count)) is_x)
      (subst (λ (ss : List SortId). AreEquationsSoFar d g sorts (expressions_of items) i ss (expressions_of (drop i items)) b nodes) (drop_at sorts i s is_s) so_far)

  pub equation_stop : (g h k : Nodes) (s : SortId) (x : Sexpr) → i < length sorts → slice_get sorts i ≡ Some s → x ≡ get_or items i x → IsSaid d h (IsEquationAt d i s (expression_of x)) s said.Nothing
      → AreEquationsSoFar d g sorts (expressions_of items) i (drop i sorts) (expressions_of (drop i items)) b nodes → IsPart d (AreEquationsAt d 0 sorts (expressions_of items)) all_points (AreNodesFor d k sorts) parts.Misfit
  equation_stop g h k s x within is_s is_x found so_far =
      equations_stop d g h k sorts (expressions_of items) i s (drop (suc i) sorts) (expression_of x) (expressions_of (drop (suc i) items)) b nodes (equation_first g s x within is_s is_x so_far) found

  pub equation_cycle : (g h k : Nodes) (s : SortId) (x : Sexpr) → i < length sorts → slice_get sorts i ≡ Some s → x ≡ get_or items i x → IsSaid d h (IsEquationAt d i s (expression_of x)) s said.Cycle
      → AreEquationsSoFar d g sorts (expressions_of items) i (drop i sorts) (expressions_of (drop i items)) b nodes
      → AreEquationsSoFar d k sorts (expressions_of items) (i + 1) (drop (i + 1) sorts) (expressions_of (drop (i + 1) items)) true nodes
  equation_cycle g h k s x within is_s is_x found so_far =
      let one : suc i ≡ i + 1 = omega arith in
      subst (λ n. AreEquationsSoFar d k sorts (expressions_of items) n (drop n sorts) (expressions_of (drop n items)) true nodes) one
      (equations_cycle d g h k sorts (expressions_of items) i s (drop (suc i) sorts) (expression_of x) (expressions_of (drop (suc i) items)) b nodes (equation_first g s x within is_s is_x so_far) found)

  pub equation_node : (g new : Nodes) (s : SortId) (x : Sexpr) (n : NodeId) → IsWellFormedGraph d g → Begins g new → i < length sorts → slice_get sorts i ≡ Some s → x ≡ get_or items i x → IsSaid d new (IsEquationAt d i s (expression_of x)) s (said.Value n)
      → AreEquationsSoFar d g sorts (expressions_of items) i (drop i sorts) (expressions_of (drop i items)) b nodes
      → AreEquationsSoFar d new sorts (expressions_of items) (i + 1) (drop (i + 1) sorts) (expressions_of (drop (i + 1) items)) b (nodes ++ n ∷ [])
  equation_node g new s x n formed grown within is_s is_x found so_far =
      let one : suc i ≡ i + 1 = omega arith in
      let first = equations_begins d g new formed grown sorts (expressions_of items) i (s ∷ drop (suc i) sorts) (more (expression_of x) (expressions_of (drop (suc i) items))) b nodes (equation_first g s x within is_s is_x so_far) in
      subst (λ k. AreEquationsSoFar d new sorts (expressions_of items) k (drop k sorts) (expressions_of (drop k items)) b (nodes ++ n ∷ [])) one
      (equations_node d new sorts (expressions_of items) i s (drop (suc i) sorts) (expression_of x) (expressions_of (drop (suc i) items)) b nodes n first found)

  equation_end : (g : Nodes) → length sorts ≤ i → AreEquationsSoFar d g sorts (expressions_of items) i (drop i sorts) (expressions_of (drop i items)) b nodes → AreEquationsSoFar d g sorts (expressions_of items) i [] none b nodes
  equation_end g past so_far =
      subst (λ (es : Expressions). AreEquationsSoFar d g sorts (expressions_of items) i [] es b nodes) (rest_none items i (omega (arith, past, count)))
      (subst (λ (ss : List SortId). AreEquationsSoFar d g sorts (expressions_of items) i ss (expressions_of (drop i items)) b nodes) (drop_none sorts i past) so_far)

  pub equation_all_cyclic : (g k : Nodes) → b ≡ true → length sorts ≤ i → AreEquationsSoFar d g sorts (expressions_of items) i (drop i sorts) (expressions_of (drop i items)) b nodes
      → IsPart d (AreEquationsAt d 0 sorts (expressions_of items)) all_points (AreNodesFor d k sorts) parts.Cycle
  equation_all_cyclic g k is past so_far =
      equations_all_cyclic d g k sorts (expressions_of items) i nodes (subst (λ (x : Bool). AreEquationsSoFar d g sorts (expressions_of items) i [] none x nodes) is (equation_end g past so_far))

  pub equation_all : (g : Nodes) → b ≡ false → length sorts ≤ i → AreEquationsSoFar d g sorts (expressions_of items) i (drop i sorts) (expressions_of (drop i items)) b nodes
      → IsPart d (AreEquationsAt d 0 sorts (expressions_of items)) all_points (AreNodesFor d g sorts) (parts.Fine nodes)
  equation_all g is past so_far =
      equations_all d g sorts (expressions_of items) i nodes (subst (λ (x : Bool). AreEquationsSoFar d g sorts (expressions_of items) i [] none x nodes) is (equation_end g past so_far))
