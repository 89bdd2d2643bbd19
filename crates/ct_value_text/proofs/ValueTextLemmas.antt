-- Two nodes have one text exactly where they are equal values.
use Rattle.std.proofs.Common.{◌≡◌, ℕ, zero, suc, ◌<◌, ◌↔◌, IsTrue, true, false, nat_eq, List, [], ◌∷◌, length, map, Some, option_map, slice_get, refl, sym, ap, ap₂, subst, ◌∙◌, inl, inr, ⊎_elim, arith}
use Rattle.std.specs.List.{AllZip, list_any}
use Rattle.std.proofs.lemmas.Bool.Decides.{Decides-eqb}
use Rattle.std.proofs.lemmas.Option.{none-some, same_Some, slice_get_within}
use Rattle.ct_lemmas.proofs.Booleans.{or_cases}
use Rattle.ct_lemmas.proofs.Lists.{slice_get-there}
use Rattle.ct_lemmas.proofs.Pairs.{AllZip-at_left}
use Rattle.ct_sorts.specs.declared.ids.SelId.{SelId}
use Rattle.ct_sorts.specs.declared.ids.SortId.{SortId}
use Rattle.ct_sorts.specs.Declarations.{Declarations, Constructor, Selector}
use Rattle.ct_sorts.specs.Consistent.{IsConsistent}
use Rattle.ct_sexpr.specs.Expression.{Expression}
use Rattle.ct_sexpr.specs.Written.{written, canonical}
use Rattle.ct_sexpr.specs.Readable.{IsReadable}
use Rattle.ct_values.specs.declared.node.NodeId.{NodeId}
use Rattle.ct_values.specs.declared.node.Node.{Node}
use Rattle.ct_values.specs.declared.node.Node.TheVariants as nodes
use Rattle.ct_values.specs.declared.node.Head.TheVariants.{Con, Elem}
use Rattle.ct_values.specs.Graph.{Nodes, node_children}
use Rattle.ct_values.specs.Value.{Value, Values, reference, element, construct, no_values, with_value, list_of, values_of, node_value, IsOver, AreOver}
use Rattle.ct_values.specs.ValueSort.{HasValueSort, AreOfFields}
use Rattle.ct_values.specs.Agreement.{point, node_point, AgreeAlways}
use Rattle.ct_values.specs.Fitting.{FitsGraph, IsNodeOfField, HasNodeSort, node_sort}
use Rattle.ct_values.specs.Minimal.{IsMinimal, IsBreadthFirst}
use Rattle.ct_value_text.specs.ValueText.{StandsFor, expression, graph_text, IsTreeText, IsGraphText, IsValueText}
use Rattle.ct_values.proofs.AgreeLemmas.{AgreeAlways-parts, AgreeAlways-sym, AgreeAlways-trans}
use Rattle.ct_values.proofs.MinimalLemmas.{one_minimal}
use Rattle.ct_values.proofs.FittingLemmas.{minimal_fits}
use Rattle.ct_values.proofs.SortedLemmas.{agreeing_sorted}
use Rattle.ct_value_text.proofs.SortTextLemmas.{TextTheorems}
use Rattle.ct_value_text.proofs.WritingLemmas.{stands_across}
use Rattle.ct_value_text.proofs.PlainLemmas.{AreNodesSorted, readable, value_same, node_value_same, not_graph_text, graph_alike, graph_readable}

-- ---- two trees that agree at every depth are one

mutual
  same_tree : (v w : Value) → IsOver [] v → IsOver [] w → AgreeAlways (point [] v) (point [] w) → v ≡ w
  same_tree (reference m) w v_over w_over alike = absurd (omega (arith, v_over))
  same_tree (element s m) (reference n) v_over w_over alike = absurd (omega (arith, w_over))
  same_tree (element s m) (element t n) v_over w_over alike =
      let parts = (AgreeAlways-parts (point [] (element s m)) (point [] (element t n))).0 alike in
      let same : Elem s m ≡ Elem t n = same_Some (Elem s m) (Elem t n) parts.0 in
      let sorts : s ≡ t = cc in
      let numbers : m ≡ n = cc in
      ap₂ element sorts numbers
  same_tree (element s m) (construct c ws) v_over w_over alike =
      let parts = (AgreeAlways-parts (point [] (element s m)) (point [] (construct c ws))).0 alike in
      let same : Elem s m ≡ Con c = same_Some (Elem s m) (Con c) parts.0 in
      cc
  same_tree (construct b vs) (reference n) v_over w_over alike = absurd (omega (arith, w_over))
  same_tree (construct b vs) (element t n) v_over w_over alike =
      let parts = (AgreeAlways-parts (point [] (construct b vs)) (point [] (element t n))).0 alike in
      let same : Con b ≡ Elem t n = same_Some (Con b) (Elem t n) parts.0 in
      cc
  same_tree (construct b vs) (construct c ws) v_over w_over alike =
      let parts = (AgreeAlways-parts (point [] (construct b vs)) (point [] (construct c ws))).0 alike in
      let same : Con b ≡ Con c = same_Some (Con b) (Con c) parts.0 in
      let heads : b ≡ c = cc in
      ap₂ construct heads (same_trees vs ws v_over w_over parts.1)

  same_trees : (vs ws : Values) → AreOver [] vs → AreOver [] ws → AllZip AgreeAlways (map (point []) (list_of vs)) (map (point []) (list_of ws)) → vs ≡ ws
  same_trees no_values no_values v_over w_over pairs = refl
  same_trees no_values (with_value w ws) v_over w_over pairs = absurd pairs
  same_trees (with_value v vs) no_values v_over w_over pairs = absurd pairs
  same_trees (with_value v vs) (with_value w ws) v_over w_over pairs =
      ap₂ with_value (same_tree v w v_over.0 w_over.0 pairs.0) (same_trees vs ws v_over.1 w_over.1 pairs.1)

-- ---- the sort of what a node stands for

module _ (d : Declarations) (g : Nodes) (fits : FitsGraph d g) where
  -- a tree has the sort of the node that stands for it
  sorted_tree : (n : NodeId) (s : SortId) (v : Value) → HasNodeSort d g n s → StandsFor g n v → HasValueSort d [] v s
  sorted_tree n s v sorted stands = agreeing_sorted d g [] fits (reference n) v s sorted stands.1

  references : (ns : List NodeId) (ss : List SelId) → AllZip (IsNodeOfField d g) ns ss → AreOfFields d g (values_of (map reference ns)) ss
  references [] [] all = tt
  references [] (s ∷ ss) all = absurd all
  references (n ∷ ns) [] all = absurd all
  references (n ∷ ns) (s ∷ ss) all = ((all.0.selector, all.0.declared, all.0.sorted), references ns ss all.1)

  -- what stands at a node has the sort of the node
  sorted_node : (i : ℕ) (x : Node) (s : SortId) → slice_get g i ≡ Some x → node_sort d x ≡ Some s → HasValueSort d g (node_value x) s
  sorted_node i (nodes.Con c ns) s at is =
      let built = fits i (nodes.Con c ns) at in
      let sort : built.ctor.sort ≡ s = same_Some built.ctor.sort s (sym (ap (option_map (λ (k : Constructor). k.sort)) built.declared) ∙ is) in
      (built.ctor, built.declared, sort, references ns built.ctor.sels built.fields)
  sorted_node i (nodes.Elem t k) s at is = (fits i (nodes.Elem t k) at, same_Some t s is)

  some_sort : (i : ℕ) (x : Node) → slice_get g i ≡ Some x → (s : SortId) × (node_sort d x ≡ Some s)
  some_sort i (nodes.Con c ns) at = let built = fits i (nodes.Con c ns) at in (built.ctor.sort, ap (option_map (λ (k : Constructor). k.sort)) built.declared)
  some_sort i (nodes.Elem t k) at = (t, refl)

sorted_all : (d : Declarations) (g : Nodes) (xs : List Node) → ((i : ℕ) (x : Node) → slice_get xs i ≡ Some x → (s : SortId) × HasValueSort d g (node_value x) s) → AreNodesSorted d g xs
sorted_all d g [] each = tt
sorted_all d g (x ∷ xs) each = (each 0 x refl, sorted_all d g xs (λ i y at. each (suc i) y at))

sorted_nodes : (d : Declarations) (g : Nodes) → FitsGraph d g → AreNodesSorted d g g
sorted_nodes d g fits = sorted_all d g g (λ i x at. let s = some_sort d g fits i x at in (s.0, sorted_node d g fits i x s.0 at s.1))

-- ---- two graphs whose roots have one sort and that are written alike are one

any_child : (n : ℕ) (ns : List NodeId) → IsTrue (list_any (nat_eq n) (map (λ (child : NodeId). child.0) ns)) → (k : ℕ) × (child : NodeId) × (slice_get ns k ≡ Some child) × (n ≡ child.0)
any_child n [] any = absurd (let e : false ≡ true = any in cc)
any_child n (c ∷ ns) any =
    ⊎_elim (λ first. (0, c, refl, (Decides-eqb n c.0).0 first)) (λ later. let rest = any_child n ns later in (suc rest.0, rest.1, rest.2, rest.3))
    (or_cases (nat_eq n c.0) (list_any (nat_eq n) (map (λ (child : NodeId). child.0) ns)) any)

one_list : (xs ys : List Node) → length xs ≡ length ys → ((i : ℕ) (x y : Node) → slice_get xs i ≡ Some x → slice_get ys i ≡ Some y → x ≡ y) → xs ≡ ys
one_list [] [] long each = refl
one_list [] (y ∷ ys) long each = absurd (omega (arith, long))
one_list (x ∷ xs) [] long each = absurd (omega (arith, long))
one_list (x ∷ xs) (y ∷ ys) long each = ap₂ (λ (z : Node) (zs : List Node). z ∷ zs) (each 0 x y refl refl) (one_list xs ys (omega (arith, long)) (λ i z w at_z at_w. each (suc i) z w at_z at_w))

module _ (theorems : TextTheorems) (d : Declarations) (consistent : IsConsistent d) (g h : Nodes) (g_fits : FitsGraph d g) (h_fits : FitsGraph d h) where
  -- the sort of a field of two nodes that are one
  same_field : (m k : ℕ) (x : Node) (child : NodeId) → slice_get g m ≡ Some x → slice_get h m ≡ Some x → slice_get (node_children x) k ≡ Some child → (t : SortId) × HasNodeSort d g child t × HasNodeSort d h child t
  same_field m k (nodes.Elem s n) child at_g at_h at = absurd (none-some child at)
  same_field m k (nodes.Con c ns) child at_g at_h at =
      let p = g_fits m (nodes.Con c ns) at_g in
      let q = h_fits m (nodes.Con c ns) at_h in
      let ctors : q.ctor ≡ p.ctor = same_Some q.ctor p.ctor (sym q.declared ∙ p.declared) in
      let first = AllZip-at_left (IsNodeOfField d g) ns p.ctor.sels k child p.fields at in
      let second = AllZip-at_left (IsNodeOfField d h) ns q.ctor.sels k child q.fields at in
      let sels : second.0 ≡ first.0 = same_Some second.0 first.0 (sym second.1 ∙ ap (λ (e : Constructor). slice_get e.sels k) ctors ∙ first.1) in
      let selectors : second.2.selector ≡ first.2.selector = same_Some second.2.selector first.2.selector (sym second.2.declared ∙ ap (λ (s : SelId). slice_get d.sels s.0) sels ∙ first.2.declared) in
      (first.2.selector.sort, first.2.sorted, subst (λ (s : Selector). HasNodeSort d h child s.sort) selectors second.2.sorted)

  module _ (breadth_first : IsBreadthFirst g) (s : SortId) (g_root : HasNodeSort d g (record { 0 = 0 }) s) (h_root : HasNodeSort d h (record { 0 = 0 }) s) (alike : canonical (graph_text d g) ≡ canonical (graph_text d h)) where
    long : length g ≡ length h
    long = (graph_alike d g h alike).0

    -- nodes of one number have one sort, where those before them are the same
    one_sort : (n : ℕ) → n < length g → ((m : ℕ) (x y : Node) → m < n → slice_get g m ≡ Some x → slice_get h m ≡ Some y → x ≡ y) → (t : SortId) × HasNodeSort d g (record { 0 = n }) t × HasNodeSort d h (record { 0 = n }) t
    one_sort zero within before = (s, g_root, h_root)
    one_sort (suc n) within before =
        let up = breadth_first.reached (suc n) (omega arith) within in
        let child = any_child (suc n) (node_children up.2.0) up.2.2 in
        let y = slice_get-there h up.0 (omega (arith, long, up.1, within)) in
        let same : up.2.0 ≡ y.0 = before up.0 up.2.0 y.0 up.1 up.2.1 y.1 in
        let sorts = same_field up.0 child.0 up.2.0 child.1 up.2.1 (y.1 ∙ ap (λ (x : Node). Some x) (sym same)) child.2 in
        let number : child.1 ≡ record { 0 = suc n } = λ i. record { 0 = sym child.3 i } in
        (sorts.0, subst (λ (k : NodeId). HasNodeSort d g k sorts.0) number sorts.1, subst (λ (k : NodeId). HasNodeSort d h k sorts.0) number sorts.2)

    same_node : (n : ℕ) (x y : Node) (t : SortId) → slice_get g n ≡ Some x → slice_get h n ≡ Some y → HasNodeSort d g (record { 0 = n }) t → HasNodeSort d h (record { 0 = n }) t → x ≡ y
    same_node n x y t at_x at_y in_g in_h =
        let g_sort : node_sort d x ≡ Some t = ap (node_sort d) (same_Some x in_g.0 (sym at_x ∙ in_g.1)) ∙ in_g.2 in
        let h_sort : node_sort d y ≡ Some t = ap (node_sort d) (same_Some y in_h.0 (sym at_y ∙ in_h.1)) ∙ in_h.2 in
        node_value_same x y (value_same theorems d consistent g h (node_value x) (node_value y) t (sorted_node d g g_fits n x t at_x g_sort) (sorted_node d h h_fits n y t at_y h_sort) ((graph_alike d g h alike).1 n x y at_x at_y))

    same_below : (bound n : ℕ) (x y : Node) → n < bound → slice_get g n ≡ Some x → slice_get h n ≡ Some y → x ≡ y
    same_below zero n x y below at_x at_y = absurd (omega (arith, below))
    same_below (suc bound) n x y below at_x at_y =
        let sorts = one_sort n (slice_get_within g n x at_x) (λ m v w before at_v at_w. same_below bound m v w (omega (arith, before, below)) at_v at_w) in
        same_node n x y sorts.0 at_x at_y sorts.1 sorts.2

    graph_same : g ≡ h
    graph_same = one_list g h long (λ n x y at_x at_y. same_below (suc n) n x y (omega arith) at_x at_y)

-- ---- texts

-- readable expressions that are written alike are the same but for quoting
plain_same : TextTheorems → (e f : Expression) (x y : List ℕ) → IsReadable e → IsReadable f → x ≡ written e → y ≡ written f → x ≡ y → canonical e ≡ canonical f
plain_same theorems e f x y e_readable f_readable x_is y_is same = (theorems.same_text e f e_readable f_readable).0 (sym x_is ∙ same ∙ y_is)

-- the root of the minimal graph has the sort of the node
root_sorted : (d : Declarations) (g h : Nodes) (a : NodeId) (s : SortId) → FitsGraph d g → IsMinimal g a h → HasNodeSort d g a s → HasNodeSort d h (record { 0 = 0 }) s
root_sorted d g h a s fits minimal sorted =
    agreeing_sorted d g h fits (reference a) (reference (record { 0 = 0 })) s sorted (AgreeAlways-sym (node_point h (record { 0 = 0 })) (node_point g a) minimal.same)

module _ (theorems : TextTheorems) (d : Declarations) (consistent : IsConsistent d) (g h : Nodes) (a b : NodeId) (s : SortId) (g_fits : FitsGraph d g) (h_fits : FitsGraph d h) (g_sorted : HasNodeSort d g a s) (h_sorted : HasNodeSort d h b s) where
  -- one text, two trees
  tree_tree : (x y : List ℕ) → IsTreeText d g a x → IsTreeText d h b y → x ≡ y → AgreeAlways (node_point g a) (node_point h b)
  tree_tree x y first second same =
      let v = first.tree in
      let w = second.tree in
      let v_sorted = sorted_tree d g g_fits a s v g_sorted first.stands_for in
      let w_sorted = sorted_tree d h h_fits b s w h_sorted second.stands_for in
      let plains = plain_same theorems (expression d v) (expression d w) x y (readable theorems d consistent [] v s v_sorted) (readable theorems d consistent [] w s w_sorted) first.text_is second.text_is same in
      let trees = value_same theorems d consistent [] [] v w s v_sorted w_sorted plains in
      let of_v : AgreeAlways (node_point h b) (point [] v) = subst (λ (u : Value). AgreeAlways (node_point h b) (point [] u)) (sym trees) second.stands_for.1 in
      AgreeAlways-trans (node_point g a) (point [] v) (node_point h b) first.stands_for.1 (AgreeAlways-sym (node_point h b) (point [] v) of_v)

  -- one text, two graphs
  graph_graph : (x y : List ℕ) → IsGraphText d g a x → IsGraphText d h b y → x ≡ y → AgreeAlways (node_point g a) (node_point h b)
  graph_graph x y first second same =
      let k = first.minimal in
      let l = second.minimal in
      let k_fits = minimal_fits d g a k g_fits first.is_minimal in
      let l_fits = minimal_fits d h b l h_fits second.is_minimal in
      let plains = plain_same theorems (graph_text d k) (graph_text d l) x y (graph_readable theorems d consistent k (sorted_nodes d k k_fits)) (graph_readable theorems d consistent l (sorted_nodes d l l_fits)) first.text_is second.text_is same in
      (one_minimal g h a b k l first.is_minimal second.is_minimal).0
      (graph_same theorems d consistent k l k_fits l_fits first.is_minimal.breadth_first s (root_sorted d g k a s g_fits first.is_minimal g_sorted) (root_sorted d h l b s h_fits second.is_minimal h_sorted) plains)

-- a tree and a graph never have one text
tree_graph : TextTheorems → (d : Declarations) → IsConsistent d → (g h : Nodes) (a b : NodeId) (s : SortId) → FitsGraph d g → FitsGraph d h → HasNodeSort d g a s → (x y : List ℕ) → IsTreeText d g a x → IsGraphText d h b y → x ≡ y → ⊥
tree_graph theorems d consistent g h a b s g_fits h_fits g_sorted x y first second same =
    let v = first.tree in
    let l = second.minimal in
    let v_sorted = sorted_tree d g g_fits a s v g_sorted first.stands_for in
    let l_fits = minimal_fits d h b l h_fits second.is_minimal in
    let plains = plain_same theorems (expression d v) (graph_text d l) x y (readable theorems d consistent [] v s v_sorted) (graph_readable theorems d consistent l (sorted_nodes d l l_fits)) first.text_is second.text_is same in
    not_graph_text theorems d consistent [] v l s v_sorted plains

-- equal nodes do not have a tree's and a graph's text
no_mix : (d : Declarations) (g h : Nodes) (a b : NodeId) (x y : List ℕ) → IsTreeText d g a x → IsGraphText d h b y → AgreeAlways (node_point g a) (node_point h b) → ⊥
no_mix d g h a b x y first second alike =
    omega (arith, first.few, second.many first.tree (stands_across g h a b first.tree alike first.stands_for))

-- the text of a value is one
same_value_text : (d : Declarations) (g h : Nodes) (a b : NodeId) (x y : List ℕ) → IsValueText d g a x → IsValueText d h b y → AgreeAlways (node_point g a) (node_point h b) → x ≡ y
same_value_text d g h a b x y (inl first) (inl second) alike =
    let w_stands = stands_across g h a b first.tree alike first.stands_for in
    let trees : first.tree ≡ second.tree = same_tree first.tree second.tree first.stands_for.0 second.stands_for.0 (AgreeAlways-trans (point [] first.tree) (node_point h b) (point [] second.tree) (AgreeAlways-sym (node_point h b) (point [] first.tree) w_stands.1) second.stands_for.1) in
    first.text_is ∙ ap (λ (v : Value). written (expression d v)) trees ∙ sym second.text_is
same_value_text d g h a b x y (inl first) (inr second) alike = absurd (no_mix d g h a b x y first second alike)
same_value_text d g h a b x y (inr first) (inl second) alike = absurd (no_mix d h g b a y x second first (AgreeAlways-sym (node_point g a) (node_point h b) alike))
same_value_text d g h a b x y (inr first) (inr second) alike =
    let graphs = (one_minimal g h a b first.minimal second.minimal first.is_minimal second.is_minimal).1 alike in
    first.text_is ∙ ap (λ (s : Nodes). written (graph_text d s)) graphs ∙ sym second.text_is

-- nodes of one sort and one text are equal values
alike_by_text : TextTheorems → (d : Declarations) → IsConsistent d → (g h : Nodes) (a b : NodeId) (s : SortId) → FitsGraph d g → FitsGraph d h → HasNodeSort d g a s → HasNodeSort d h b s → (x y : List ℕ) → IsValueText d g a x → IsValueText d h b y → x ≡ y → AgreeAlways (node_point g a) (node_point h b)
alike_by_text theorems d consistent g h a b s g_fits h_fits g_sorted h_sorted x y (inl first) (inl second) same = tree_tree theorems d consistent g h a b s g_fits h_fits g_sorted h_sorted x y first second same
alike_by_text theorems d consistent g h a b s g_fits h_fits g_sorted h_sorted x y (inl first) (inr second) same = absurd (tree_graph theorems d consistent g h a b s g_fits h_fits g_sorted x y first second same)
alike_by_text theorems d consistent g h a b s g_fits h_fits g_sorted h_sorted x y (inr first) (inl second) same = absurd (tree_graph theorems d consistent h g b a s h_fits g_fits h_sorted y x second first (sym same))
alike_by_text theorems d consistent g h a b s g_fits h_fits g_sorted h_sorted x y (inr first) (inr second) same = graph_graph theorems d consistent g h a b s g_fits h_fits g_sorted h_sorted x y first second same

pub one_text : TextTheorems → (d : Declarations) (g h : Nodes) (a b : NodeId) (s : SortId) (x y : List ℕ) → IsConsistent d → FitsGraph d g → FitsGraph d h → HasNodeSort d g a s → HasNodeSort d h b s → IsValueText d g a x → IsValueText d h b y → (x ≡ y) ↔ AgreeAlways (node_point g a) (node_point h b)
one_text theorems d g h a b s x y consistent g_fits h_fits g_sorted h_sorted first second = (
  alike_by_text theorems d consistent g h a b s g_fits h_fits g_sorted h_sorted x y first second,
  same_value_text d g h a b x y first second,
)
