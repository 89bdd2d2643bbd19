-- What values read back as where they were printed.
use Rattle.std.proofs.Common.{◌≡◌, ℕ, suc, ◌≤◌, Bool, true, false, is_some, List, [], ◌∷◌, length, map, MatchBool, None, Some, option_map, unwrap_or, slice_get, refl, sym, ap, subst, ◌∙◌, inl, inr, codes, if◌then◌else◌}
use Rattle.std.specs.List.{AllZip}
use Rattle.std.proofs.lemmas.Option.{same_Some}
use Rattle.ct_lemmas.proofs.Options.{option_map-source}
use Rattle.ct_sorts.specs.declared.ids.SortId.{SortId}
use Rattle.ct_sorts.specs.declared.ids.SelId.{SelId}
use Rattle.ct_sorts.specs.Declarations.{Declarations}
use Rattle.ct_sorts.specs.Consistent.{IsConsistent}
use Rattle.ct_sexpr.specs.Expression.{Expression}
use Rattle.ct_sexpr.specs.Written.{written, canonical}
use Rattle.ct_sexpr.specs.Readable.{IsReadable}
use Rattle.ct_values.specs.declared.node.NodeId.{NodeId}
use Rattle.ct_values.specs.declared.node.Node.{Node}
use Rattle.ct_values.specs.declared.node.Node.TheVariants.{Con, Elem}
use Rattle.ct_values.specs.declared.node.Head.TheVariants as heads
use Rattle.ct_values.specs.Graph.{Nodes, node_head, node_children}
use Rattle.ct_values.specs.Value.{Value, Values, reference, element, construct, no_values, with_value, list_of, values_of, node_value, AreOver}
use Rattle.ct_values.specs.ValueSort.{HasValueSort, AreOfFields}
use Rattle.ct_values.specs.Agreement.{Point, point, node_point, AgreeAlways}
use Rattle.ct_values.specs.Fitting.{HasNodeSort, IsNodeOfField, FitsGraph}
use Rattle.ct_values.specs.WellFormed.{IsWellFormedGraph}
use Rattle.ct_values.proofs.AgreeLemmas.{AgreeAlways-parts, AgreeAlways-sym}
use Rattle.ct_values.proofs.NodeLemmas.{node_points}
use Rattle.ct_values.proofs.FittingLemmas.{minimal_fits}
use Rattle.ct_values.proofs.SortedLemmas.{agreeing_sorted}
use Rattle.ct_value_text.specs.ValueText.{StandsFor, expression, graph_text, IsTreeText, IsGraphText, IsValueText}
use Rattle.ct_value_text.proofs.SortTextLemmas.{TextTheorems}
use Rattle.ct_value_text.proofs.PlainLemmas.{AreNodesSorted, readable, graph_readable}
use Rattle.ct_readback.specs.Words.{number_bound}
use Rattle.ct_readback.specs.Parts.{parts_after}
use Rattle.ct_readback.specs.Cycles.{HasDataCycle}
use Rattle.ct_readback.specs.Trees.{is_tree, tree_at}
use Rattle.ct_readback.specs.GraphText.{is_graph}
use Rattle.ct_readback.specs.ValueAt.{begins_graph, is_value, IsTreeValue, IsGraphValue, IsValueAt}
use Rattle.ct_readback.proofs.SaidLemmas.{no_nodes_acyclic}
use Rattle.ct_readback.proofs.PrintedTrees.{IsSmall, AreSmall, tree_reads}
use Rattle.ct_readback.proofs.PrintedGraphs.{HasSmallElements, graph_reads}
use Rattle.ct_readback.proofs.PrintedCycles.{sort_across, minimal_acyclic, minimal_small, minimal_few}

-- a graph whose values can be printed: it is well formed, and its numbers are below the bound
pub record IsPrintable (d : Declarations) (g : Nodes) : Type 0 where
  pub consistent : IsConsistent d
  pub formed : IsWellFormedGraph d g
  pub small : HasSmallElements g
  pub few : length g ≤ number_bound

-- the expression reads as the node's value
pub record ValueReads (d : Declarations) (g : Nodes) (s : SortId) (n : NodeId) (e : Expression) : Type 0 where
  pub value : Point
  pub said : IsValueAt d s e value
  pub same : AgreeAlways (node_point g n) value
  pub only : (p : Point) → IsValueAt d s e p → p ≡ value
  pub acyclic : HasDataCycle d value.graph → ⊥
  pub form : is_value e ≡ true
  pub no_row : parts_after (codes "ite") e ≡ None

-- the text is that of an expression that reads so
pub record IsPrinted (text : List ℕ) (P : Expression → Type 0) : Type 0 where
  pub printed : Expression
  pub readable : IsReadable printed
  pub text_is : text ≡ written printed
  pub reads : P (canonical printed)

-- ---- the nodes of a graph that fits have sorts

module _ (d : Declarations) (g : Nodes) (fits : FitsGraph d g) where
  references : (ns : List NodeId) (ss : List SelId) → AllZip (IsNodeOfField d g) ns ss → AreOfFields d g (values_of (map reference ns)) ss
  references [] [] all = tt
  references [] (s ∷ ss) all = absurd all
  references (n ∷ ns) [] all = absurd all
  references (n ∷ ns) (s ∷ ss) all = ((all.0.selector, all.0.declared, all.0.sorted), references ns ss all.1)

  sorted_node : (i : ℕ) (x : Node) → slice_get g i ≡ Some x → (s : SortId) × HasValueSort d g (node_value x) s
  sorted_node i (Con c ns) at =
      let built = fits i (Con c ns) at in
      (built.ctor.sort, (built.ctor, built.declared, refl, references ns built.ctor.sels built.fields))
  sorted_node i (Elem t k) at = (t, (fits i (Elem t k) at, refl))

  sorted_from : (xs : List Node) → ((i : ℕ) (x : Node) → slice_get xs i ≡ Some x → (s : SortId) × HasValueSort d g (node_value x) s) → AreNodesSorted d g xs
  sorted_from [] each = tt
  sorted_from (x ∷ xs) each = (each 0 x refl, sorted_from xs (λ i y at. each (suc i) y at))

  sorted_nodes : AreNodesSorted d g g
  sorted_nodes = sorted_from g sorted_node

-- ---- trees

-- the elements of a tree for which a node stands are elements of the graph
small_element : (s : SortId) (n : ℕ) (y : Node) → node_head y ≡ heads.Elem s n → y ≡ Elem s n
small_element s n (Con c ks) e = cc
small_element s n (Elem t m) e = let sorts : t ≡ s = cc in let numbers : m ≡ n = cc in ap (λ u. Elem u m) sorts ∙ ap (Elem s) numbers

module _ (g : Nodes) (small : HasSmallElements g) where
  mutual
    small_tree : (v : Value) (n : NodeId) → StandsFor g n v → IsSmall v
    small_tree (reference m) n stands = tt
    small_tree (element s k) n stands =
        let parts = (AgreeAlways-parts (node_point g n) (point [] (element s k))).0 stands.1 in
        let y = option_map-source node_head (slice_get g n.0) (heads.Elem s k) parts.0 in
        small n.0 k s (y.1 ∙ ap Some (small_element s k y.0 y.2))
    small_tree (construct c vs) n stands =
        let parts = (AgreeAlways-parts (node_point g n) (point [] (construct c vs))).0 stands.1 in
        small_trees vs (unwrap_or (option_map node_children (slice_get g n.0)) []) stands.0 parts.1

    small_trees : (vs : Values) (ns : List NodeId) → AreOver [] vs → AllZip AgreeAlways (node_points g ns) (map (point []) (list_of vs)) → AreSmall vs
    small_trees no_values ns over pairs = tt
    small_trees (with_value v vs) [] over pairs = absurd pairs
    small_trees (with_value v vs) (n ∷ ns) over pairs = (small_tree v n (over.0, pairs.0), small_trees vs ns over.1 pairs.1)

tree_only : (d : Declarations) (s : SortId) (e : Expression) (v : Value) (p : Point) → tree_at d s e ≡ Some v → IsTreeValue d s e p → p ≡ point [] v
tree_only d s e v p said (w, at, is) = is ∙ ap (point []) (same_Some w v (sym at ∙ said))

tree_printed : TextTheorems → (d : Declarations) (g : Nodes) (s : SortId) (n : NodeId) (text : List ℕ) → IsPrintable d g → HasNodeSort d g n s → IsTreeText d g n text → IsPrinted text (ValueReads d g s n)
tree_printed theorems d g s n text printable sorted is =
    let v = is.tree in
    let value_sorted : HasValueSort d [] v s = agreeing_sorted d g [] printable.formed.fits (reference n) v s sorted is.stands_for.1 in
    let reads = tree_reads d v s printable.consistent value_sorted (small_tree g printable.small v n is.stands_for) in
    let e = canonical (expression d v) in
    let begins : begins_graph e ≡ false = ap is_some reads.no_graph in
    record {
      printed = expression d v;
      readable = readable theorems d printable.consistent [] v s value_sorted;
      text_is = is.text_is;
      reads = record {
        value = point [] v;
        said = subst (λ (b : Bool). MatchBool b (IsGraphValue d s e (point [] v)) (IsTreeValue d s e (point [] v))) (sym begins) (v, reads.said, refl);
        only = λ p is_value_at. tree_only d s e v p reads.said (subst (λ (b : Bool). MatchBool b (IsGraphValue d s e p) (IsTreeValue d s e p)) begins is_value_at);
        same = is.stands_for.1;
        acyclic = no_nodes_acyclic d;
        form = ap (λ (b : Bool). if b then is_graph e else is_tree e) begins ∙ reads.form;
        no_row = reads.no_row;
      };
    }

-- ---- graphs

graph_printed : TextTheorems → (d : Declarations) (g : Nodes) (s : SortId) (n : NodeId) (text : List ℕ) → IsPrintable d g → HasNodeSort d g n s → IsGraphText d g n text → IsPrinted text (ValueReads d g s n)
graph_printed theorems d g s n text printable sorted is =
    let h = is.minimal in
    let fits = minimal_fits d g n h printable.formed.fits is.is_minimal in
    let alike : AgreeAlways (node_point g n) (node_point h (record { 0 = 0 })) = AgreeAlways-sym (node_point h (record { 0 = 0 })) (node_point g n) is.is_minimal.same in
    let reads = graph_reads d s h printable.consistent fits is.is_minimal.breadth_first (minimal_small g h n printable.small is.is_minimal) (minimal_few g h n number_bound printable.few is.is_minimal) (sort_across d g h n (record { 0 = 0 }) s alike sorted) in
    record {
      printed = graph_text d h;
      readable = graph_readable theorems d printable.consistent h (sorted_nodes d h fits);
      text_is = is.text_is;
      reads = record {
        value = node_point h (record { 0 = 0 });
        said = (h, reads.said, refl);
        only = λ p at. at.2 ∙ ap (λ (x : Nodes). node_point x (record { 0 = 0 })) (reads.only at.0 at.1);
        same = alike;
        acyclic = minimal_acyclic d g h n printable.formed.finite is.is_minimal;
        form = reads.form;
        no_row = refl;
      };
    }

-- what is printed of a node reads as its value
pub value_printed : TextTheorems → (d : Declarations) (g : Nodes) (s : SortId) (n : NodeId) (text : List ℕ) → IsPrintable d g → HasNodeSort d g n s → IsValueText d g n text → IsPrinted text (ValueReads d g s n)
value_printed theorems d g s n text printable sorted (inl is) = tree_printed theorems d g s n text printable sorted is
value_printed theorems d g s n text printable sorted (inr is) = graph_printed theorems d g s n text printable sorted is
