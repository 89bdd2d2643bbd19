-- Graphs that grow: what fits goes on fitting, and the order of datatype nodes stays.
use Rattle.std.proofs.Common.{◌≡◌, ℕ, zero, suc, ◌+◌, ◌<◌, List, [], ◌∷◌, ◌++◌, length, slice_get, Some, option_map, Contains, sym, ◌∙◌, ap, subst, inl, inr, arith}
use Rattle.std.specs.List.{AllZip}
use Rattle.std.proofs.lemmas.Option.{none-some, same_Some, slice_get_within, slice_get-get_or}
use Rattle.ct_lemmas.proofs.Lists.{slice_get-append_cases, slice_get-append_left, slice_get-last, slice_get-there}
use Rattle.ct_sorts.specs.declared.ids.CtorId.{CtorId}
use Rattle.ct_sorts.specs.declared.ids.SelId.{SelId}
use Rattle.ct_sorts.specs.declared.ids.SortId.{SortId}
use Rattle.ct_sorts.specs.declared.ids.Kind.TheVariants.{Free}
use Rattle.ct_sorts.specs.Declarations.{Declarations, Sort}
use Rattle.ct_sorts.specs.Grown.{Begins}
use Rattle.ct_values.specs.declared.node.Head.{Head}
use Rattle.ct_values.specs.declared.node.NodeId.{NodeId}
use Rattle.ct_values.specs.declared.node.Node.{Node}
use Rattle.ct_values.specs.declared.node.Node.TheVariants.{Con, Elem}
use Rattle.ct_values.specs.Graph.{Nodes, node_head, node_children}
use Rattle.ct_values.specs.Fitting.{HasNodeSort, IsNodeOfField, IsElement, FitsNode, node_sort}
use Rattle.ct_values.specs.WellFormed.{IsData, IsWellFormedGraph}

-- a node of a graph keeps its sort
pub longer_sort : (d : Declarations) (g more : Nodes) (n : NodeId) (s : SortId) → HasNodeSort d g n s → HasNodeSort d (g ++ more) n s
longer_sort d g more n s (node, at, sorted) = (node, slice_get-append_left g more n.0 node at, sorted)

pub begins_sort : (d : Declarations) (g longer : Nodes) (n : NodeId) (s : SortId) → Begins g longer → HasNodeSort d g n s → HasNodeSort d longer n s
begins_sort d g longer n s (more, is) has = subst (λ (h : Nodes). HasNodeSort d h n s) (sym is) (longer_sort d g more n s has)

-- a node that has a sort is in the graph, and has no other
pub sort_within : (d : Declarations) (g : Nodes) (n : NodeId) (s : SortId) → HasNodeSort d g n s → n.0 < length g
sort_within d g n s (node, at, sorted) = slice_get_within g n.0 node at

pub one_node_sort : (d : Declarations) (g : Nodes) (n : NodeId) (s t : SortId) → HasNodeSort d g n s → HasNodeSort d g n t → s ≡ t
one_node_sort d g n s t (x, at_x, of_x) (y, at_y, of_y) =
    let same : x ≡ y = same_Some x y (sym at_x ∙ at_y) in
    same_Some s t (sym of_x ∙ ap (λ (z : Node). elim z [ Con c children ↦ option_map (λ k. k.sort) (slice_get d.ctors c.0) | Elem q m ↦ Some q ]) same ∙ of_y)

-- and had it before
shorter_sort : (d : Declarations) (g more : Nodes) (n : NodeId) (s : SortId) → n.0 < length g → HasNodeSort d (g ++ more) n s → HasNodeSort d g n s
shorter_sort d g more n s within (node, at, sorted) =
    elim (slice_get-append_cases g more n.0 node at) [
      | inl h ↦ (node, h, sorted)
      | inr (k, e, h) ↦ absurd (omega arith)
    ]

shorter_data : (d : Declarations) (g more : Nodes) (n : NodeId) → n.0 < length g → IsData d (g ++ more) n → IsData d g n
shorter_data d g more n within (s, sort, has, at, kind) = (s, sort, shorter_sort d g more n s within has, at, kind)

longer_fields : (d : Declarations) (g more : Nodes) (children : List NodeId) (sels : List SelId) → AllZip (IsNodeOfField d g) children sels → AllZip (IsNodeOfField d (g ++ more)) children sels
longer_fields d g more [] [] h = tt
longer_fields d g more [] (s ∷ sels) h = absurd h
longer_fields d g more (n ∷ ns) [] h = absurd h
longer_fields d g more (n ∷ ns) (s ∷ sels) h =
    (record { selector = h.0.selector; declared = h.0.declared; sorted = longer_sort d g more n h.0.selector.sort h.0.sorted }, longer_fields d g more ns sels h.1)

pub longer_fits : (d : Declarations) (g more : Nodes) (node : Node) → FitsNode d g node → FitsNode d (g ++ more) node
longer_fits d g more (Con c children) h = record { ctor = h.ctor; declared = h.declared; fields = longer_fields d g more children h.ctor.sels h.fields }
longer_fits d g more (Elem s n) h = h

-- a child of a node that fits is a node
child_within : (d : Declarations) (g : Nodes) (children : List NodeId) (sels : List SelId) (k : ℕ) (child : NodeId) → AllZip (IsNodeOfField d g) children sels → slice_get children k ≡ Some child → child.0 < length g
child_within d g [] sels k child h at = absurd (none-some _ at)
child_within d g (n ∷ ns) [] k child h at = absurd h
child_within d g (n ∷ ns) (s ∷ sels) zero child h at =
    subst (λ (m : NodeId). m.0 < length g) (same_Some _ _ at) (slice_get_within g n.0 h.0.sorted.0 h.0.sorted.1)
child_within d g (n ∷ ns) (s ∷ sels) (suc k) child h at = child_within d g ns sels k child h.1 at

pub fits_within : (d : Declarations) (g : Nodes) (node : Node) (k : ℕ) (child : NodeId) → FitsNode d g node → slice_get (node_children node) k ≡ Some child → child.0 < length g
fits_within d g (Con c children) k child h at = child_within d g children h.ctor.sels k child h.fields at
fits_within d g (Elem s n) k child h at = absurd (none-some _ at)

-- what is among the children stands at an index
listed_child : (children : List NodeId) (child : NodeId) → Contains children child → (k : ℕ) × (slice_get children k ≡ Some child)
listed_child children child (k, within, is) = (k, slice_get-get_or children k child within ∙ ap Some is)

-- nodes after a well-formed graph that fit, and whose children of datatypes come before them, keep it well formed
pub well_formed_longer : (d : Declarations) (g more : Nodes) → IsWellFormedGraph d g
    → ((i : ℕ) (node : Node) → slice_get more i ≡ Some node → FitsNode d (g ++ more) node)
    → ((i k : ℕ) (node : Node) (child : NodeId) → slice_get more i ≡ Some node → slice_get (node_children node) k ≡ Some child → IsData d (g ++ more) (record { 0 = length g + i }) → IsData d (g ++ more) child → child.0 < length g + i)
    → IsWellFormedGraph d (g ++ more)
well_formed_longer d g more formed fit before =
    record {
      fits = λ n node at. elim (slice_get-append_cases g more n node at) [
        | inl h ↦ longer_fits d g more node (formed.fits n node h)
        | inr (k, e, h) ↦ fit k node h
      ];
      finite = λ n child node at contains data_n data_child.
          let listed = listed_child (node_children node) child contains in
          elim (slice_get-append_cases g more n.0 node at) [
            | inl h ↦
                let within : child.0 < length g = fits_within d g node listed.0 child (formed.fits n.0 node h) listed.1 in
                formed.finite n child node h contains (shorter_data d g more n (slice_get_within g n.0 node h) data_n) (shorter_data d g more child within data_child)
            | inr (k, e, h) ↦
                let same : n ≡ record { 0 = length g + k } = ap (λ m. record { 0 = m }) e in
                let less : child.0 < length g + k = before k listed.0 node child h listed.1 (subst (λ (m : NodeId). IsData d (g ++ more) m) same data_n) data_child in
                omega arith
          ];
    }

-- one more node that fits a well-formed graph
pub well_formed_pushed : (d : Declarations) (g : Nodes) (node : Node) → IsWellFormedGraph d g → FitsNode d g node → IsWellFormedGraph d (g ++ node ∷ [])
well_formed_pushed d g node formed fit =
    well_formed_longer d g (node ∷ []) formed
    (λ i other at. subst (λ (x : Node). FitsNode d (g ++ node ∷ []) x) (one i other at) (longer_fits d g (node ∷ []) node fit))
    (λ i k other child at listed _ _.
    let less : child.0 < length g = fits_within d g other k child (subst (λ (x : Node). FitsNode d g x) (one i other at) fit) listed in
    omega arith)
  where
    one : (i : ℕ) (other : Node) → slice_get (node ∷ []) i ≡ Some other → node ≡ other
    one zero other at = same_Some _ _ at
    one (suc i) other at = absurd (none-some _ at)

-- the sort of the node that was pushed
pub pushed_sort : (d : Declarations) (g : Nodes) (node : Node) (n : NodeId) (s : SortId) → n.0 ≡ length g → node_sort d node ≡ Some s → HasNodeSort d (g ++ node ∷ []) n s
pushed_sort d g node n s e sorted = (node, ap (slice_get (g ++ node ∷ [])) e ∙ slice_get-last g node, sorted)

-- a sort of this kind has elements
pub element_of : (d : Declarations) (s : ℕ) → s < length d.sorts → option_map (λ (x : Sort). x.kind) (slice_get d.sorts s) ≡ Some Free → IsElement d s
element_of d s within e =
    let sort = slice_get-there d.sorts s within in
    record { sort = sort.0; declared = sort.1; free = same_Some _ _ (ap (option_map (λ (x : Sort). x.kind)) (sym sort.1) ∙ e) }

-- a node is told by its head and its children
node_of : (x : Node) (head : Head) (children : List NodeId) → node_head x ≡ head → node_children x ≡ children → (node : Node) → node_head node ≡ head → node_children node ≡ children → x ≡ node
node_of (Con c cs) head children h k (Con e es) h_too k_too = let same : c ≡ e = cc in ap (λ (z : CtorId). Con z cs) same ∙ ap (Con e) (k ∙ sym k_too)
node_of (Con c cs) head children h k (Elem s n) h_too k_too = cc
node_of (Elem s n) head children h k (Con e es) h_too k_too = cc
node_of (Elem s n) head children h k (Elem t m) h_too k_too = let same : s ≡ t = cc in let number : n ≡ m = cc in ap (λ (z : SortId). Elem z n) same ∙ ap (Elem t) number

-- no nodes are a well-formed graph
pub empty_well_formed : (d : Declarations) (g : Nodes) → g ≡ [] → IsWellFormedGraph d g
empty_well_formed d g e = record {
  fits = λ n node at. absurd (none-some node (ap (λ (h : Nodes). slice_get h n) (sym e) ∙ at));
  finite = λ n child node at inside is is_child. absurd (none-some node (ap (λ (h : Nodes). slice_get h n.0) (sym e) ∙ at));
}
