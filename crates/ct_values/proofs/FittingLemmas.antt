-- Graphs that fit declarations: what their heads are, and that the minimal graph of a tree fits where the tree's graph does.
use Rattle.std.proofs.Common.{◌≡◌, ℕ, List, [], ◌∷◌, Some, option_map, slice_get, sym, ap, subst, ◌∙◌}
use Rattle.std.specs.List.{AllZip}
use Rattle.std.proofs.lemmas.Option.{same_Some, slice_get_within}
use Rattle.ct_lemmas.proofs.Options.{option_map-source}
use Rattle.ct_sorts.specs.declared.ids.CtorId.{CtorId}
use Rattle.ct_sorts.specs.declared.ids.SortId.{SortId}
use Rattle.ct_sorts.specs.declared.ids.SelId.{SelId}
use Rattle.ct_sorts.specs.Declarations.{Declarations, IsConstructor, IsSort}
use Rattle.ct_values.specs.declared.node.NodeId.{NodeId}
use Rattle.ct_values.specs.declared.node.Node.{Node}
use Rattle.ct_values.specs.declared.node.Node.TheVariants.{Con, Elem}
use Rattle.ct_values.specs.declared.node.Head.TheVariants as heads
use Rattle.ct_values.specs.Graph.{Nodes, node_head, node_children}
use Rattle.ct_values.specs.Agreement.{node_point, AgreeAlways}
use Rattle.ct_values.specs.Minimal.{IsMinimal}
use Rattle.ct_values.specs.Fitting.{node_sort, HasNodeSort, IsNodeOfField, FitsNode, FitsGraph}
use Rattle.ct_values.proofs.AgreeLemmas.{AgreeAlways-sym}
use Rattle.ct_values.proofs.NodeLemmas.{id, node_points}
use Rattle.ct_values.proofs.MinimalLemmas.{agreeing_node, like}

-- the constructor of a node that fits is declared, and so is the sort of an element
ctor_of_node : (d : Declarations) (g : Nodes) (x : Node) (c : CtorId) → FitsNode d g x → node_head x ≡ heads.Con c → IsConstructor d c
ctor_of_node d g (Con b ns) c fits e =
    let same : b ≡ c = cc in
    let within = slice_get_within d.ctors b.0 fits.ctor fits.declared in
    subst (IsConstructor d) same within
ctor_of_node d g (Elem s n) c fits e = cc

sort_of_node : (d : Declarations) (g : Nodes) (x : Node) (s : SortId) (n : ℕ) → FitsNode d g x → node_head x ≡ heads.Elem s n → IsSort d s
sort_of_node d g (Con b ns) s n fits e = cc
sort_of_node d g (Elem t m) s n fits e =
    let same : t ≡ s = cc in
    let within = slice_get_within d.sorts t.0 fits.sort fits.declared in
    subst (IsSort d) same within

pub ctor_of_head : (d : Declarations) (g : Nodes) (n : ℕ) (c : CtorId) → FitsGraph d g → option_map node_head (slice_get g n) ≡ Some (heads.Con c) → IsConstructor d c
ctor_of_head d g n c fits e =
    let x = option_map-source node_head (slice_get g n) (heads.Con c) e in
    ctor_of_node d g x.0 c (fits n x.0 x.1) x.2

pub sort_of_head : (d : Declarations) (g : Nodes) (n : ℕ) (s : SortId) (number : ℕ) → FitsGraph d g → option_map node_head (slice_get g n) ≡ Some (heads.Elem s number) → IsSort d s
sort_of_head d g n s number fits e =
    let x = option_map-source node_head (slice_get g n) (heads.Elem s number) e in
    sort_of_node d g x.0 s number (fits n x.0 x.1) x.2

-- ---- the minimal graph fits

node_sort_same : (d : Declarations) (x y : Node) → node_head x ≡ node_head y → node_sort d x ≡ node_sort d y
node_sort_same d (Con c cs) (Con e es) same = let is : c ≡ e = cc in ap (λ k. node_sort d (Con k [])) is
node_sort_same d (Con c cs) (Elem s n) same = cc
node_sort_same d (Elem s n) (Con c cs) same = cc
node_sort_same d (Elem s m) (Elem t n) same = let is : s ≡ t = cc in ap Some is

-- nodes that agree at every depth have one sort
same_sort : (d : Declarations) (g h : Nodes) (m n : NodeId) (s : SortId) → HasNodeSort d g m s → AgreeAlways (node_point g m) (node_point h n) → HasNodeSort d h n s
same_sort d g h m n s has always =
    let y = agreeing_node g h m n has.0 has.1 always in
    (y.0, y.1, node_sort_same d y.0 has.0 y.2 ∙ has.2)

same_fields : (d : Declarations) (g h : Nodes) (ms ns : List NodeId) (sels : List SelId) → AllZip (IsNodeOfField d g) ms sels → AllZip AgreeAlways (node_points g ms) (node_points h ns) → AllZip (IsNodeOfField d h) ns sels
same_fields d g h [] [] sels fields pairs = fields
same_fields d g h [] (n ∷ ns) sels fields pairs = absurd pairs
same_fields d g h (m ∷ ms) [] sels fields pairs = absurd pairs
same_fields d g h (m ∷ ms) (n ∷ ns) [] fields pairs = absurd fields
same_fields d g h (m ∷ ms) (n ∷ ns) (s ∷ sels) fields pairs =
    let first = fields.0 in
    let of : IsNodeOfField d h n s = record {
      selector = first.selector;
      declared = first.declared;
      sorted = same_sort d g h m n first.selector.sort first.sorted pairs.0;
    } in
    (of, same_fields d g h ms ns sels fields.1 pairs.1)

fits_same : (d : Declarations) (g h : Nodes) (x y : Node) → FitsNode d g x → node_head y ≡ node_head x → AllZip AgreeAlways (node_points g (node_children x)) (node_points h (node_children y)) → FitsNode d h y
fits_same d g h (Con c cs) (Con e es) fits same pairs =
    let is : e ≡ c = cc in
    record {
      ctor = fits.ctor;
      declared = ap (λ (k : CtorId). slice_get d.ctors k.0) is ∙ fits.declared;
      fields = same_fields d g h cs es fits.ctor.sels fits.fields pairs;
    }
fits_same d g h (Con c cs) (Elem s n) fits same pairs = cc
fits_same d g h (Elem s n) (Con c cs) fits same pairs = cc
fits_same d g h (Elem s m) (Elem t n) fits same pairs =
    let is : t ≡ s = cc in
    record {
      sort = fits.sort;
      declared = ap (λ (k : SortId). slice_get d.sorts k.0) is ∙ fits.declared;
      free = fits.free;
    }

pub minimal_fits : (d : Declarations) (g : Nodes) (root : NodeId) (h : Nodes) → FitsGraph d g → IsMinimal g root h → FitsGraph d h
minimal_fits d g root h fits minimal n x at =
    let found = like g h root minimal n (slice_get_within h n x at) in
    let y = agreeing_node h g (id n) found.0 x at found.1 in
    let back = agreeing_node g h found.0 (id n) y.0 y.1 (AgreeAlways-sym (node_point h (id n)) (node_point g found.0) found.1) in
    let same : back.0 ≡ x = same_Some back.0 x (sym back.1 ∙ at) in
    subst (λ (z : Node). FitsNode d h z) same (fits_same d g h y.0 back.0 (fits found.0.0 y.0 y.1) back.2 back.3)
