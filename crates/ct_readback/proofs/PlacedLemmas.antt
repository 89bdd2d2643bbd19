-- A graph put after another one in an order: its nodes there have the values and the sorts that they had, and datatypes stay finite.
use Rattle.std.proofs.Common.{◌≡◌, ℕ, zero, suc, ◌+◌, ◌<◌, ◌⊎◌, Bool, true, IsTrue, List, [], ◌∷◌, ◌++◌, length, length-append, All, Contains, Option, None, Some, is_some, unwrap_or, true≢false, slice_get, get_or, refl, sym, ap, subst, ◌∙◌, inl, inr, arith}
use Rattle.std.specs.List.{AllZip, filter}
use Rattle.std.proofs.lemmas.Option.{same_Some, slice_get_within, slice_get-get_or}
use Rattle.ct_lemmas.proofs.Lists.{slice_get-append_right, slice_get-append_cases}
use Rattle.ct_lemmas.proofs.Contained.{Contains-from_slice_get}
use Rattle.ct_lemmas.proofs.Pairs.{AllZip-at_left, AllZip-at_right}
use Rattle.ct_sorts.specs.declared.ids.SelId.{SelId}
use Rattle.ct_sorts.specs.declared.ids.SortId.{SortId}
use Rattle.ct_sorts.specs.declared.ids.CtorId.{CtorId}
use Rattle.ct_sorts.specs.Declarations.{Declarations}
use Rattle.ct_values.specs.declared.node.NodeId.{NodeId}
use Rattle.ct_values.specs.declared.node.Node.{Node}
use Rattle.ct_values.specs.declared.node.Node.TheVariants.{Con, Elem}
use Rattle.ct_values.specs.Graph.{Nodes, HasChildrenBelow, node_head, node_children}
use Rattle.ct_values.specs.Agreement.{node_point, agree}
use Rattle.ct_values.specs.Fitting.{node_sort, HasNodeSort, IsNodeOfField, FitsNode}
use Rattle.ct_values.specs.WellFormed.{IsData, IsWellFormedGraph}
use Rattle.ct_values.proofs.AgreeLemmas.{agree-zero}
use Rattle.ct_values.proofs.NodeLemmas.{node_points, agree-nodes}
use Rattle.ct_card.proofs.WellFormedLemmas.{fits_within, longer_fits, listed_child}
use Rattle.ct_ordering.specs.Graph.{Graph, HasKid}
use Rattle.ct_ordering.specs.Order.{IsOrder, StandsAt as StandsIn}
use Rattle.ct_readback.specs.Cycles.{IsDataStep}
use Rattle.ct_readback.specs.Descent.{HasSort, has_some, IsUpperPart}
use Rattle.ct_readback.specs.Placed.{numbered_node, AreDataEdges, ArePlaces, StandsAt, IsMoved, IsPlacedRoot}
use Rattle.ct_readback.proofs.FilterLemmas.{filter_from, filter_to, filter_rising}

-- nodes with one head have one sort
sort_by_head : (d : Declarations) (x y : Node) → node_head x ≡ node_head y → node_sort d x ≡ node_sort d y
sort_by_head d (Con c cs) (Con e es) same = let is : c ≡ e = cc in ap (λ k. node_sort d (Con k [])) is
sort_by_head d (Con c cs) (Elem s n) same = cc
sort_by_head d (Elem s n) (Con c cs) same = cc
sort_by_head d (Elem s m) (Elem t n) same = let is : s ≡ t = cc in ap Some is

-- what stands at an index is contained
contained_at : (children : List NodeId) (k : ℕ) (child : NodeId) → slice_get children k ≡ Some child → Contains children child
contained_at children k child at = Contains-from_slice_get children k child at

-- nodes of a longer graph, in the graph before
shorter_sort : (d : Declarations) (g more : Nodes) (n : NodeId) (s : SortId) → n.0 < length g → HasNodeSort d (g ++ more) n s → HasNodeSort d g n s
shorter_sort d g more n s within (node, at, sorted) =
    elim (slice_get-append_cases g more n.0 node at) [
      | inl h ↦ (node, h, sorted)
      | inr (k, e, h) ↦ absurd (omega arith)
    ]

shorter_data : (d : Declarations) (g more : Nodes) (n : NodeId) → n.0 < length g → IsData d (g ++ more) n → IsData d g n
shorter_data d g more n within (s, sort, has, at, kind) = (s, sort, shorter_sort d g more n s within has, at, kind)

-- nodes after a well-formed graph that fit, and whose children of datatypes come before those of datatypes, keep it well formed
pub well_formed_after : (d : Declarations) (g more : Nodes) → IsWellFormedGraph d g
    → ((i : ℕ) (node : Node) → slice_get more i ≡ Some node → FitsNode d (g ++ more) node)
    → ((i k : ℕ) (node : Node) (child : NodeId) → slice_get more i ≡ Some node → slice_get (node_children node) k ≡ Some child → IsData d (g ++ more) (numbered_node (length g + i)) → IsData d (g ++ more) child → child.0 < length g + i)
    → IsWellFormedGraph d (g ++ more)
well_formed_after d g more formed fit before =
    record {
      fits = λ n node at. elim (slice_get-append_cases g more n node at) [
        | inl h ↦ longer_fits d g more node (formed.fits n node h)
        | inr (k, e, h) ↦ fit k node h
      ];
      finite = λ n child node at contains data_n data_child.
          let listed = listed_child (node_children node) child contains in
          elim (slice_get-append_cases g more n.0 node at) [
            | inl h ↦
                let within : child.0 < length g = fits_within d g node listed.0 child (formed.fits n.0 node h) listed.1 in
                formed.finite n child node h contains (shorter_data d g more n (slice_get_within g n.0 node h) data_n) (shorter_data d g more child within data_child)
            | inr (k, e, h) ↦
                let same : n ≡ numbered_node (length g + k) = ap (λ m. numbered_node m) e in
                let less : child.0 < length g + k = before k listed.0 node child h listed.1 (subst (λ (m : NodeId). IsData d (g ++ more) m) same data_n) data_child in
                omega arith
          ];
    }

-- the kids of a point stand before it
abbrev pub ComesBefore : Graph → List ℕ → Type 0
ComesBefore e points = (point place kid earlier later : ℕ) → HasKid e point place kid → StandsIn points earlier kid → StandsIn points later point → earlier < later

-- so they do where points are left out of an order
pub before_filtered : (e : Graph) (P : ℕ → Bool) (all : List ℕ) → IsOrder e all → ComesBefore e (filter P all)
before_filtered e P all order point place kid earlier later has at_kid at_point =
    elim (nat_lt-or earlier later) [
      | inl less ↦ less
      | inr (inl same) ↦
          let one : kid ≡ point = same_Some kid point (sym at_kid ∙ ap (slice_get (filter P all)) same ∙ at_point) in
          let found = filter_from P all earlier kid at_kid in
          let again : slice_get all found.0 ≡ Some point = found.1 ∙ ap Some one in
          let less = order.before point place kid found.0 found.0 has found.1 again in
          absurd (omega (arith, less))
      | inr (inr more) ↦
          let found = filter_rising P all later earlier point kid more at_point at_kid in
          let less = order.before point place kid found.1 found.0 has found.3 found.2 in
          let rising = found.4 in
          absurd (omega (arith, less, rising))
    ]
  where
    nat_lt-or : (m n : ℕ) → (m < n) ⊎ ((m ≡ n) ⊎ (n < m))
    nat_lt-or zero zero = inr (inl refl)
    nat_lt-or zero (suc n) = inl (omega arith)
    nat_lt-or (suc m) zero = inr (inr (omega arith))
    nat_lt-or (suc m) (suc n) = elim (nat_lt-or m n) [ inl less ↦ inl (omega (arith, less)) | inr (inl same) ↦ inr (inl (ap suc same)) | inr (inr more) ↦ inr (inr (omega (arith, more))) ]

-- the node has some sort
abbrev pub IsSorted : List (Option SortId) → ℕ → Type 0
IsSorted sorts p = (s : SortId) × HasSort sorts p s

pub sorted_here : (sorts : List (Option SortId)) (p : ℕ) (s : SortId) → HasSort sorts p s → has_some sorts p ≡ true
sorted_here sorts p s has = ap (λ (o : Option (Option SortId)). is_some (unwrap_or o None)) has

pub sorted_from : (sorts : List (Option SortId)) (p : ℕ) → has_some sorts p ≡ true → IsSorted sorts p
sorted_from sorts p passes = by (slice_get sorts p) refl passes
  where
    by : (o : Option (Option SortId)) → slice_get sorts p ≡ o → is_some (unwrap_or o None) ≡ true → IsSorted sorts p
    by None is e = absurd (true≢false (sym e))
    by (Some None) is e = absurd (true≢false (sym e))
    by (Some (Some s)) is e = (s, is)

-- the nodes with sorts, in an order of all
module _ (d : Declarations) (h : Nodes) (sorts : List (Option SortId)) (e : Graph) (all points : List ℕ) (upper : IsUpperPart d h sorts) (edges : AreDataEdges d h e) (order : IsOrder e all) (are : points ≡ filter (has_some sorts) all) where
  pub left_each : (p : ℕ) → IsSorted sorts p → (index : ℕ) × StandsIn points index p
  left_each p (s, has) =
      let within = slice_get_within sorts p (Some s) has in
      let long = upper.long in
      let count = edges.count in
      let stands = order.each p (omega (arith, within, long, count)) in
      let found = filter_to (has_some sorts) all stands.0 p stands.1 (sorted_here sorts p s has) in
      (found.0, ap (λ (l : List ℕ). slice_get l found.0) are ∙ found.1)

  pub left_only : (index p : ℕ) → StandsIn points index p → IsSorted sorts p
  left_only index p at =
      let found = filter_from (has_some sorts) all index p (sym (ap (λ (l : List ℕ). slice_get l index) are) ∙ at) in
      sorted_from sorts p found.2

  -- they are nodes, and each stands there once
  pub left_within : (k other : ℕ) → k < length points → get_or points k other < length h
  left_within k other inside =
      let sorted = left_only k (get_or points k other) (slice_get-get_or points k other inside) in
      let within = slice_get_within sorts (get_or points k other) (Some sorted.0) sorted.1 in
      let long = upper.long in
      omega (arith, within, long)

  pub left_once : (i j p : ℕ) → StandsIn points i p → StandsIn points j p → i ≡ j
  left_once i j p at_i at_j = by (less_or i j)
    where
      less_or : (m n : ℕ) → (m < n) ⊎ ((m ≡ n) ⊎ (n < m))
      less_or zero zero = inr (inl refl)
      less_or zero (suc n) = inl (omega arith)
      less_or (suc m) zero = inr (inr (omega arith))
      less_or (suc m) (suc n) = elim (less_or m n) [ inl less ↦ inl (omega (arith, less)) | inr (inl same) ↦ inr (inl (ap suc same)) | inr (inr more) ↦ inr (inr (omega (arith, more))) ]

      apart : (m n : ℕ) → m < n → StandsIn points m p → StandsIn points n p → ⊥
      apart m n less at_m at_n =
          let found = filter_rising (has_some sorts) all m n p p less (sym (ap (λ (l : List ℕ). slice_get l m) are) ∙ at_m) (sym (ap (λ (l : List ℕ). slice_get l n) are) ∙ at_n) in
          let same = order.once p found.0 found.1 found.2 found.3 in
          let rising = found.4 in
          omega (arith, same, rising)

      by : (i < j) ⊎ ((i ≡ j) ⊎ (j < i)) → i ≡ j
      by (inl less) = absurd (apart i j less at_i at_j)
      by (inr (inl same)) = same
      by (inr (inr more)) = absurd (apart j i more at_j at_i)

  pub left_before : ComesBefore e points
  left_before = subst (λ (l : List ℕ). ComesBefore e l) (sym are) (before_filtered e (has_some sorts) all order)

module _ (d : Declarations) (h g : Nodes) (sorts : List (Option SortId)) (points : List ℕ) (places : List NodeId) (nodes : Nodes)
    (upper : IsUpperPart d h sorts)
    (moved : AllZip (IsMoved h places) points nodes)
    (placed : ArePlaces (length g) (length h) points places)
    (each : (p : ℕ) → IsSorted sorts p → (index : ℕ) × StandsIn points index p)
    (only : (index p : ℕ) → StandsIn points index p → IsSorted sorts p)
  where
    -- what stands for a node: its place, and the node there
    pub record Standing (p : ℕ) (at : NodeId) : Type 0 where
      pub index : ℕ
      pub ordered : StandsIn points index p
      pub place : at ≡ numbered_node (length g + index)
      pub node : Node
      pub listed : slice_get nodes index ≡ Some node
      pub stands : slice_get (g ++ nodes) at.0 ≡ Some node
      pub is_moved : IsMoved h places p node

    pub standing : (p : ℕ) (at : NodeId) → IsSorted sorts p → slice_get places p ≡ Some at → Standing p at
    standing p at within here =
        let i = each p within in
        let place : at ≡ numbered_node (length g + i.0) = same_Some at (numbered_node (length g + i.0)) (sym here ∙ placed.each i.0 p i.1) in
        let found = AllZip-at_left (IsMoved h places) points nodes i.0 p moved i.1 in
        record {
          index = i.0;
          ordered = i.1;
          place = place;
          node = found.0;
          listed = found.1;
          stands = ap (λ (n : NodeId). slice_get (g ++ nodes) n.0) place ∙ slice_get-append_right g nodes i.0 found.0 found.1;
          is_moved = found.2;
        }

    -- children of a node that has a sort have sorts
    child_sorted : (p : ℕ) (source : Node) → IsSorted sorts p → slice_get h p ≡ Some source → (k : ℕ) (child : NodeId) → slice_get (node_children source) k ≡ Some child → IsSorted sorts child.0
    child_sorted p source sorted stands k child at = upper.children p k sorted.0 source child sorted.1 stands at

    -- children that stand for children, as points
    points_of : (R : NodeId → NodeId → Type 0) (S : (at child : NodeId) → Type 0) → ((at child : NodeId) → StandsAt places at child → R at child → S at child) → (ats children : List NodeId)
        → AllZip (StandsAt places) ats children → ((k : ℕ) (child : NodeId) → slice_get children k ≡ Some child → (at : NodeId) → R at child) → AllZip S ats children
    points_of R S step [] [] zipped holds = tt
    points_of R S step [] (c ∷ cs) zipped holds = absurd zipped
    points_of R S step (a ∷ ats) [] zipped holds = absurd zipped
    points_of R S step (a ∷ ats) (c ∷ cs) zipped holds =
        (step a c zipped.0 (holds 0 c refl a), points_of R S step ats cs zipped.1 (λ k child at. holds (suc k) child at))

    zipped_points : (k : ℕ) (ats children : List NodeId) → AllZip (λ at child. IsTrue (agree k (node_point (g ++ nodes) at) (node_point h child))) ats children
        → AllZip (λ p q. IsTrue (agree k p q)) (node_points (g ++ nodes) ats) (node_points h children)
    zipped_points k [] [] zipped = tt
    zipped_points k [] (c ∷ cs) zipped = absurd zipped
    zipped_points k (a ∷ ats) [] zipped = absurd zipped
    zipped_points k (a ∷ ats) (c ∷ cs) zipped = (zipped.0, zipped_points k ats cs zipped.1)

    -- a node has the value that it had
    pub placed_agree : (k p : ℕ) (at : NodeId) → IsSorted sorts p → slice_get places p ≡ Some at → IsTrue (agree k (node_point (g ++ nodes) at) (node_point h (numbered_node p)))
    placed_agree zero p at within here = agree-zero (node_point (g ++ nodes) at) (node_point h (numbered_node p))
    placed_agree (suc k) p at within here =
        let s = standing p at within here in
        let m = s.is_moved in
        agree-nodes k (g ++ nodes) h at (numbered_node p) s.node m.source s.stands m.stands m.head
        (zipped_points k (node_children s.node) (node_children m.source)
        (points_of (λ a c. IsSorted sorts c.0) (λ a c. IsTrue (agree k (node_point (g ++ nodes) a) (node_point h c)))
        (λ a c here_c within_c. placed_agree k c.0 a within_c here_c)
        (node_children s.node) (node_children m.source) m.children (λ j child at_j a. child_sorted p m.source within m.stands j child at_j)))

    -- and the sort that it had
    pub placed_sort : (p : ℕ) (at : NodeId) (s : SortId) → IsSorted sorts p → slice_get places p ≡ Some at → HasNodeSort d h (numbered_node p) s → HasNodeSort d (g ++ nodes) at s
    placed_sort p at s within here (source, stands, sorted) =
        let found = standing p at within here in
        let same : found.is_moved.source ≡ source = same_Some found.is_moved.source source (sym found.is_moved.stands ∙ stands) in
        (found.node, found.stands, sort_by_head d found.node found.is_moved.source found.is_moved.head ∙ ap (node_sort d) same ∙ sorted)

    source_sort : (p : ℕ) (at : NodeId) (s : SortId) → IsSorted sorts p → slice_get places p ≡ Some at → HasNodeSort d (g ++ nodes) at s → HasNodeSort d h (numbered_node p) s
    source_sort p at s within here (node, stands, sorted) =
        let found = standing p at within here in
        let same : found.node ≡ node = same_Some found.node node (sym found.stands ∙ stands) in
        (found.is_moved.source, found.is_moved.stands, sort_by_head d found.is_moved.source found.node (sym found.is_moved.head) ∙ ap (node_sort d) same ∙ sorted)

    source_data : (p : ℕ) (at : NodeId) → IsSorted sorts p → slice_get places p ≡ Some at → IsData d (g ++ nodes) at → IsData d h (numbered_node p)
    source_data p at within here (s, sort, has, declared, kind) = (s, sort, source_sort p at s within here has, declared, kind)

    -- its children are of its fields' sorts
    placed_fields : (sels : List SelId) (ats children : List NodeId) → ((k : ℕ) (child : NodeId) → slice_get children k ≡ Some child → IsSorted sorts child.0) → AllZip (StandsAt places) ats children
        → AllZip (IsNodeOfField d h) children sels → AllZip (IsNodeOfField d (g ++ nodes)) ats sels
    placed_fields [] [] [] within zipped fields = tt
    placed_fields [] [] (c ∷ cs) within zipped fields = absurd zipped
    placed_fields [] (a ∷ ats) [] within zipped fields = absurd zipped
    placed_fields [] (a ∷ ats) (c ∷ cs) within zipped fields = absurd fields
    placed_fields (s ∷ sels) [] [] within zipped fields = absurd fields
    placed_fields (s ∷ sels) [] (c ∷ cs) within zipped fields = absurd zipped
    placed_fields (s ∷ sels) (a ∷ ats) [] within zipped fields = absurd zipped
    placed_fields (s ∷ sels) (a ∷ ats) (c ∷ cs) within zipped fields =
        let f = fields.0 in (
          record { selector = f.selector; declared = f.declared; sorted = placed_sort c.0 a f.selector.sort (within 0 c refl) zipped.0 f.sorted },
          placed_fields sels ats cs (λ k child at. within (suc k) child at) zipped.1 fields.1,
        )

    moved_fits : (source node : Node) → node_head node ≡ node_head source → ((k : ℕ) (child : NodeId) → slice_get (node_children source) k ≡ Some child → IsSorted sorts child.0)
        → AllZip (StandsAt places) (node_children node) (node_children source) → FitsNode d h source → FitsNode d (g ++ nodes) node
    moved_fits (Con c cs) (Con e es) heads within zipped fit =
        let same : e ≡ c = cc in
        record { ctor = fit.ctor; declared = ap (λ (k : CtorId). slice_get d.ctors k.0) same ∙ fit.declared; fields = placed_fields fit.ctor.sels es cs within zipped fit.fields }
    moved_fits (Con c cs) (Elem s n) heads within zipped fit = cc
    moved_fits (Elem s n) (Con e es) heads within zipped fit = cc
    moved_fits (Elem s n) (Elem t m) heads within zipped fit =
        let same : t ≡ s = cc in
        record { sort = fit.sort; declared = ap (λ (k : SortId). slice_get d.sorts k.0) same ∙ fit.declared; free = fit.free }

    pub placed_fit : (i : ℕ) (node : Node) → slice_get nodes i ≡ Some node → FitsNode d (g ++ nodes) node
    placed_fit i node at =
        let found = AllZip-at_right (IsMoved h places) points nodes i node moved at in
        let m = found.2 in
        let sorted = only i found.0 found.1 in
        moved_fits m.source node m.head (λ k child at_k. child_sorted found.0 m.source sorted m.stands k child at_k) m.children (upper.fits found.0 sorted.0 m.source sorted.1 m.stands)

    -- and its children of datatypes come before it, where the order is one of the steps between nodes of datatypes
    pub placed_before : (e : Graph) → AreDataEdges d h e → ComesBefore e points → (i k : ℕ) (node : Node) (child : NodeId) → slice_get nodes i ≡ Some node → slice_get (node_children node) k ≡ Some child
        → IsData d (g ++ nodes) (numbered_node (length g + i)) → IsData d (g ++ nodes) child → child.0 < length g + i
    placed_before e edges order i k node child at at_child data_n data_child =
        let found = AllZip-at_right (IsMoved h places) points nodes i node moved at in
        let p = found.0 in
        let m = found.2 in
        let old = AllZip-at_left (StandsAt places) (node_children node) (node_children m.source) k child m.children at_child in
        let c = old.0 in
        let within_p : IsSorted sorts p = only i p found.1 in
        let within_c : IsSorted sorts c.0 = child_sorted p m.source within_p m.stands k c old.1 in
        let s = standing c.0 child within_c old.2 in
        let step : IsDataStep d h (numbered_node p) c = record {
          node = m.source;
          stands = m.stands;
          contains = contained_at (node_children m.source) k c old.1;
          parent_is = source_data p (numbered_node (length g + i)) within_p (placed.each i p found.1) data_n;
          child_is = source_data c.0 child within_c old.2 data_child;
        } in
        let kid = edges.kids p c.0 step in
        let less : s.index < i = order p kid.0 c.0 s.index i kid.1 s.ordered found.1 in
        let is : child.0 ≡ length g + s.index = ap (λ (n : NodeId). n.0) s.place in
        omega (arith, less, is)

    -- their children are nodes
    pub placed_below : All (HasChildrenBelow (length g + length nodes)) nodes
    placed_below = λ i e within k child inside.
        let node = get_or nodes i e in
        let less = fits_within d (g ++ nodes) node k (get_or (node_children node) k child) (placed_fit i node (slice_get-get_or nodes i e within)) (slice_get-get_or (node_children node) k child inside) in
        omega (arith, less, length-append g nodes)

    -- the graph stays well formed, and node 0 has its place
    pub placed_formed : (e : Graph) → AreDataEdges d h e → ComesBefore e points → IsWellFormedGraph d g → IsWellFormedGraph d (g ++ nodes)
    placed_formed e edges order formed = well_formed_after d g nodes formed placed_fit (placed_before e edges order)

    pub placed_root : (at : NodeId) → IsSorted sorts 0 → slice_get places 0 ≡ Some at → IsPlacedRoot d h (g ++ nodes) at
    placed_root at some here = record { sorted = λ s has. placed_sort 0 at s some here has; agrees = λ k. placed_agree k 0 at some here }
