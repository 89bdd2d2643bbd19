-- The nodes of a graph as labelled points: one node more.
use Rattle.std.proofs.Common.{◌≡◌, ℕ, zero, suc, ◌+◌, ◌-◌, ◌<◌, ◌≤◌, ◌⊎◌, List, [], ◌∷◌, ◌++◌, length, slice_get, slice_index, get_or, option_map, Some, All, refl, sym, ap, ap₂, subst, ◌∙◌, inl, inr, arith, length-append}
use Rattle.std.specs.List.{slice_range, AllByRecursion}
use Rattle.std.proofs.lemmas.List.Elements.{recursion_from_All}
use Rattle.std.proofs.lemmas.Bool.{cases_order}
use Rattle.std.proofs.lemmas.Option.{none-some, same_Some, slice_get-get_or, slice_get_within}
use Rattle.ct_lemmas.proofs.Slices.{index-last, index-left, range-append_left, range-append_right}
use Rattle.ct_values.specs.declared.node.NodeId.{NodeId}
use Rattle.ct_values.specs.declared.node.Node.{Node}
use Rattle.ct_values.specs.declared.node.Head.{Head}
use Rattle.ct_values.specs.Graph.{Nodes, node_head, node_children}
use Rattle.ct_values.specs.Partition.{class_at}
use Rattle.ct_values.specs.NodePoints.{label_of, row_of, ArePointsOf}
use Rattle.ct_partition.specs.Points.{points, ArePoints}

-- ---- lists

-- what stands in two lists stands in one of them
append_cases : (xs ys : List ℕ) (i x : ℕ) → slice_get (xs ++ ys) i ≡ Some x → (slice_get xs i ≡ Some x) ⊎ ((k : ℕ) × (slice_get ys k ≡ Some x))
append_cases [] ys i x e = inr (i, e)
append_cases (z ∷ zs) ys zero x e = inl e
append_cases (z ∷ zs) ys (suc i) x e = append_cases zs ys i x e

-- the children of a node, as points, are below the bound that the nodes are below
row_within : (class bound : ℕ) (nodes : List NodeId) → AllByRecursion (λ n. n.0 < bound) nodes → (place child : ℕ) → slice_get (row_of class nodes) place ≡ Some child → child < bound
row_within (suc class) bound nodes all place child at = absurd (none-some child at)
row_within zero bound [] all place child at = absurd (none-some child at)
row_within zero bound (n ∷ ns) all zero child at = subst (λ k. k < bound) (same_Some n.0 child at) all.0
row_within zero bound (n ∷ ns) all (suc place) child at = row_within zero bound ns all.1 place child at

-- ---- points

-- the first nodes as points
pub record AreFirstPoints (g : Nodes) (settled : List ℕ) (count : ℕ) (labels starts children : List ℕ) : Type 0 where
  pub labelled : length labels ≡ count
  pub long : length starts ≡ count + 1
  pub last : slice_index starts count ≡ length children
  pub rising : (i : ℕ) → i < count → slice_index starts i ≤ slice_index starts (i + 1)
  pub below : (i : ℕ) → i < count + 1 → slice_index starts i ≤ length children
  pub within : (place child : ℕ) → slice_get children place ≡ Some child → child < length g
  pub label : (i : ℕ) (node : Node) → i < count → slice_get g i ≡ Some node → slice_index labels i ≡ label_of (class_at settled i) (node_head node)
  pub row : (i : ℕ) (node : Node) → i < count → slice_get g i ≡ Some node → slice_range children (slice_index starts i) (slice_index starts (i + 1)) ≡ row_of (class_at settled i) (node_children node)

pub first_points : (g : Nodes) (settled : List ℕ) → AreFirstPoints g settled 0 [] (0 ∷ []) []
first_points g settled = record {
  labelled = refl;
  long = refl;
  last = refl;
  rising = λ i before. absurd (omega (arith, before));
  below = λ i before. let e : i ≡ 0 = omega (arith, before) in let first : slice_index (0 ∷ []) i ≡ 0 = ap (slice_index (0 ∷ [])) e in omega (arith, first);
  within = λ place child at. absurd (none-some child at);
  label = λ i node before at. absurd (omega (arith, before));
  row = λ i node before at. absurd (omega (arith, before));
}

module _ (g : Nodes) (settled : List ℕ) (count : ℕ) (labels starts children : List ℕ) (node : Node) (old : AreFirstPoints g settled count labels starts children) (at_count : slice_get g count ≡ Some node) (nodes_within : AllByRecursion (λ n. n.0 < length g) (node_children node)) where
  abbrev label : ℕ
  label = label_of (class_at settled count) (node_head node)

  abbrev row : List ℕ
  row = row_of (class_at settled count) (node_children node)

  abbrev more : List ℕ
  more = children ++ row

  abbrev after : List ℕ
  after = starts ++ length more ∷ []

  before : (i : ℕ) → i < count + 1 → slice_index after i ≡ slice_index starts i
  before i within = index-left starts (length more) i (omega (arith, within, old.long))

  end : slice_index after (count + 1) ≡ length more
  end = index-last starts (length more) (count + 1) (sym old.long)

  longer : length more ≡ length children + length row
  longer = length-append children row

  label_at : (i : ℕ) (x : Node) → i < count + 1 → slice_get g i ≡ Some x → slice_index (labels ++ label ∷ []) i ≡ label_of (class_at settled i) (node_head x)
  label_at i x within at = elim (cases_order i count) [
    | inl e ↦
        let same : node ≡ x = same_Some node x (sym at_count ∙ ap (slice_get g) (sym e) ∙ at) in
        index-last labels label i (e ∙ sym old.labelled) ∙ ap₂ (λ (n : ℕ) (y : Node). label_of (class_at settled n) (node_head y)) (sym e) same
    | inr h ↦ elim h [
      | inl less ↦ index-left labels label i (omega (arith, less, old.labelled)) ∙ old.label i x less at
      | inr greater ↦ absurd (omega (arith, within, greater))
    ]
  ]

  row_at : (i : ℕ) (x : Node) → i < count + 1 → slice_get g i ≡ Some x → slice_range more (slice_index after i) (slice_index after (i + 1)) ≡ row_of (class_at settled i) (node_children x)
  row_at i x within at = elim (cases_order i count) [
    | inl e ↦
        let same : node ≡ x = same_Some node x (sym at_count ∙ ap (slice_get g) (sym e) ∙ at) in
        let last : length children ≡ slice_index after i = sym (before i within ∙ ap (slice_index starts) e ∙ old.last) in
        let next : slice_index after (i + 1) ≡ length more = ap (λ n. slice_index after (n + 1)) e ∙ end in
        range-append_right children row (slice_index after i) (slice_index after (i + 1)) last next ∙ ap₂ (λ (n : ℕ) (y : Node). row_of (class_at settled n) (node_children y)) (sym e) same
    | inr h ↦ elim h [
      | inl less ↦
          ap₂ (slice_range more) (before i within) (before (i + 1) (omega (arith, less)))
          ∙ range-append_left children row (slice_index starts i) (slice_index starts (i + 1)) (old.rising i less) (old.below (i + 1) (omega (arith, less)))
          ∙ old.row i x less at
      | inr greater ↦ absurd (omega (arith, within, greater))
    ]
  ]

  more_points : AreFirstPoints g settled (count + 1) (labels ++ label ∷ []) after more
  more_points = record {
    labelled = omega (arith, old.labelled, length-append labels (label ∷ []));
    long = omega (arith, old.long, length-append starts (length more ∷ []));
    last = end;
    rising = λ i within. elim (cases_order i count) [
      | inl e ↦
          let last : slice_index after i ≡ length children = before i within ∙ ap (slice_index starts) e ∙ old.last in
          let next : slice_index after (i + 1) ≡ length more = ap (λ n. slice_index after (n + 1)) e ∙ end in
          omega (arith, last, next, longer)
      | inr h ↦ elim h [
        | inl less ↦ omega (arith, old.rising i less, before i within, before (i + 1) (omega (arith, less)))
        | inr greater ↦ absurd (omega (arith, within, greater))
      ]
    ];
    below = λ i within. elim (cases_order i (count + 1)) [
      | inl e ↦ let last : slice_index after i ≡ length more = ap (slice_index after) e ∙ end in omega (arith, last)
      | inr h ↦ elim h [
        | inl less ↦ omega (arith, old.below i less, before i less, longer)
        | inr greater ↦ absurd (omega (arith, within, greater))
      ]
    ];
    within = λ place child at. elim (append_cases children row place child at) [
      | inl had ↦ old.within place child had
      | inr h ↦ row_within (class_at settled count) (length g) (node_children node) nodes_within h.0 child h.1
    ];
    label = label_at;
    row = row_at;
  }

-- the same, as a program knows it
pub AreFirstPoints-more : (g : Nodes) (settled : List ℕ) (count : ℕ) (labels starts children : List ℕ) (head : Head) (nodes : List NodeId) (class total : ℕ) (more_labels more_starts more : List ℕ) → AreFirstPoints g settled count labels starts children → option_map node_head (slice_get g count) ≡ Some head → option_map node_children (slice_get g count) ≡ Some nodes → All (λ n. n.0 < length g) nodes → class_at settled count ≡ class → (node : Node) × (slice_get g count ≡ Some node) → more_labels ≡ labels ++ label_of class head ∷ [] → more ≡ children ++ row_of class nodes → total ≡ length more → more_starts ≡ starts ++ total ∷ [] → AreFirstPoints g settled (count + 1) more_labels more_starts more
AreFirstPoints-more g settled count labels starts children head nodes class total more_labels more_starts more old heads kids inside class_is there labels_are more_is total_is starts_are =
    let node = there.0 in
    let at = there.1 in
    let head_is : head ≡ node_head node = same_Some head (node_head node) (sym heads ∙ ap (option_map node_head) at) in
    let nodes_are : nodes ≡ node_children node = same_Some nodes (node_children node) (sym kids ∙ ap (option_map node_children) at) in
    let within = subst (λ (ns : List NodeId). AllByRecursion (λ n. n.0 < length g) ns) nodes_are (recursion_from_All (λ n. n.0 < length g) nodes inside) in
    let now = more_points g settled count labels starts children node old at within in
    let labels_is : labels ++ label_of (class_at settled count) (node_head node) ∷ [] ≡ more_labels = ap₂ (λ (c : ℕ) (h : Head). labels ++ label_of c h ∷ []) class_is (sym head_is) ∙ sym labels_are in
    let children_is : children ++ row_of (class_at settled count) (node_children node) ≡ more = ap₂ (λ (c : ℕ) (ns : List NodeId). children ++ row_of c ns) class_is (sym nodes_are) ∙ sym more_is in
    let starts_is : starts ++ length more ∷ [] ≡ more_starts = ap (λ n. starts ++ n ∷ []) (sym total_is) ∙ sym starts_are in
    subst (λ (l : List ℕ). AreFirstPoints g settled (count + 1) more_labels l more) starts_is
    (subst (λ (l : List ℕ). AreFirstPoints g settled (count + 1) more_labels (starts ++ length l ∷ []) l) children_is
    (subst (λ (l : List ℕ). AreFirstPoints g settled (count + 1) l (starts ++ length (children ++ row_of (class_at settled count) (node_children node)) ∷ []) (children ++ row_of (class_at settled count) (node_children node))) labels_is now))

-- after the last node the lists give points
pub ArePoints-of : (g : Nodes) (settled : List ℕ) (count : ℕ) (labels starts children : List ℕ) → count ≡ length g → AreFirstPoints g settled count labels starts children → ArePoints labels starts children
ArePoints-of g settled count labels starts children all are = record {
  one_more = omega (arith, are.long, are.labelled);
  rising = λ i before. are.rising i (omega (arith, before, are.labelled));
  last = ap (slice_index starts) are.labelled ∙ are.last;
  within = λ place child inside.
      let h = are.within place (get_or children place child) (slice_get-get_or children place child inside) in
      omega (arith, h, all, are.labelled);
}

-- which are those of the nodes
pub ArePointsOf-first : (g : Nodes) (settled : List ℕ) (count : ℕ) (labels starts children : List ℕ) → count ≡ length g → AreFirstPoints g settled count labels starts children → ArePointsOf g settled (points labels starts children)
ArePointsOf-first g settled count labels starts children all are = record {
  many = are.labelled ∙ all;
  labels = λ i node at. are.label i node (omega (arith, slice_get_within g i node at, all)) at;
  rows = λ i node at. are.row i node (omega (arith, slice_get_within g i node at, all)) at;
}
