-- The tests of fitting: nodes and fields one for one, a field by its sort, and a node by its head and its children.
use Rattle.std.proofs.Common.{◌≡◌, ℕ, ◌+◌, ◌<◌, ◌↔◌, Bool, true, false, nat_eq, List, slice_get, Option, Some, None, option_map, IsTrue, refl, sym, ap, subst, ◌∙◌, arith, ◌≤◌}
use Rattle.std.proofs.lemmas.Option.{none-some, same_Some}
use Rattle.std.proofs.lemmas.Bool.{eqb-true, eq-eqb}
use Rattle.ct_lemmas.proofs.Options.{option_map-source, same_found}
use Rattle.ct_sorts.specs.declared.ids.SortId.{SortId}
use Rattle.ct_sorts.specs.declared.ids.SelId.{SelId}
use Rattle.ct_sorts.specs.Declarations.{Declarations, Selector}
use Rattle.ct_values.specs.declared.node.NodeId.{NodeId}
use Rattle.ct_values.specs.declared.node.Node.{Node}
use Rattle.ct_values.specs.declared.node.Node.TheVariants.{Con, Elem}
use Rattle.ct_values.specs.declared.node.Head.{Head}
use Rattle.ct_values.specs.declared.node.Head.TheVariants as heads
use Rattle.ct_values.specs.Graph.{Nodes, node_head, node_children}
use Rattle.ct_values.specs.Fitting.{HasNodeSort, IsNodeOfField, IsBuilt, IsElement, FitsNode}

-- two lists, element by element
module _ {X Y : Type 0} (R : X → Y → Type 0) where
  last_or_before : (k i : ℕ) → k < i + 1 → k ≤ i
  last_or_before k i h = omega arith

-- a node has the sort of a selector's field
pub IsNodeOfField-tested : (d : Declarations) (g : Nodes) (child : NodeId) (s : SelId) (side : SortId) (r : Bool) → option_map (λ (f : Selector). f.sort) (slice_get d.sels s.0) ≡ Some side → (IsTrue r ↔ HasNodeSort d g child side) → IsTrue r ↔ IsNodeOfField d g child s
IsNodeOfField-tested d g child s side r at reported =
    let sel = option_map-source (λ (f : Selector). f.sort) (slice_get d.sels s.0) side at in (
      λ holds. record { selector = sel.0; declared = sel.1; sorted = subst (HasNodeSort d g child) (sym sel.2) (reported.0 holds) },
      λ h. reported.1 (subst (HasNodeSort d g child) (ap (λ (f : Selector). f.sort) (same_Some h.selector sel.0 (sym h.declared ∙ sel.1)) ∙ sel.2) h.sorted),
    )

-- a node of this head and these children fits
abbrev pub FitsHead : Declarations → Nodes → Head → List NodeId → Type 0
FitsHead d g (heads.Con c) children = IsBuilt d g c.0 children
FitsHead d g (heads.Elem s n) children = IsElement d s.0

by_head : (d : Declarations) (g : Nodes) (node : Node) → FitsNode d g node ↔ FitsHead d g (node_head node) (node_children node)
by_head d g (Con c children) = (λ h. h, λ h. h)
by_head d g (Elem s n) = (λ h. h, λ h. h)

-- a node fits where what is read of it fits
pub FitsNode-tested : (d : Declarations) (g : Nodes) (n : ℕ) (head : Head) (r : Bool) → option_map node_head (slice_get g n) ≡ Some head → ((children : List NodeId) → option_map node_children (slice_get g n) ≡ Some children → IsTrue r ↔ FitsHead d g head children) → IsTrue r ↔ ((node : Node) → slice_get g n ≡ Some node → FitsNode d g node)
FitsNode-tested d g n head r at reported = by (slice_get g n) at reported
  where
    by : (found : Option Node) → option_map node_head found ≡ Some head → ((children : List NodeId) → option_map node_children found ≡ Some children → IsTrue r ↔ FitsHead d g head children) → IsTrue r ↔ ((node : Node) → found ≡ Some node → FitsNode d g node)
    by None e each = absurd (none-some head e)
    by (Some x) e each =
        let same : node_head x ≡ head = same_Some (node_head x) head e in
        let here : IsTrue r ↔ FitsHead d g head (node_children x) = each (node_children x) refl in (
          λ holds node is. subst (FitsNode d g) (same_Some x node is) ((by_head d g x).1 (subst (λ (h : Head). FitsHead d g h (node_children x)) (sym same) (here.0 holds))),
          λ fit. here.1 (subst (λ (h : Head). FitsHead d g h (node_children x)) same ((by_head d g x).0 (fit x refl))),
        )

-- what is found is tested against a sort
pub found-tested : (o : Option SortId) (sort s : SortId) (P : Type 0) (r : Bool) → o ≡ Some sort → r ≡ nat_eq sort.0 s.0 → ((o ≡ Some s) ↔ P) → IsTrue r ↔ P
found-tested o sort s P r at tested means = (
  λ yes. means.0 (at ∙ ap (λ (n : ℕ). Some (record { 0 = n })) (eqb-true sort.0 s.0 (sym tested ∙ yes))),
  λ h. tested ∙ subst (λ (t : SortId). nat_eq sort.0 t.0 ≡ true) (same_found o sort s at (means.1 h)) (eq-eqb sort.0 sort.0 refl),
)

-- where nothing is found the test is false
pub nothing-tested : (o : Option SortId) (s : SortId) (P : Type 0) → o ≡ None → ((o ≡ Some s) ↔ P) → IsTrue false ↔ P
nothing-tested o s P at means = (λ yes. cc, λ h. absurd (none-some s (sym at ∙ means.1 h)))
