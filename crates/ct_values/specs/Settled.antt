-- Nodes that are settled: those whose class, which is not 0, tells their finite tree.
use Rattle.std.specs.Prelude.{◌≡◌, ℕ, zero, suc, ◌<◌, List, [], ◌∷◌, length, map, Some, slice_get}
use Rattle.std.specs.List.{AllByRecursion}
use Rattle.indexmap.specs.IndexSet.{IndexSet}
use Rattle.ct_values.specs.declared.node.NodeId.{NodeId}
use Rattle.ct_values.specs.declared.node.Node.{Node}
use Rattle.ct_values.specs.declared.shape.ShapeStep.{ShapeStep}
use Rattle.ct_values.specs.Graph.{Nodes, node_head, node_children}
use Rattle.ct_values.specs.Partition.{class_at, node_key, KeepsTogether}
use Rattle.ct_values.specs.Shape.{Spells, AreSteps}

-- the node with this number stands for a tree that is less high than the bound
abbrev pub IsTree : Nodes → ℕ → ℕ → Type 0
IsTree g zero i = ⊥
IsTree g (suc h) i = (node : Node) × (slice_get g i ≡ Some node) × AllByRecursion (λ child. IsTree g h child.0) (node_children node)

-- these nodes are settled
abbrev pub AreSettled : List ℕ → List NodeId → Type 0
AreSettled classes nodes = AllByRecursion (λ n. 0 < class_at classes n.0) nodes

-- how many nodes are not settled
abbrev pub unsettled : List ℕ → ℕ
unsettled [] = 0
unsettled (zero ∷ classes) = suc (unsettled classes)
unsettled (suc c ∷ classes) = unsettled classes

-- settled nodes are finite trees, and the class of each is one more than the number of its shape
pub record IsSettling {S : Type 0} (g : Nodes) (classes : List ℕ) (steps : IndexSet ShapeStep S) : Type 0 where
  pub steps_apart : AreSteps steps
  pub long : length classes ≡ length g
  pub known : (i c : ℕ) (node : Node) → slice_get g i ≡ Some node → class_at classes i ≡ suc c → Spells steps.keys c (node_head node) (map (λ child. class_at classes child.0) (node_children node))
  pub parts : (i : ℕ) (node : Node) → slice_get g i ≡ Some node → 0 < class_at classes i → AreSettled classes (node_children node)
  pub trees : (i : ℕ) → i < length g → 0 < class_at classes i → (h : ℕ) × IsTree g h i

-- the node is settled, or one of its children is not
abbrev pub IsTried : Nodes → List ℕ → ℕ → Type 0
IsTried g classes i = (node : Node) → slice_get g i ≡ Some node → AreSettled classes (node_children node) → 0 < class_at classes i

-- the same of each node
abbrev pub AreTried : Nodes → List ℕ → Type 0
AreTried g classes = (i : ℕ) → IsTried g classes i

-- the classes tell the finite trees: nodes that agree at every depth have one class; a node is settled exactly where its
-- children are; and settled nodes of one class have one head, and children of the same classes
pub record TellsTrees (g : Nodes) (classes : List ℕ) : Type 0 where
  pub keeps : KeepsTogether g classes
  pub parts : (i : ℕ) (node : Node) → slice_get g i ≡ Some node → 0 < class_at classes i → AreSettled classes (node_children node)
  pub tried : AreTried g classes
  pub keys : (i j : ℕ) (x y : Node) → slice_get g i ≡ Some x → slice_get g j ≡ Some y → 0 < class_at classes i → class_at classes i ≡ class_at classes j → node_key classes x ≡ node_key classes y
