-- What it means that points are the values of classes, and that different classes have different values.
use Rattle.std.specs.Prelude.{◌≡◌, ℕ, suc, ◌<◌, ◌≤◌, ◌↔◌, IsTrue, List, [], ◌++◌, length, map, Some, slice_get}
use Rattle.std.specs.Cmp.{IsEquivalence}
use Rattle.std.specs.List.{AllZip}
use Rattle.ct_sorts.specs.declared.ids.CtorId.{CtorId}
use Rattle.ct_sorts.specs.declared.ids.SortId.{SortId}
use Rattle.ct_card.specs.Cardinality.{IsSingle}
use Rattle.ct_values.specs.declared.node.NodeId.{NodeId}
use Rattle.ct_values.specs.declared.node.Head.TheVariants as heads
use Rattle.ct_values.specs.Graph.{Nodes, IsClosed}
use Rattle.ct_values.specs.Value.{Value, IsOver as IsOverGraph, element}
use Rattle.ct_values.specs.Agreement.{Point, point, node_point, head, children, agree, same, AgreeAlways}
use Rattle.ct_terms.specs.declared.ids.TermId.{TermId}
use Rattle.ct_terms.specs.declared.term.Core.TheVariants.{Con}
use Rattle.ct_terms.specs.Terms.{Has, IsOfSort}
use Rattle.ct_congr.specs.State.{State, AreEqual, IsConstructorTerm}
use Rattle.ct_build.specs.declared.open_classes.OpenClass.{OpenClass}

-- the theorems on agreement that values of classes rest on
pub record Laws : Type 0 where
  pub start : (p q : Point) → IsTrue (agree 0 p q)
  pub step : (k : ℕ) (p q : Point) → IsTrue (agree (suc k) p q) ↔ ((head p ≡ head q) × AllZip (λ x y. IsTrue (agree k x y)) (children p) (children q))
  pub equivalence : (k : ℕ) → IsEquivalence (agree k)
  pub itself : (p : Point) → AgreeAlways p p
  pub turned : (p q : Point) → AgreeAlways p q → AgreeAlways q p
  pub chained : (p q r : Point) → AgreeAlways p q → AgreeAlways q r → AgreeAlways p r
  pub always : (p q : Point) → AgreeAlways p q ↔ ((head p ≡ head q) × AllZip AgreeAlways (children p) (children q))
  pub every_depth : (p q : Point) → IsClosed p.graph → IsClosed q.graph → IsTrue (same p q) ↔ AgreeAlways p q
  pub grown : (g more : Nodes) (v : Value) → IsClosed g → IsOverGraph g v → AgreeAlways (point (g ++ more) v) (point g v)

-- the term is one of the table
abbrev pub IsInside : State → TermId → Type 0
IsInside state t = t.0 < length state.terms

-- a constructor term of the term's class
pub record IsBuiltBy (state : State) (t : TermId) (c : CtorId) (args : List TermId) : Type 0 where
  pub con : TermId
  pub equal : AreEqual state t con
  pub stands : Has state.terms (Con c args) con.0

-- the term's class has a constructor term
abbrev pub IsBuilt : State → TermId → Type 0
IsBuilt state t = (c : CtorId) × (args : List TermId) × IsBuiltBy state t c args

-- the term's class has none
abbrev pub IsUnbuilt : State → TermId → Type 0
IsUnbuilt state t = (con : TermId) → IsConstructorTerm state.terms con → AreEqual state t con → ⊥

-- the point is this constructor over the values of these terms
pub record IsConstructed (value : TermId → Point) (c : CtorId) (args : List TermId) (p : Point) : Type 0 where
  pub head_is : head p ≡ Some (heads.Con c)
  pub children_are : AllZip AgreeAlways (children p) (map value args)

-- terms of one class have one value, and a constructor term has its constructor over the values of its arguments
pub record AreClassValues (state : State) (value : TermId → Point) : Type 0 where
  pub equal : (x y : TermId) → AreEqual state x y → AgreeAlways (value x) (value y)
  pub built : (t : TermId) (c : CtorId) (args : List TermId) → Has state.terms (Con c args) t.0 → IsConstructed value c args (value t)

-- terms of one value are of one class
abbrev pub AreApart : State → (TermId → Point) → Type 0
AreApart state value = (x y : TermId) → IsInside state x → IsInside state y → AgreeAlways (value x) (value y) → AreEqual state x y

-- two terms of different classes have one value
pub record Collide (state : State) (value : TermId → Point) (x y : TermId) : Type 0 where
  pub left : IsInside state x
  pub right : IsInside state y
  pub apart : AreEqual state x y → ⊥
  pub one : AgreeAlways (value x) (value y)

-- what tells the class of the term from everything else while it has no value: an element of a sort that is not declared
abbrev pub mark : State → TermId → Point
mark state t = point [] (element (record { 0 = length state.declarations.sorts }) t.0)

-- the values where the first open classes have these nodes of the graph, a node each, and the others have their marks; the
-- classes of single sorts have the nodes of their sorts
pub record AreValuesWith (state : State) (g : Nodes) (defaults : List NodeId) (unbuilt : List OpenClass) (chosen : List NodeId) (value : TermId → Point) : Type 0 where
  pub classes : AreClassValues state value
  pub closed : (t : TermId) → IsClosed (value t).graph
  pub chosen_have : (i : ℕ) (class : OpenClass) (n : NodeId) → slice_get unbuilt i ≡ Some class → slice_get chosen i ≡ Some n → AgreeAlways (value class.rep) (node_point g n)
  pub marked : (i : ℕ) (class : OpenClass) → slice_get unbuilt i ≡ Some class → length chosen ≤ i → AgreeAlways (value class.rep) (mark state class.rep)
  pub single : (t : TermId) (s : SortId) (n : NodeId) → IsUnbuilt state t → IsOfSort state.terms t s → IsSingle state.declarations s.0 → slice_get defaults s.0 ≡ Some n → AgreeAlways (value t) (node_point g n)

-- with them no two classes have one value
pub record AreApartWith (state : State) (g : Nodes) (defaults : List NodeId) (unbuilt : List OpenClass) (chosen : List NodeId) : Type 0 where
  pub value : TermId → Point
  pub values : AreValuesWith state g defaults unbuilt chosen value
  pub apart : AreApart state value

-- with them these two classes have one value
pub record CollideWith (state : State) (g : Nodes) (defaults : List NodeId) (unbuilt : List OpenClass) (chosen : List NodeId) (x y : TermId) : Type 0 where
  pub value : TermId → Point
  pub values : AreValuesWith state g defaults unbuilt chosen value
  pub collide : Collide state value x y
