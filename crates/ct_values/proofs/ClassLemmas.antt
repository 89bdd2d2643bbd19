-- Classes of the nodes of a graph, and what they tell of nodes that agree.
use Rattle.std.proofs.Common.{◌≡◌, ℕ, zero, suc, ◌<◌, ◌≤◌, IsTrue, List, [], ◌∷◌, ◌++◌, length, map, Some, slice_get, get_or, refl, sym, ap, ap₂, ◌∙◌, inl, inr, arith}
use Rattle.std.specs.List.{AllZip, AllByRecursion}
use Rattle.std.proofs.lemmas.Bool.{cases_lt}
use Rattle.std.proofs.lemmas.Grind.{get_or_default_zero}
use Rattle.ct_lemmas.proofs.Lists.{slice_get-there}
use Rattle.ct_values.specs.declared.node.NodeId.{NodeId}
use Rattle.ct_values.specs.declared.node.Node.{Node}
use Rattle.ct_values.specs.Graph.{Nodes, IsClosed, node_children}
use Rattle.ct_values.specs.Agreement.{Point, node_point, agree, AgreeAlways}
use Rattle.ct_values.specs.Partition.{class_at, node_key, KeepsTogether}
use Rattle.ct_values.specs.Sharing.{AreClasses}
use Rattle.ct_values.proofs.AgreeLemmas.{agree-zero, AgreeAlways-refl}
use Rattle.ct_values.proofs.GraphLemmas.{closed_children}
use Rattle.ct_values.proofs.NodeLemmas.{id, node_points, agree-nodes}
use Rattle.ct_values.proofs.RepresentativeLemmas.{one_first}

-- what is read at an index is the class there
pub class_read : (classes : List ℕ) (i x : ℕ) → i < length classes → x ≡ get_or classes i x → class_at classes i ≡ x
class_read classes i x within read = sym (read ∙ get_or_default_zero classes i x within)

-- nodes that agree at every depth have one class each
pub classes_together : (g : Nodes) (classes : List ℕ) (ms ns : List NodeId) → KeepsTogether g classes → AllByRecursion (λ m. m.0 < length g) ms → AllByRecursion (λ n. n.0 < length g) ns → AllZip AgreeAlways (node_points g ms) (node_points g ns) → map (λ m. class_at classes m.0) ms ≡ map (λ n. class_at classes n.0) ns
classes_together g classes [] [] partition ms_in ns_in h = refl
classes_together g classes [] (n ∷ ns) partition ms_in ns_in h = absurd h
classes_together g classes (m ∷ ms) [] partition ms_in ns_in h = absurd h
classes_together g classes (m ∷ ms) (n ∷ ns) partition ms_in ns_in h =
    ap₂ (λ (c : ℕ) (cs : List ℕ). c ∷ cs) (partition.together m.0 n.0 ms_in.0 ns_in.0 h.0) (classes_together g classes ms ns partition ms_in.1 ns_in.1 h.1)

-- a class among those so far, and the one that is added
pub class_at-before : (xs : List ℕ) (x i : ℕ) → i < length xs → class_at (xs ++ x ∷ []) i ≡ class_at xs i
class_at-before [] x i h = absurd (omega arith)
class_at-before (y ∷ ys) x zero h = refl
class_at-before (y ∷ ys) x (suc i) h = class_at-before ys x i (omega arith)

pub class_at-last : (xs : List ℕ) (x : ℕ) → class_at (xs ++ x ∷ []) (length xs) ≡ x
class_at-last [] x = refl
class_at-last (y ∷ ys) x = class_at-last ys x

-- past the list the class is 0
class_at-beyond : (xs : List ℕ) (i : ℕ) → length xs ≤ i → class_at xs i ≡ 0
class_at-beyond [] i h = refl
class_at-beyond (x ∷ xs) zero h = absurd (omega arith)
class_at-beyond (x ∷ xs) (suc i) h = class_at-beyond xs i (omega arith)

-- ---- nodes of one class

-- nodes with one class each agree where those of one class do
pub together_agree : (R : Point → Point → Type 0) (g : Nodes) (classes : List ℕ) (ms ns : List NodeId) → ((m n : NodeId) → m.0 < length g → n.0 < length g → class_at classes m.0 ≡ class_at classes n.0 → R (node_point g m) (node_point g n)) → AllByRecursion (λ m. m.0 < length g) ms → AllByRecursion (λ n. n.0 < length g) ns → map (λ m. class_at classes m.0) ms ≡ map (λ n. class_at classes n.0) ns → AllZip R (node_points g ms) (node_points g ns)
together_agree R g classes [] [] each ms_in ns_in e = tt
together_agree R g classes [] (n ∷ ns) each ms_in ns_in e = cc
together_agree R g classes (m ∷ ms) [] each ms_in ns_in e = cc
together_agree R g classes (m ∷ ms) (n ∷ ns) each ms_in ns_in e =
    (each m n ms_in.0 ns_in.0 (cc), together_agree R g classes ms ns each ms_in.1 ns_in.1 (cc))

-- nodes of one class agree at every depth where their heads are equal and their children are in the same classes
pub AgreeAlways-stable : (g : Nodes) (classes : List ℕ) → IsClosed g → ((i j : ℕ) (x y : Node) → slice_get g i ≡ Some x → slice_get g j ≡ Some y → class_at classes i ≡ class_at classes j → node_key classes x ≡ node_key classes y) → (m n : NodeId) → m.0 < length g → n.0 < length g → class_at classes m.0 ≡ class_at classes n.0 → AgreeAlways (node_point g m) (node_point g n)
AgreeAlways-stable g classes closed stable m n m_in n_in e zero = agree-zero (node_point g m) (node_point g n)
AgreeAlways-stable g classes closed stable m n m_in n_in e (suc k) =
    let x = slice_get-there g m.0 m_in in
    let y = slice_get-there g n.0 n_in in
    let same = stable m.0 n.0 x.0 y.0 x.1 y.1 e in
    agree-nodes k g g m n x.0 y.0 x.1 y.1
    (ap (λ key. key.head) same)
    (together_agree (λ p q. IsTrue (agree k p q)) g classes (node_children x.0) (node_children y.0) (λ a b a_in b_in c. AgreeAlways-stable g classes closed stable a b a_in b_in c k) (closed_children g m.0 x.0 closed x.1) (closed_children g n.0 y.0 closed y.1) (ap (λ key. key.children) same))

-- ---- classes that are named for their representatives

module _ (g : Nodes) (classes : List ℕ) (are : AreClasses g classes) where
  -- nodes of one class agree at every depth
  pub alike_of_one : (m n : NodeId) → m.0 < length g → n.0 < length g → class_at classes m.0 ≡ class_at classes n.0 → AgreeAlways (node_point g m) (node_point g n)
  alike_of_one m n m_in n_in one =
      (one_first g (node_point g m) (node_point g n) (id (class_at classes m.0)) (id (class_at classes n.0)) (are.named m m_in) (are.named n n_in)).0 (λ i. id (one i))

  -- and the other way
  pub stored_together : KeepsTogether g classes
  stored_together = record {
    long = are.long;
    together = λ i j i_in j_in alike. ap (λ n. n.0) ((one_first g (node_point g (id i)) (node_point g (id j)) (id (class_at classes i)) (id (class_at classes j)) (are.named (id i) i_in) (are.named (id j) j_in)).1 alike);
  }

  -- a class is no greater than its nodes, and is its own
  pub class_low : (n : ℕ) → n < length g → class_at classes n ≤ n
  class_low n within = (are.named (id n) within).first (id n) within (AgreeAlways-refl (node_point g (id n)))

  pub class_own : (n : ℕ) → n < length g → class_at classes (class_at classes n) ≡ class_at classes n
  class_own n within =
      let named = are.named (id n) within in
      stored_together.together (class_at classes n) n named.within within named.same

  -- no class is greater than its node
  pub class_early : (i : ℕ) → class_at classes i ≤ i
  class_early i = elim (cases_lt i (length g)) [
    | inl less ↦ class_low i less
    | inr beyond ↦ let none = class_at-beyond classes i (omega (arith, beyond, are.long)) in omega (arith, none)
  ]
