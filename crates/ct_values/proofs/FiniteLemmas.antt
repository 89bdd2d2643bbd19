-- Settled nodes: one step keeps what is known of them, and in the end equal finite trees have one class.
use Rattle.std.proofs.Common.{◌≡◌, ℕ, zero, suc, ◌+◌, ◌<◌, ◌⊎◌, Bool, true, false, ◌||◌, MatchBool, List, [], ◌∷◌, length, map, set, Some, option_map, slice_get, All, refl, sym, ap, ap₂, subst, ◌∙◌, inl, inr, arith, length-set, eq-zero-or-pos}
use Rattle.std.specs.List.{AllZip, AllByRecursion}
use Rattle.std.proofs.lemmas.List.Elements.{recursion_from_All}
use Rattle.std.proofs.lemmas.Option.{same_Some, slice_get_within}
use Rattle.ct_lemmas.proofs.Each.{All-at}
use Rattle.ct_lemmas.proofs.Lists.{slice_get-there}
use Rattle.indexmap.specs.IndexSet.{IndexSet}
use Rattle.ct_values.specs.declared.node.NodeId.{NodeId}
use Rattle.ct_values.specs.declared.node.Node.{Node}
use Rattle.ct_values.specs.declared.node.Head.{Head}
use Rattle.ct_values.specs.declared.shape.ShapeStep.{ShapeStep}
use Rattle.ct_values.specs.Graph.{Nodes, IsClosed, node_head, node_children}
use Rattle.ct_values.specs.Agreement.{node_point, AgreeAlways}
use Rattle.ct_values.specs.Partition.{class_at, node_key, Alike, KeepsTogether}
use Rattle.ct_values.specs.Renumbering.{Stay}
use Rattle.ct_values.specs.Shape.{Spells, AreSteps}
use Rattle.ct_values.specs.Postorder.{HasEach}
use Rattle.ct_values.specs.Settled.{IsTree, AreSettled, unsettled, IsSettling, IsTried, AreTried, TellsTrees}
use Rattle.ct_values.proofs.GraphLemmas.{closed_children}
use Rattle.ct_values.proofs.NodeLemmas.{id, node_points, AgreeAlways-nodes}
use Rattle.ct_values.proofs.AgreeLemmas.{AgreeAlways-sym}
use Rattle.ct_values.proofs.ShapeLemmas.{Spells-stay, Spells-one, Spells-unique}

-- ---- finite trees

all_higher : (g : Nodes) (h d : ℕ) → ((i : ℕ) → IsTree g h i → IsTree g (h + d) i) → (ns : List NodeId) → AllByRecursion (λ n. IsTree g h n.0) ns → AllByRecursion (λ n. IsTree g (h + d) n.0) ns
all_higher g h d one [] each = tt
all_higher g h d one (n ∷ ns) each = (one n.0 each.0, all_higher g h d one ns each.1)

-- a tree is less high than each greater bound
higher : (g : Nodes) (h d i : ℕ) → IsTree g h i → IsTree g (h + d) i
higher g zero d i tree = absurd tree
higher g (suc h) d i tree =
    let raised : IsTree g (suc (h + d)) i = (tree.0, tree.1, all_higher g h d (λ j. higher g h d j) (node_children tree.0) tree.2) in
    let bound : suc (h + d) ≡ suc h + d = omega arith in
    subst (λ n. IsTree g n i) bound raised

-- trees are all less high than some one bound
one_bound : (g : Nodes) (ns : List NodeId) → AllByRecursion (λ n. (h : ℕ) × IsTree g h n.0) ns → (h : ℕ) × AllByRecursion (λ n. IsTree g h n.0) ns
one_bound g [] each = (0, tt)
one_bound g (n ∷ ns) each =
    let rest = one_bound g ns each.1 in
    let h = each.0.0 in
    let first : IsTree g (h + rest.0) n.0 = higher g h rest.0 n.0 each.0.1 in
    let turned : rest.0 + h ≡ h + rest.0 = omega arith in
    let others : AllByRecursion (λ m. IsTree g (h + rest.0) m.0) ns = subst (λ (k : ℕ). AllByRecursion (λ m. IsTree g k m.0) ns) turned (all_higher g rest.0 h (λ i. higher g rest.0 h i) ns rest.1) in
    (h + rest.0, (first, others))

-- ---- one class changes

pub class_at-set_same : (classes : List ℕ) (i c : ℕ) → i < length classes → class_at (set classes i c) i ≡ c
class_at-set_same [] i c h = absurd (omega arith)
class_at-set_same (x ∷ xs) zero c h = refl
class_at-set_same (x ∷ xs) (suc i) c h = class_at-set_same xs i c (omega arith)

pub class_at-set_other : (classes : List ℕ) (i j c : ℕ) → (j ≡ i → ⊥) → class_at (set classes i c) j ≡ class_at classes j
class_at-set_other [] i j c other = refl
class_at-set_other (x ∷ xs) zero zero c other = absurd (other refl)
class_at-set_other (x ∷ xs) zero (suc j) c other = refl
class_at-set_other (x ∷ xs) (suc i) zero c other = refl
class_at-set_other (x ∷ xs) (suc i) (suc j) c other = class_at-set_other xs i j c (λ e. other (ap suc e))

-- settling a node leaves one less that is not
pub unsettled-set : (classes : List ℕ) (i c : ℕ) → i < length classes → class_at classes i ≡ 0 → unsettled (set classes i (suc c)) < unsettled classes
unsettled-set [] i c h e = absurd (omega arith)
unsettled-set (zero ∷ xs) zero c h e = omega arith
unsettled-set (suc x ∷ xs) zero c h e = absurd (omega arith)
unsettled-set (zero ∷ xs) (suc i) c h e = let rest = unsettled-set xs i c (omega arith) e in omega arith
unsettled-set (suc x ∷ xs) (suc i) c h e = unsettled-set xs i c (omega arith) e

-- the classes of a node's children
abbrev pub child_classes : List ℕ → List NodeId → List ℕ
child_classes classes ns = map (λ n. class_at classes n.0) ns

-- settled nodes keep their classes where one that is not settled gets one
stored_classes : (classes : List ℕ) (i c : ℕ) (ns : List NodeId) → class_at classes i ≡ 0 → AreSettled classes ns → (child_classes (set classes i c) ns ≡ child_classes classes ns) × AreSettled (set classes i c) ns
stored_classes classes i c [] zero_at settled = (refl, tt)
stored_classes classes i c (n ∷ ns) zero_at settled =
    let other : n.0 ≡ i → ⊥ = λ e. let same : class_at classes n.0 ≡ class_at classes i = ap (class_at classes) e in omega (arith, settled.0) in
    let here = class_at-set_other classes i n.0 c other in
    let rest = stored_classes classes i c ns zero_at settled.1 in
    (ap₂ (λ (x : ℕ) (xs : List ℕ). x ∷ xs) here rest.0, (subst (λ x. 0 < x) (sym here) settled.0, rest.1))

-- settled children are trees
child_trees : {S : Type 0} (g : Nodes) (classes : List ℕ) (steps : IndexSet ShapeStep S) (ns : List NodeId) → IsSettling g classes steps → AllByRecursion (λ n. n.0 < length g) ns → AreSettled classes ns → AllByRecursion (λ n. (h : ℕ) × IsTree g h n.0) ns
child_trees g classes steps [] settling inside settled = tt
child_trees g classes steps (n ∷ ns) settling inside settled =
    (settling.trees n.0 inside.0 settled.0, child_trees g classes steps ns settling inside.1 settled.1)

-- a step settles a node whose children are settled
pub IsSettling-set : {S : Type 0} (g : Nodes) (classes : List ℕ) (steps more : IndexSet ShapeStep S) (i c : ℕ) (x : Node) → AllByRecursion (λ n. n.0 < length g) (node_children x) → IsSettling g classes steps → slice_get g i ≡ Some x → class_at classes i ≡ 0 → AreSettled classes (node_children x) → AreSteps more → Stay steps.keys more.keys → Spells more.keys c (node_head x) (child_classes classes (node_children x)) → IsSettling g (set classes i (suc c)) more
IsSettling-set g classes steps more i c x inside_x old at zero_at settled apart stay spells =
    let within : i < length classes = omega (arith, slice_get_within g i x at, old.long) in
    record {
      steps_apart = apart;
      long = length-set classes i (suc c) ∙ old.long;
      known = λ j d node at_j class. known_at j d node at_j class within (same_or_other j i);
      parts = λ j node at_j positive. parts_at j node at_j positive (same_or_other j i);
      trees = λ j inside positive. trees_at j inside positive (same_or_other j i);
    }
  where
    same_or_other : (j k : ℕ) → (j ≡ k) ⊎ (j ≡ k → ⊥)
    same_or_other zero zero = inl refl
    same_or_other zero (suc k) = inr (λ e. absurd (omega arith))
    same_or_other (suc j) zero = inr (λ e. absurd (omega arith))
    same_or_other (suc j) (suc k) = elim (same_or_other j k) [ inl e ↦ inl (ap suc e) | inr n ↦ inr (λ e. n (omega arith)) ]

    known_at : (j d : ℕ) (node : Node) → slice_get g j ≡ Some node → class_at (set classes i (suc c)) j ≡ suc d → i < length classes → (j ≡ i) ⊎ (j ≡ i → ⊥) → Spells more.keys d (node_head node) (child_classes (set classes i (suc c)) (node_children node))
    known_at j d node at_j class within (inl e) =
        let same : x ≡ node = same_Some x node (sym at ∙ ap (slice_get g) (sym e) ∙ at_j) in
        let d_is : suc c ≡ suc d = sym (class_at-set_same classes i (suc c) within) ∙ ap (class_at (set classes i (suc c))) (sym e) ∙ class in
        let c_is : c ≡ d = omega arith in
        let here : Spells more.keys c (node_head x) (child_classes (set classes i (suc c)) (node_children x)) = subst (Spells more.keys c (node_head x)) (sym (stored_classes classes i (suc c) (node_children x) zero_at settled).0) spells in
        subst (λ (n : Node). Spells more.keys d (node_head n) (child_classes (set classes i (suc c)) (node_children n))) same
        (subst (λ k. Spells more.keys k (node_head x) (child_classes (set classes i (suc c)) (node_children x))) c_is here)
    known_at j d node at_j class within (inr other) =
        let before : class_at classes j ≡ suc d = sym (class_at-set_other classes i j (suc c) other) ∙ class in
        let its_parts = old.parts j node at_j (subst (λ n. 0 < n) (sym before) (omega arith)) in
        subst (Spells more.keys d (node_head node)) (sym (stored_classes classes i (suc c) (node_children node) zero_at its_parts).0)
        (Spells-stay steps.keys more.keys d (node_head node) (child_classes classes (node_children node)) stay (old.known j d node at_j before))

    parts_at : (j : ℕ) (node : Node) → slice_get g j ≡ Some node → 0 < class_at (set classes i (suc c)) j → (j ≡ i) ⊎ (j ≡ i → ⊥) → AreSettled (set classes i (suc c)) (node_children node)
    parts_at j node at_j positive (inl e) =
        let same : x ≡ node = same_Some x node (sym at ∙ ap (slice_get g) (sym e) ∙ at_j) in
        subst (λ (n : Node). AreSettled (set classes i (suc c)) (node_children n)) same (stored_classes classes i (suc c) (node_children x) zero_at settled).1
    parts_at j node at_j positive (inr other) =
        (stored_classes classes i (suc c) (node_children node) zero_at (old.parts j node at_j (subst (λ n. 0 < n) (class_at-set_other classes i j (suc c) other) positive))).1

    trees_at : (j : ℕ) → j < length g → 0 < class_at (set classes i (suc c)) j → (j ≡ i) ⊎ (j ≡ i → ⊥) → (h : ℕ) × IsTree g h j
    trees_at j inside positive (inl e) =
        let all = one_bound g (node_children x) (child_trees g classes steps (node_children x) old inside_x settled) in
        (suc all.0, (x, ap (slice_get g) e ∙ at, all.1))
    trees_at j inside positive (inr other) =
        old.trees j inside (subst (λ n. 0 < n) (class_at-set_other classes i j (suc c) other) positive)

-- the same, as a program knows it
pub IsSettling-step : {S : Type 0} (g : Nodes) (classes : List ℕ) (steps more : IndexSet ShapeStep S) (i c : ℕ) (head : Head) (kids : List NodeId) → IsSettling g classes steps → i < length g → class_at classes i ≡ 0 → option_map node_head (slice_get g i) ≡ Some head → option_map node_children (slice_get g i) ≡ Some kids → All (λ n. n.0 < length g) kids → All (λ n. 0 < class_at classes n.0) kids → AreSteps more → Stay steps.keys more.keys → Spells more.keys c head (child_classes classes kids) → IsSettling g (set classes i (suc c)) more
IsSettling-step g classes steps more i c head kids old inside zero_at head_at kids_at kids_in settled apart stay spells =
    let x = slice_get-there g i inside in
    let its_head : head ≡ node_head x.0 = same_Some head (node_head x.0) (sym head_at ∙ ap (option_map node_head) x.1) in
    let its_kids : kids ≡ node_children x.0 = same_Some kids (node_children x.0) (sym kids_at ∙ ap (option_map node_children) x.1) in
    let below : AllByRecursion (λ n. n.0 < length g) (node_children x.0) = subst (AllByRecursion (λ n. n.0 < length g)) its_kids (recursion_from_All (λ n. n.0 < length g) kids kids_in) in
    let ready : AreSettled classes (node_children x.0) = subst (AreSettled classes) its_kids (recursion_from_All (λ n. 0 < class_at classes n.0) kids settled) in
    let its_shape : Spells more.keys c (node_head x.0) (child_classes classes (node_children x.0)) =
    subst (λ (ns : List NodeId). Spells more.keys c (node_head x.0) (child_classes classes ns)) its_kids
    (subst (λ (h : Head). Spells more.keys c h (child_classes classes kids)) its_head spells) in
    IsSettling-set g classes steps more i c x.0 below old x.1 zero_at ready apart stay its_shape

-- ---- at the end

-- children that agree at every depth, where those on one side are settled trees, are settled with the same classes
same_children : (g : Nodes) (classes : List ℕ) (h : ℕ) (ms ns : List NodeId) → ((m n : NodeId) → m.0 < length g → n.0 < length g → IsTree g h m.0 → 0 < class_at classes m.0 → AgreeAlways (node_point g m) (node_point g n) → class_at classes m.0 ≡ class_at classes n.0) → AllByRecursion (λ m. m.0 < length g) ms → AllByRecursion (λ n. n.0 < length g) ns → AllByRecursion (λ m. IsTree g h m.0) ms → AreSettled classes ms → AllZip AgreeAlways (node_points g ms) (node_points g ns) → (map (λ m. class_at classes m.0) ms ≡ map (λ n. class_at classes n.0) ns) × AreSettled classes ns
same_children g classes h [] [] each ms_in ns_in trees settled pairs = (refl, tt)
same_children g classes h [] (n ∷ ns) each ms_in ns_in trees settled pairs = absurd pairs
same_children g classes h (m ∷ ms) [] each ms_in ns_in trees settled pairs = absurd pairs
same_children g classes h (m ∷ ms) (n ∷ ns) each ms_in ns_in trees settled pairs =
    let here = each m n ms_in.0 ns_in.0 trees.0 settled.0 pairs.0 in
    let rest = same_children g classes h ms ns each ms_in.1 ns_in.1 trees.1 settled.1 pairs.1 in
    (ap₂ (λ (x : ℕ) (xs : List ℕ). x ∷ xs) here rest.0, (subst (λ x. 0 < x) here settled.0, rest.1))

-- a settled number is one more than some number
pub positive : (n : ℕ) → 0 < n → (m : ℕ) × (n ≡ suc m)
positive zero h = absurd (omega arith)
positive (suc m) h = (m, refl)

-- where every node was tried, what agrees with a settled tree at every depth is settled with the same class
tree_class : {S : Type 0} (g : Nodes) (classes : List ℕ) (steps : IndexSet ShapeStep S) → IsClosed g → IsSettling g classes steps → AreTried g classes → (h : ℕ) (m n : NodeId) → m.0 < length g → n.0 < length g → IsTree g h m.0 → 0 < class_at classes m.0 → AgreeAlways (node_point g m) (node_point g n) → class_at classes m.0 ≡ class_at classes n.0
tree_class g classes steps closed settling tried zero m n m_in n_in tree settled alike = absurd tree
tree_class g classes steps closed settling tried (suc h) m n m_in n_in tree settled alike =
    let x = tree.0 in
    let y = slice_get-there g n.0 n_in in
    let parts = AgreeAlways-nodes g g m n x y.0 tree.1 y.1 alike in
    let below = same_children g classes h (node_children x) (node_children y.0) (tree_class g classes steps closed settling tried h) (closed_children g m.0 x closed tree.1) (closed_children g n.0 y.0 closed y.1) tree.2 (settling.parts m.0 x tree.1 settled) parts.1 in
    let c = positive (class_at classes m.0) settled in
    let d = positive (class_at classes n.0) (tried n.0 y.0 y.1 below.1) in
    let shape_n : Spells steps.keys d.0 (node_head x) (child_classes classes (node_children x)) =
    subst (λ (cs : List ℕ). Spells steps.keys d.0 (node_head x) cs) (sym below.0)
    (subst (λ (h : Head). Spells steps.keys d.0 h (child_classes classes (node_children y.0))) (sym parts.0) (settling.known n.0 d.0 y.0 y.1 d.1)) in
    let same : c.0 ≡ d.0 = Spells-unique steps c.0 d.0 (node_head x) (child_classes classes (node_children x)) settling.steps_apart (settling.known m.0 c.0 x tree.1 c.1) shape_n in
    c.1 ∙ ap suc same ∙ sym d.1

-- where every node was tried, nodes that agree at every depth have one class
KeepsTogether-settled : {S : Type 0} (g : Nodes) (classes : List ℕ) (steps : IndexSet ShapeStep S) → IsClosed g → IsSettling g classes steps → AreTried g classes → KeepsTogether g classes
KeepsTogether-settled g classes steps closed settling tried = record {
  long = settling.long;
  together = λ i j i_in j_in alike. at i j i_in j_in alike (eq-zero-or-pos (class_at classes i)) (eq-zero-or-pos (class_at classes j));
}
  where
    at : (i j : ℕ) → i < length g → j < length g → Alike g i j → (class_at classes i ≡ 0) ⊎ (0 < class_at classes i) → (class_at classes j ≡ 0) ⊎ (0 < class_at classes j) → class_at classes i ≡ class_at classes j
    at i j i_in j_in alike (inl no_i) (inl no_j) = no_i ∙ sym no_j
    at i j i_in j_in alike (inr yes_i) other =
        let tree = settling.trees i i_in yes_i in
        tree_class g classes steps closed settling tried tree.0 (id i) (id j) i_in j_in tree.1 yes_i alike
    at i j i_in j_in alike (inl no_i) (inr yes_j) =
        let tree = settling.trees j j_in yes_j in
        sym (tree_class g classes steps closed settling tried tree.0 (id j) (id i) j_in i_in tree.1 yes_j (AgreeAlways-sym (node_point g (id i)) (node_point g (id j)) alike))

-- settled nodes of one class have one head, and children of the same classes
one_key : {S : Type 0} (g : Nodes) (classes : List ℕ) (steps : IndexSet ShapeStep S) → IsSettling g classes steps → (i j : ℕ) (x y : Node) → slice_get g i ≡ Some x → slice_get g j ≡ Some y → 0 < class_at classes i → class_at classes i ≡ class_at classes j → node_key classes x ≡ node_key classes y
one_key g classes steps settling i j x y at_i at_j settled one =
    let c = positive (class_at classes i) settled in
    let parts = Spells-one steps.keys c.0 (node_head x) (node_head y) (child_classes classes (node_children x)) (child_classes classes (node_children y)) (settling.known i c.0 x at_i c.1) (settling.known j c.0 y at_j (sym one ∙ c.1)) in
    λ t. record { head = parts.0 t; children = parts.1 t }

-- where every node was tried, the classes tell the finite trees
pub TellsTrees-settled : {S : Type 0} (g : Nodes) (classes : List ℕ) (steps : IndexSet ShapeStep S) → IsClosed g → IsSettling g classes steps → AreTried g classes → TellsTrees g classes
TellsTrees-settled g classes steps closed settling tried = record {
  keeps = KeepsTogether-settled g classes steps closed settling tried;
  parts = settling.parts;
  tried = tried;
  keys = one_key g classes steps settling;
}

-- ---- a pass

-- as far as a pass has come: it has settled something, or none of these nodes can be settled
abbrev pub HasPassed : Nodes → List ℕ → List ℕ → List NodeId → Bool → Type 0
HasPassed g before now nodes more = MatchBool more (unsettled now < unsettled before) ((now ≡ before) × All (λ n. IsTried g now n.0) nodes)

-- one node more
pub HasPassed-more : (g : Nodes) (before mid now : List ℕ) (nodes next : List NodeId) (n : NodeId) (more done : Bool) → ((P : NodeId → Type 0) → All P nodes → P n → All P next) → HasPassed g before mid nodes more → MatchBool done (unsettled now < unsettled mid) ((now ≡ mid) × IsTried g now n.0) → HasPassed g before now next (more || done)
HasPassed-more g before mid now nodes next n false false longer passed here =
    (here.0 ∙ passed.0, longer (λ m. IsTried g now m.0) (subst (λ (cs : List ℕ). All (λ m. IsTried g cs m.0) nodes) (sym here.0) passed.1) here.1)
HasPassed-more g before mid now nodes next n false true longer passed here =
    subst (λ (cs : List ℕ). unsettled now < unsettled cs) passed.0 here
HasPassed-more g before mid now nodes next n true false longer passed here =
    subst (λ (cs : List ℕ). unsettled cs < unsettled before) (sym here.0) passed
HasPassed-more g before mid now nodes next n true true longer passed here = omega (arith, passed, here)

-- where a pass over all nodes has settled nothing, no node can be settled
pub AreTried-passed : (g : Nodes) (before now : List ℕ) (order : List NodeId) (more : Bool) → HasEach (length g) order → HasPassed g before now order more → MatchBool more (unsettled now < unsettled before) (AreTried g now)
AreTried-passed g before now order true each passed = passed
AreTried-passed g before now order false each passed =
    λ i node at settled.
    let index = each i (slice_get_within g i node at) in
    All-at (λ n. IsTried g now n.0) order index.0 (record { 0 = i }) passed.1 index.1 node at settled
