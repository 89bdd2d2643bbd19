-- Shared graphs: the map of keys as it is made and as it grows.
use Rattle.std.proofs.Common.{◌≡◌, ℕ, suc, ◌+◌, ◌<◌, ◌≤◌, ◌⊎◌, List, [], ◌∷◌, ◌++◌, length, map, Some, None, option_map, slice_get, get_or, refl, sym, ap, ap₂, subst, ◌∙◌, inl, inr, arith, length-append, eq-or-lt_of_le}
use Rattle.std.specs.List.{AllZip, AllByRecursion}
use Rattle.std.proofs.lemmas.Bool.{cases_lt}
use Rattle.std.proofs.lemmas.List.Elements.{All-push, recursion_from_All}
use Rattle.std.proofs.lemmas.Option.{none-some, same_Some, slice_get_within}
use Rattle.ct_lemmas.proofs.Lists.{slice_get-append_left, slice_get-push_cases, slice_get-there}
use Rattle.indexmap.specs.IndexMap.{IndexMap, get}
use Rattle.ct_values.specs.declared.node.NodeId.{NodeId}
use Rattle.ct_values.specs.declared.node.Node.{Node}
use Rattle.ct_values.specs.declared.node.Node.TheVariants.{Con, Elem}
use Rattle.ct_values.specs.declared.node.Head.{Head}
use Rattle.ct_values.specs.declared.key.Key.{Key}
use Rattle.ct_values.specs.Graph.{Nodes, IsClosed, HasChildrenBelow, node_head, node_children}
use Rattle.ct_values.specs.Value.{Value, reference, IsOver, AreOver, values_of, list_of, node_value}
use Rattle.ct_values.specs.Agreement.{Point, point, node_point, head, children, AgreeAlways}
use Rattle.ct_values.specs.Partition.{class_at, node_key}
use Rattle.ct_values.specs.KeyTest.{same_key}
use Rattle.ct_values.specs.Sharing.{IsRepresentative, AreClasses, IsKeyed, IsShared}
use Rattle.ct_values.proofs.AgreeLemmas.{AgreeAlways-parts, AgreeAlways-refl, AgreeAlways-sym, AgreeAlways-trans, AgreeAlways-meet}
use Rattle.ct_values.proofs.GraphLemmas.{closed_children}
use Rattle.ct_values.proofs.NodeLemmas.{id, node_points, head_at, children_at}
use Rattle.ct_values.proofs.ClassLemmas.{class_at-before, class_at-last, classes_together, together_agree, alike_of_one, stored_together, class_low, class_own}
use Rattle.ct_values.proofs.RepresentativeLemmas.{AgreeAlways-grown, IsRepresentative-same, IsRepresentative-grown}

-- all children are nodes of the graph
abbrev AreWithin : Nodes → List NodeId → Type 0
AreWithin g ids = AllByRecursion (λ child. child.0 < length g) ids

-- ---- the value of a node

list_of-values_of : (vs : List Value) → list_of (values_of vs) ≡ vs
list_of-values_of [] = refl
list_of-values_of (v ∷ vs) = ap (λ (us : List Value). v ∷ us) (list_of-values_of vs)

head_of_value : (g : Nodes) (x : Node) → head (point g (node_value x)) ≡ Some (node_head x)
head_of_value g (Con c ids) = refl
head_of_value g (Elem s n) = refl

children_of_value : (g : Nodes) (x : Node) → children (point g (node_value x)) ≡ node_points g (node_children x)
children_of_value g (Con c ids) = ap (map (point g)) (list_of-values_of (map reference ids))
children_of_value g (Elem s n) = refl

references_are_over : (g : Nodes) (ids : List NodeId) → AreWithin g ids → AreOver g (values_of (map reference ids))
references_are_over g [] within = tt
references_are_over g (n ∷ ns) within = (within.0, references_are_over g ns within.1)

-- it is over the graph where the children are
value_is_over : (g : Nodes) (x : Node) → AreWithin g (node_children x) → IsOver g (node_value x)
value_is_over g (Con c ids) within = references_are_over g ids within
value_is_over g (Elem s n) within = tt

-- a node and a value over the same graph, by their parts
node_and_value : (g : Nodes) (n : NodeId) (y x : Node) → slice_get g n.0 ≡ Some y → ((node_head y ≡ node_head x) × AllZip AgreeAlways (node_points g (node_children y)) (node_points g (node_children x))) → AgreeAlways (node_point g n) (point g (node_value x))
node_and_value g n y x at parts =
    let lefts : AllZip AgreeAlways (children (node_point g n)) (node_points g (node_children x)) = subst (λ (ps : List Point). AllZip AgreeAlways ps (node_points g (node_children x))) (sym (children_at g n y at)) parts.1 in
    (AgreeAlways-parts (node_point g n) (point g (node_value x))).1 (
      head_at g n y at ∙ ap Some parts.0 ∙ sym (head_of_value g x),
      subst (λ (ps : List Point). AllZip AgreeAlways (children (node_point g n)) ps) (sym (children_of_value g x)) lefts,
    )

parts_of_value : (g : Nodes) (n : NodeId) (y x : Node) → slice_get g n.0 ≡ Some y → AgreeAlways (node_point g n) (point g (node_value x)) → (node_head y ≡ node_head x) × AllZip AgreeAlways (node_points g (node_children y)) (node_points g (node_children x))
parts_of_value g n y x at alike =
    let parts = (AgreeAlways-parts (node_point g n) (point g (node_value x))).0 alike in
    let lefts : AllZip AgreeAlways (node_points g (node_children y)) (children (point g (node_value x))) = subst (λ (ps : List Point). AllZip AgreeAlways ps (children (point g (node_value x)))) (children_at g n y at) parts.1 in (
      same_Some (node_head y) (node_head x) (sym (head_at g n y at) ∙ parts.0 ∙ head_of_value g x),
      subst (λ (ps : List Point). AllZip AgreeAlways (node_points g (node_children y)) ps) (children_of_value g x) lefts,
    )

-- a node is the value that stands at it
AgreeAlways-value : (g : Nodes) (n : NodeId) (x : Node) → slice_get g n.0 ≡ Some x → AgreeAlways (node_point g n) (point g (node_value x))
AgreeAlways-value g n x at =
    let refl_parts = (AgreeAlways-parts (node_point g n) (node_point g n)).0 (AgreeAlways-refl (node_point g n)) in
    let lefts : AllZip AgreeAlways (node_points g (node_children x)) (children (node_point g n)) = subst (λ (ps : List Point). AllZip AgreeAlways ps (children (node_point g n))) (children_at g n x at) refl_parts.1 in
    node_and_value g n x x at (refl, subst (λ (ps : List Point). AllZip AgreeAlways (node_points g (node_children x)) ps) (children_at g n x at) lefts)

-- ---- classes

module _ (g : Nodes) (classes : List ℕ) (are : AreClasses g classes) where
  -- a node with the key of a value is equal to it
  alike_by_key : (n : NodeId) (y x : Node) → slice_get g n.0 ≡ Some y → AreWithin g (node_children x) → node_key classes y ≡ node_key classes x → AgreeAlways (node_point g n) (point g (node_value x))
  alike_by_key n y x at within keys =
      node_and_value g n y x at (
        ap (λ key. key.head) keys,
        together_agree AgreeAlways g classes (node_children y) (node_children x) (alike_of_one g classes are) (closed_children g n.0 y are.closed at) within (ap (λ key. key.children) keys),
      )

  -- and the other way
  key_by_alike : (n : NodeId) (y x : Node) → slice_get g n.0 ≡ Some y → AreWithin g (node_children x) → AgreeAlways (node_point g n) (point g (node_value x)) → node_key classes y ≡ node_key classes x
  key_by_alike n y x at within alike =
      let parts = parts_of_value g n y x at alike in
      let each = classes_together g classes (node_children y) (node_children x) (stored_together g classes are) (closed_children g n.0 y are.closed at) within parts.1 in
      λ t. record { head = parts.0 t; children = each t }

-- ---- the map, as it is made

-- no node's key is in an empty map
pub IsKeyed-none : {S : Type 0} (g : Nodes) (classes : List ℕ) (representatives : IndexMap Key ℕ S) → ((key : Key) → get same_key representatives key ≡ None) → IsKeyed g classes representatives 0
IsKeyed-none g classes representatives empty = record {
  known = λ n node below at. absurd (omega arith);
  only = λ key n e. absurd (none-some n (sym (empty key) ∙ e));
}

-- one more node
pub IsKeyed-step : {S : Type 0} (g : Nodes) (classes : List ℕ) (representatives more : IndexMap Key ℕ S) (index first : ℕ) (x : Node) → AreClasses g classes → IsKeyed g classes representatives index → slice_get g index ≡ Some x → get same_key more (node_key classes x) ≡ Some first → ((k : Key) (m : ℕ) → get same_key representatives k ≡ Some m → get same_key more k ≡ Some m) → ((k : Key) (m : ℕ) → get same_key more k ≡ Some m → (get same_key representatives k ≡ Some m) ⊎ ((k ≡ node_key classes x) × (m ≡ index))) → IsKeyed g classes more (index + 1)
IsKeyed-step g classes representatives more index first x are keyed at found stay only = record {
  known = λ n node below at_n. known_at n node at_n (eq-or-lt_of_le (at_most n below));
  only = λ k m e. elim (only k m e) [
    | inl had ↦ let before = keyed.only k m had in (omega (arith, before.0), before.1)
    | inr new ↦ (omega (arith, new.1), (x, ap (slice_get g) new.1 ∙ at, new.0))
  ];
}
  where
    within : index < length g
    within = slice_get_within g index x at

    at_most : (n : ℕ) → n < index + 1 → n ≤ index
    at_most n below = omega arith

    -- the class of the node is the representative with its key
    class_is : (class_at classes index ≡ index) ⊎ (class_at classes index < index) → first ≡ class_at classes index
    class_is (inr less) =
        let named = are.named (id index) within in
        let y = slice_get-there g (class_at classes index) named.within in
        let value = AgreeAlways-trans (node_point g (id (class_at classes index))) (node_point g (id index)) (point g (node_value x)) named.same (AgreeAlways-value g (id index) x at) in
        let keys = key_by_alike g classes are (id (class_at classes index)) y.0 x y.1 (closed_children g index x are.closed at) value in
        let before = stay (node_key classes y.0) (class_at classes (class_at classes index)) (keyed.known (class_at classes index) y.0 less y.1) in
        same_Some first (class_at classes index) (sym found ∙ ap (get same_key more) (sym keys) ∙ before ∙ ap Some (class_own g classes are index within))
    class_is (inl own) = elim (only (node_key classes x) first found) [
      | inl had ↦
          let before = keyed.only (node_key classes x) first had in
          let value = alike_by_key g classes are (id first) before.1.0 x before.1.1 (closed_children g index x are.closed at) (sym before.1.2) in
          let alike = AgreeAlways-meet (node_point g (id first)) (node_point g (id index)) (point g (node_value x)) value (AgreeAlways-value g (id index) x at) in
          let early = (are.named (id index) within).first (id first) (slice_get_within g first before.1.0 before.1.1) alike in
          absurd (omega (arith, early, own, before.0))
      | inr new ↦ new.1 ∙ sym own
    ]

    known_at : (n : ℕ) (node : Node) → slice_get g n ≡ Some node → (n ≡ index) ⊎ (n < index) → get same_key more (node_key classes node) ≡ Some (class_at classes n)
    known_at n node at_n (inl here) =
        let same : x ≡ node = same_Some x node (sym at ∙ ap (slice_get g) (sym here) ∙ at_n) in
        ap (λ (y : Node). get same_key more (node_key classes y)) (sym same) ∙ found ∙ ap Some (class_is (eq-or-lt_of_le (class_low g classes are index within))) ∙ ap (λ i. Some (class_at classes i)) (sym here)
    known_at n node at_n (inr less) = stay (node_key classes node) (class_at classes n) (keyed.known n node less at_n)

-- the key that is made of what stands at a node
pub key_of_parts : (g : Nodes) (classes : List ℕ) (n : ℕ) (x : Node) (h : Head) (ids : List NodeId) (key : Key) → slice_get g n ≡ Some x → option_map node_head (slice_get g n) ≡ Some h → option_map node_children (slice_get g n) ≡ Some ids → key ≡ record { head = h; children = map (λ child. class_at classes child.0) ids } → key ≡ node_key classes x
key_of_parts g classes n x h ids key at at_head at_children is =
    let its_head : h ≡ node_head x = same_Some h (node_head x) (sym at_head ∙ ap (option_map node_head) at) in
    let its_ids : ids ≡ node_children x = same_Some ids (node_children x) (sym at_children ∙ ap (option_map node_children) at) in
    is ∙ (λ t. record { head = its_head t; children = map (λ child. class_at classes child.0) (its_ids t) })

-- ---- the representative of a value

module _ {S : Type 0} (g : Nodes) (classes : List ℕ) (representatives : IndexMap Key ℕ S) (x : Node) (shared : IsShared g classes representatives) (below : AreWithin g (node_children x)) where
  -- a node that is the value has its key with its class
  known_value : (m : NodeId) → m.0 < length g → AgreeAlways (node_point g m) (point g (node_value x)) → get same_key representatives (node_key classes x) ≡ Some (class_at classes m.0)
  known_value m m_in alike =
      let y = slice_get-there g m.0 m_in in
      ap (get same_key representatives) (sym (key_by_alike g classes shared.are_classes m y.0 x y.1 below alike)) ∙ shared.keyed.known m.0 y.0 m_in y.1

  -- what the map has for the key of a value is the representative of the value
  pub IsRepresentative-known : (n : ℕ) → get same_key representatives (node_key classes x) ≡ Some n → IsRepresentative g (point g (node_value x)) (id n)
  IsRepresentative-known n found =
      let has = shared.keyed.only (node_key classes x) n found in
      record {
        within = has.0;
        same = alike_by_key g classes shared.are_classes (id n) has.1.0 x has.1.1 below (sym has.1.2);
        first = λ m m_in alike.
            let class : n ≡ class_at classes m.0 = same_Some n (class_at classes m.0) (sym found ∙ known_value m m_in alike) in
            let low : class_at classes m.0 ≤ m.0 = class_low g classes shared.are_classes m.0 m_in in
            omega arith;
      }

  -- the last element of a list
  last_at : {X : Type 0} (xs : List X) (z : X) → slice_get (xs ++ z ∷ []) (length xs) ≡ Some z
  last_at [] z = refl
  last_at (y ∷ ys) z = last_at ys z

  -- the graph with the value as a new node
  abbrev grown : Nodes
  grown = g ++ x ∷ []

  longer : length grown ≡ suc (length g)
  longer = omega (arith, length-append g (x ∷ []))

  new_value : AgreeAlways (node_point grown (id (length g))) (point grown (node_value x))
  new_value = AgreeAlways-value grown (id (length g)) x (last_at g x)

  same_value : AgreeAlways (point grown (node_value x)) (point g (node_value x))
  same_value = AgreeAlways-grown g (x ∷ []) (node_value x) shared.are_classes.closed (value_is_over g x below)

  same_node : (m : NodeId) → m.0 < length g → AgreeAlways (node_point grown m) (node_point g m)
  same_node m m_in = AgreeAlways-grown g (x ∷ []) (reference m) shared.are_classes.closed m_in

  -- a new node is the first that is the value, where the map has nothing for its key
  pub IsRepresentative-new : get same_key representatives (node_key classes x) ≡ None → IsRepresentative grown (point grown (node_value x)) (id (length g))
  IsRepresentative-new none = record {
    within = omega (arith, longer);
    same = new_value;
    first = λ m m_in alike. at m alike (cases_lt m.0 (length g));
  }
    where
      at : (m : NodeId) → AgreeAlways (node_point grown m) (point grown (node_value x)) → (m.0 < length g) ⊎ (length g ≤ m.0) → length g ≤ m.0
      at m alike (inl less) =
          let before = AgreeAlways-trans (node_point g m) (node_point grown m) (point g (node_value x)) (AgreeAlways-sym (node_point grown m) (node_point g m) (same_node m less)) (AgreeAlways-trans (node_point grown m) (point grown (node_value x)) (point g (node_value x)) alike same_value) in
          absurd (none-some (class_at classes m.0) (sym none ∙ known_value m less before))
      at m alike (inr remaining) = remaining

  -- a key over old classes is one over the new ones
  same_classes : (c : ℕ) (ids : List NodeId) → AreWithin g ids → map (λ n. class_at (classes ++ c ∷ []) n.0) ids ≡ map (λ n. class_at classes n.0) ids
  same_classes c [] within = refl
  same_classes c (n ∷ ns) within =
      ap₂ (λ (k : ℕ) (ks : List ℕ). k ∷ ks) (class_at-before classes c n.0 (omega (arith, within.0, shared.are_classes.long))) (same_classes c ns within.1)

  same_key_of : (c : ℕ) (y : Node) → AreWithin g (node_children y) → node_key (classes ++ c ∷ []) y ≡ node_key classes y
  same_key_of c y within =
      ap (λ (ks : List ℕ). let key : Key = record { head = node_head y; children = ks } in key) (same_classes c (node_children y) within)

  -- with the new node as a class of its own
  abbrev more_classes : List ℕ
  more_classes = classes ++ length g ∷ []

  last_class : class_at more_classes (length g) ≡ length g
  last_class = ap (class_at more_classes) (sym shared.are_classes.long) ∙ class_at-last classes (length g)

  old_class : (n : ℕ) → n < length g → class_at more_classes n ≡ class_at classes n
  old_class n within = class_at-before classes (length g) n (omega (arith, within, shared.are_classes.long))

  AreClasses-grown : IsClosed grown → get same_key representatives (node_key classes x) ≡ None → AreClasses grown more_classes
  AreClasses-grown closed none = record {
    closed = closed;
    long = omega (arith, longer, length-append classes (length g ∷ []), shared.are_classes.long);
    named = λ n n_in. at n (cases_lt n.0 (length g)) n_in;
  }
    where
      at : (n : NodeId) → (n.0 < length g) ⊎ (length g ≤ n.0) → n.0 < length grown → IsRepresentative grown (node_point grown n) (id (class_at more_classes n.0))
      at n (inl less) n_in =
          let before = IsRepresentative-grown g (x ∷ []) (node_point g n) (id (class_at classes n.0)) shared.are_classes.closed (shared.are_classes.named n less) in
          let now = IsRepresentative-same grown (node_point g n) (node_point grown n) (id (class_at classes n.0)) (AgreeAlways-sym (node_point grown n) (node_point g n) (same_node n less)) before in
          subst (λ c. IsRepresentative grown (node_point grown n) (id c)) (sym (old_class n.0 less)) now
      at n (inr remaining) n_in =
          let here : length g ≡ n.0 = omega (arith, longer) in
          let now = IsRepresentative-same grown (point grown (node_value x)) (node_point grown (id (length g))) (id (length g)) (AgreeAlways-sym (node_point grown (id (length g))) (point grown (node_value x)) new_value) (IsRepresentative-new none) in
          subst (λ k. IsRepresentative grown (node_point grown (id k)) (id (class_at more_classes k))) here (subst (λ c. IsRepresentative grown (node_point grown (id (length g))) (id c)) (sym last_class) now)

  -- the graph is shared with the new node, whose key the map now has
  pub IsShared-grown : (more : IndexMap Key ℕ S) → IsClosed grown → get same_key representatives (node_key classes x) ≡ None → get same_key more (node_key classes x) ≡ Some (length g) → ((k : Key) (m : ℕ) → get same_key representatives k ≡ Some m → get same_key more k ≡ Some m) → ((k : Key) (m : ℕ) → get same_key more k ≡ Some m → (get same_key representatives k ≡ Some m) ⊎ ((k ≡ node_key classes x) × (m ≡ length g))) → IsShared grown more_classes more
  IsShared-grown more closed none found stay only = record {
    are_classes = AreClasses-grown closed none;
    keyed = record {
      known = λ n node n_in at. known_at n node (slice_get-push_cases g x node n at);
      only = λ k m e. only_at k m (only k m e);
    };
  }
    where
      known_at : (n : ℕ) (node : Node) → (slice_get g n ≡ Some node) ⊎ ((n ≡ length g) × (x ≡ node)) → get same_key more (node_key more_classes node) ≡ Some (class_at more_classes n)
      known_at n node (inl at) =
          let n_in = slice_get_within g n node at in
          ap (get same_key more) (same_key_of (length g) node (closed_children g n node shared.are_classes.closed at))
          ∙ stay (node_key classes node) (class_at classes n) (shared.keyed.known n node n_in at)
          ∙ ap Some (sym (old_class n n_in))
      known_at n node (inr new) =
          ap (λ (y : Node). get same_key more (node_key more_classes y)) (sym new.1)
          ∙ ap (get same_key more) (same_key_of (length g) x below)
          ∙ found
          ∙ ap Some (sym last_class ∙ ap (class_at more_classes) (sym new.0))

      only_at : (k : Key) (m : ℕ) → (get same_key representatives k ≡ Some m) ⊎ ((k ≡ node_key classes x) × (m ≡ length g)) → (m < length grown) × ((node : Node) × (slice_get grown m ≡ Some node) × (k ≡ node_key more_classes node))
      only_at k m (inl had) =
          let before = shared.keyed.only k m had in
          let node = before.1.0 in (
            omega (arith, before.0, longer),
            (node, slice_get-append_left g (x ∷ []) m node before.1.1, before.1.2 ∙ sym (same_key_of (length g) node (closed_children g m node shared.are_classes.closed before.1.1))),
          )
      only_at k m (inr new) = (
        omega (arith, new.1, longer),
        (x, ap (slice_get grown) new.1 ∙ last_at g x, new.0 ∙ sym (same_key_of (length g) x below)),
      )

-- a graph stays closed with one more node whose children are there
IsClosed-push : (g : Nodes) (x : Node) → IsClosed g → HasChildrenBelow (length g) x → IsClosed (g ++ x ∷ [])
IsClosed-push g x closed below =
    All-push (HasChildrenBelow (length (g ++ x ∷ []))) g x (λ i d within. wide (get_or g i d) (closed i d within)) (wide x below)
  where
    wide : (y : Node) → HasChildrenBelow (length g) y → HasChildrenBelow (length (g ++ x ∷ [])) y
    wide y h i d within = omega (arith, h i d within, length-append g (x ∷ []))

-- the same, as a program knows it
pub IsShared-added : {S : Type 0} (g new : Nodes) (classes new_classes : List ℕ) (representatives more : IndexMap Key ℕ S) (key : Key) (x : Node) (n : ℕ) → IsShared g classes representatives → HasChildrenBelow (length g) x → key ≡ node_key classes x → get same_key representatives key ≡ None → get same_key more key ≡ Some (length g) → ((k : Key) (m : ℕ) → get same_key representatives k ≡ Some m → get same_key more k ≡ Some m) → ((k : Key) (m : ℕ) → get same_key more k ≡ Some m → (get same_key representatives k ≡ Some m) ⊎ ((k ≡ key) × (m ≡ length g))) → n ≡ length g → new ≡ g ++ x ∷ [] → new_classes ≡ classes ++ n ∷ [] → IsShared new new_classes more
IsShared-added {S} g new classes new_classes representatives more key x n shared below is absent found stay only count graph_is classes_are =
    let within = recursion_from_All (λ child. child.0 < length g) (node_children x) below in
    let added = IsShared-grown g classes representatives x shared within more
    (IsClosed-push g x shared.are_classes.closed below)
    (ap (get same_key representatives) (sym is) ∙ absent)
    (ap (get same_key more) (sym is) ∙ found)
    stay
    (λ k m e. elim (only k m e) [ inl had ↦ inl had | inr at ↦ inr (at.0 ∙ is, at.1) ]) in
    let all : new_classes ≡ classes ++ length g ∷ [] = classes_are ∙ ap (λ k. classes ++ k ∷ []) count in
    subst (λ (h : Nodes). IsShared h new_classes more) (sym graph_is) (subst (λ (cs : List ℕ). IsShared (g ++ x ∷ []) cs more) (sym all) added)

pub IsRepresentative-added : {S : Type 0} (g new : Nodes) (classes : List ℕ) (representatives : IndexMap Key ℕ S) (key : Key) (x : Node) (n : NodeId) → IsShared g classes representatives → HasChildrenBelow (length g) x → key ≡ node_key classes x → get same_key representatives key ≡ None → n.0 ≡ length g → new ≡ g ++ x ∷ [] → IsRepresentative new (point new (node_value x)) n
IsRepresentative-added g new classes representatives key x n shared below is absent count graph_is =
    let within = recursion_from_All (λ child. child.0 < length g) (node_children x) below in
    let first = IsRepresentative-new g classes representatives x shared within (ap (get same_key representatives) (sym is) ∙ absent) in
    let number : id (length g) ≡ n = λ i. id (sym count i) in
    subst (λ (h : Nodes). IsRepresentative h (point h (node_value x)) n) (sym graph_is) (subst (λ (m : NodeId). IsRepresentative (g ++ x ∷ []) (point (g ++ x ∷ []) (node_value x)) m) number first)
