-- The field that a selector gives, on its constructor and off it.
use Rattle.std.proofs.Common.{◌≡◌, ℕ, zero, suc, ◌<◌, Bool, true, false, IsTrue, List, [], ◌∷◌, map, length, Option, Some, None, option_map, unwrap_or, if◌then◌else◌, slice_get, get_or, refl, sym, ap, subst, ◌∙◌, true≢false}
use Rattle.std.specs.List.{AllZip}
use Rattle.std.proofs.lemmas.Option.{none-some, same_Some, slice_get-get_or, slice_get_within}
use Rattle.std.proofs.lemmas.Bool.Decides.{Decides-eqb}
use Rattle.ct_lemmas.proofs.Pairs.{AllZip-at_right}
use Rattle.ct_sorts.specs.declared.ids.CtorId.{CtorId}
use Rattle.ct_sorts.specs.declared.ids.SelId.{SelId}
use Rattle.ct_sorts.specs.declared.ids.SortId.{SortId}
use Rattle.ct_sorts.specs.Declarations.{Declarations, Constructor, Selector}
use Rattle.ct_sorts.specs.Structure.{AreOfTheirConstructors}
use Rattle.ct_values.specs.declared.node.NodeId.{NodeId}
use Rattle.ct_values.specs.declared.node.Node.{Node}
use Rattle.ct_values.specs.declared.node.Node.TheVariants.{Con, Elem}
use Rattle.ct_values.specs.Graph.{Nodes, node_head, node_children}
use Rattle.ct_values.specs.Value.{Value, reference}
use Rattle.ct_values.specs.Agreement.{point, node_point, children_of, AgreeAlways}
use Rattle.ct_values.specs.Fitting.{HasNodeSort, IsNodeOfField, IsBuilt, FitsGraph}
use Rattle.ct_values.specs.Sharing.{IsRepresentative}
use Rattle.ct_eval.specs.declared.interp.Interp.{Interp}
use Rattle.ct_eval.specs.declared.interp.Table.{Table}
use Rattle.ct_values.specs.TruthValue.{is_head, is_built}
use Rattle.ct_eval.specs.Evaluation.{table_value, select}
use Rattle.ct_eval.specs.LookUp.{look_up}
use Rattle.ct_eval.specs.EvaluationStep.{HasValue, Theorems}
use Rattle.ct_eval.proofs.StepNodes.{head_of_representative, children_of_representative, built_alike}
use Rattle.ct_eval.proofs.StepSorts.{same_sorts}

-- a node that is built by the constructor of a selector has a child at the selector's place, of its field's sort
module _ (d : Declarations) (g : Nodes) (n : NodeId) (s : SelId) (selector : Selector) (own : AreOfTheirConstructors d) (fits : FitsGraph d g) (declared : slice_get d.sels s.0 ≡ Some selector) where
  built_child : (k : CtorId) (ns : List NodeId) → k.0 ≡ selector.ctor.0 → IsBuilt d g k.0 ns → (child : NodeId) × (slice_get ns selector.place ≡ Some child) × HasNodeSort d g child selector.sort
  built_child k ns one built =
      let ctor = own s.0 selector declared in
      let same : built.ctor ≡ ctor.0 = same_Some built.ctor ctor.0 (sym built.declared ∙ ap (λ (j : ℕ). slice_get d.ctors j) one ∙ ctor.1) in
      let at : slice_get built.ctor.sels selector.place ≡ Some s = subst (λ (c : Constructor). slice_get c.sels selector.place ≡ Some s) (sym same) ctor.2 in
      let child = AllZip-at_right (IsNodeOfField d g) ns built.ctor.sels selector.place s built.fields at in
      let field : child.2.selector ≡ selector = same_Some child.2.selector selector (sym child.2.declared ∙ declared) in
      (child.0, child.1, subst (λ (f : Selector). HasNodeSort d g child.0 f.sort) field child.2.sorted)

  node_child : (node : Node) → slice_get g n.0 ≡ Some node → is_head selector.ctor (Some (node_head node)) ≡ true → (child : NodeId) × (slice_get (node_children node) selector.place ≡ Some child) × HasNodeSort d g child selector.sort
  node_child (Con k ns) at built = built_child k ns ((Decides-eqb k.0 selector.ctor.0).0 built) (fits n.0 (Con k ns) at)
  node_child (Elem t m) at built = absurd (true≢false (sym built))

  pub field_child : (ns : List NodeId) → IsTrue (is_built g selector.ctor (reference n)) → option_map node_children (slice_get g n.0) ≡ Some ns → (child : NodeId) × (slice_get ns selector.place ≡ Some child) × HasNodeSort d g child selector.sort
  field_child ns built is = at (slice_get g n.0) refl
    where
      at : (found : Option Node) → slice_get g n.0 ≡ found → (child : NodeId) × (slice_get ns selector.place ≡ Some child) × HasNodeSort d g child selector.sort
      at None e = absurd (none-some ns (sym (ap (option_map node_children) e) ∙ is))
      at (Some node) e =
          let own_children : node_children node ≡ ns = same_Some (node_children node) ns (sym (ap (option_map node_children) e) ∙ is) in
          let head_is : is_head selector.ctor (Some (node_head node)) ≡ true = subst (λ (o : Option Node). is_head selector.ctor (option_map node_head o) ≡ true) e built in
          let child = node_child node e head_is in
          (child.0, subst (λ (ms : List NodeId). slice_get ms selector.place ≡ Some child.0) own_children child.1, child.2)

-- a value paired with a node at an index
paired_value : (g h : Nodes) (ns : List NodeId) (vs : List Value) (k : ℕ) (child : NodeId) → AllZip AgreeAlways (map (point g) (map reference ns)) (map (point h) vs) → slice_get ns k ≡ Some child → (w : Value) × (slice_get vs k ≡ Some w) × AgreeAlways (node_point g child) (point h w)
paired_value g h [] vs k child all e = absurd (none-some child e)
paired_value g h (n ∷ ns) [] k child all e = absurd all
paired_value g h (n ∷ ns) (v ∷ vs) zero child all e = (v, refl, subst (λ (m : NodeId). AgreeAlways (node_point g m) (point h v)) (same_Some n child e) all.0)
paired_value g h (n ∷ ns) (v ∷ vs) (suc k) child all e = paired_value g h ns vs k child all.1 e

-- the representative of a child is that of the value's child
pub field_value : Theorems → (d : Declarations) (g h : Nodes) (n : NodeId) (v : Value) (ns : List NodeId) (position : ℕ) (child r : NodeId) (sort : SortId) → IsRepresentative g (point h v) n → option_map node_children (slice_get g n.0) ≡ Some ns → slice_get ns position ≡ Some child → HasNodeSort d g child sort → IsRepresentative g (node_point g child) r → (w : Value) × (slice_get (children_of h v) position ≡ Some w) × IsRepresentative g (point h w) r × HasNodeSort d g r sort
field_value theorems d g h n v ns position child r sort first is at sorted f =
    let all = children_of_representative theorems g (point h v) n first in
    let own : AllZip AgreeAlways (map (point g) (map reference ns)) (map (point h) (children_of h v)) = subst (λ (o : Option (List NodeId)). AllZip AgreeAlways (map (point g) (map reference (unwrap_or o []))) (map (point h) (children_of h v))) is all in
    let w = paired_value g h ns (children_of h v) position child own at in
    (w.0, w.1, theorems.same_first g (node_point g child) (point h w.0) r w.2 f, same_sorts d g g r child sort (head_of_representative theorems g (node_point g child) r f) sorted)

-- what a selector means where the value is built by its constructor
pub select_built : (i : Interp) (s : SelId) (o : Option Selector) (selector : Selector) (v w : Value) → o ≡ Some selector → is_built i.graph selector.ctor v ≡ true → slice_get (children_of i.graph v) selector.place ≡ Some w → select i s o v ≡ w
select_built i s o selector v w e built at =
    ap (λ (x : Option Selector). select i s x v) e ∙ ap (λ (b : Bool). if b then unwrap_or (slice_get (children_of i.graph v) selector.place) v else table_value i (slice_get i.offs s.0) (v ∷ [])) built ∙ ap (λ (x : Option Value). unwrap_or x v) at

-- and where it is not
pub select_wrongly : (i : Interp) (s : SelId) (o : Option Selector) (selector : Selector) (v : Value) (table : Table) → o ≡ Some selector → is_built i.graph selector.ctor v ≡ false → slice_get i.offs s.0 ≡ Some table → select i s o v ≡ reference (look_up i.graph table (v ∷ []))
select_wrongly i s o selector v table e built at =
    ap (λ (x : Option Selector). select i s x v) e ∙ ap (λ (b : Bool). if b then unwrap_or (slice_get (children_of i.graph v) selector.place) v else table_value i (slice_get i.offs s.0) (v ∷ [])) built ∙ ap (λ (x : Option Table). table_value i x (v ∷ [])) at

-- a node of the graph has children
pub has_children : (g : Nodes) (n : NodeId) → n.0 < length g → (ns : List NodeId) × (option_map node_children (slice_get g n.0) ≡ Some ns)
has_children g n within = at (slice_get g n.0) refl
  where
    at : (found : Option Node) → slice_get g n.0 ≡ found → (ns : List NodeId) × (option_map node_children found ≡ Some ns)
    at None e = absurd (none-some (get_or g n.0 (Con (record { 0 = 0 }) [])) (sym e ∙ slice_get-get_or g n.0 (Con (record { 0 = 0 }) []) within))
    at (Some node) e = (node_children node, refl)

-- the place of a selector
pub position_is : (d : Declarations) (s : SelId) (selector : Selector) (position : ℕ) → slice_get d.sels s.0 ≡ Some selector → option_map (λ (f : Selector). f.place) (slice_get d.sels s.0) ≡ Some position → selector.place ≡ position
position_is d s selector position declared is = same_Some selector.place position (sym (ap (option_map (λ (f : Selector). f.place)) declared) ∙ is)

-- the node that is built by a selector's constructor
abbrev pub HasField : Declarations → Nodes → NodeId → SelId → Type 0
HasField d g n s = (selector : Selector) × (slice_get d.sels s.0 ≡ Some selector) × IsTrue (is_built g selector.ctor (reference n))

-- has a child at the selector's place
pub child_there : (d : Declarations) (g : Nodes) (n : NodeId) (s : SelId) (position : ℕ) → AreOfTheirConstructors d → FitsGraph d g → n.0 < length g → HasField d g n s → option_map (λ (f : Selector). f.place) (slice_get d.sels s.0) ≡ Some position → (ns : List NodeId) × (option_map node_children (slice_get g n.0) ≡ Some ns) × (position < length ns)
child_there d g n s position own fits within has is =
    let ns = has_children g n within in
    let child = field_child d g n s has.0 own fits has.1 ns.0 has.2 ns.1 in
    (ns.0, ns.1, subst (λ (p : ℕ). p < length ns.0) (position_is d s has.0 position has.1 is) (slice_get_within ns.0 has.0.place child.0 child.1))

-- and the representative of that child is the value's field
pub field_first : Theorems → (d : Declarations) (g h : Nodes) (n : NodeId) (s : SelId) (position : ℕ) (selector : Selector) (v : Value) (child r : NodeId) → AreOfTheirConstructors d → FitsGraph d g → n.0 < length g → HasField d g n s → option_map (λ (f : Selector). f.place) (slice_get d.sels s.0) ≡ Some position → ((ns : List NodeId) → option_map node_children (slice_get g n.0) ≡ Some ns → slice_get ns position ≡ Some child) → IsRepresentative g (node_point g child) r → slice_get d.sels s.0 ≡ Some selector → IsRepresentative g (point h v) n → (w : Value) × (slice_get (children_of h v) selector.place ≡ Some w) × IsRepresentative g (point h w) r × HasNodeSort d g r selector.sort
field_first theorems d g h n s position selector v child r own fits within has is at f declared first =
    let ns = has_children g n within in
    let same : has.0 ≡ selector = same_Some has.0 selector (sym has.1 ∙ declared) in
    let built : IsTrue (is_built g selector.ctor (reference n)) = subst (λ (k : Selector). IsTrue (is_built g k.ctor (reference n))) same has.2 in
    let own_child = field_child d g n s selector own fits declared ns.0 built ns.1 in
    let here : slice_get ns.0 selector.place ≡ Some child = subst (λ (p : ℕ). slice_get ns.0 p ≡ Some child) (sym (position_is d s selector position declared is)) (at ns.0 ns.1) in
    let one : own_child.0 ≡ child = same_Some own_child.0 child (sym own_child.1 ∙ here) in
    field_value theorems d g h n v ns.0 selector.place child r selector.sort first ns.1 here (subst (λ (k : NodeId). HasNodeSort d g k selector.sort) one own_child.2) f

-- the constructor of a selector
pub ctor_is : (d : Declarations) (s : SelId) (selector : Selector) (c : CtorId) → slice_get d.sels s.0 ≡ Some selector → option_map (λ (f : Selector). f.ctor) (slice_get d.sels s.0) ≡ Some c → selector.ctor ≡ c
ctor_is d s selector c declared is = same_Some selector.ctor c (sym (ap (option_map (λ (f : Selector). f.ctor)) declared) ∙ is)

-- a test of a node by the constructor of a selector is the test of the value
pub test_is : Theorems → (d : Declarations) (g h : Nodes) (s : SelId) (selector : Selector) (c : CtorId) (v : Value) (n : NodeId) (b : Bool) → slice_get d.sels s.0 ≡ Some selector → option_map (λ (f : Selector). f.ctor) (slice_get d.sels s.0) ≡ Some c → b ≡ is_built g c (reference n) → IsRepresentative g (point h v) n → is_built h selector.ctor v ≡ b
test_is theorems d g h s selector c v n b declared is test first =
    ap (λ (k : CtorId). is_built h k v) (ctor_is d s selector c declared is) ∙ sym (built_alike theorems g h c v n first) ∙ sym test

-- the field of a selector as its value
pub selected_field : (d : Declarations) (i : Interp) (g : Nodes) (s : SelId) (selector : Selector) (v w : Value) (sort : SortId) (r : NodeId) → slice_get d.sels s.0 ≡ Some selector → is_built i.graph selector.ctor v ≡ true → slice_get (children_of i.graph v) selector.place ≡ Some w → sort ≡ selector.sort → IsRepresentative g (point i.graph w) r → HasNodeSort d g r selector.sort → HasValue d i g (select i s (slice_get d.sels s.0) v) sort r
selected_field d i g s selector v w sort r declared built at is first sorted = record {
  first = subst (λ (u : Value). IsRepresentative g (point i.graph u) r) (sym (select_built i s (slice_get d.sels s.0) selector v w declared built at)) first;
  sorted = subst (λ (t : SortId). HasNodeSort d g r t) (sym is) sorted;
}

-- and what the table gives as its value
pub selected_wrongly : (d : Declarations) (i : Interp) (g : Nodes) (s : SelId) (selector : Selector) (v : Value) (table : Table) (sort : SortId) (r : NodeId) → slice_get d.sels s.0 ≡ Some selector → is_built i.graph selector.ctor v ≡ false → slice_get i.offs s.0 ≡ Some table → sort ≡ selector.sort → HasValue d i g (reference (look_up i.graph table (v ∷ []))) selector.sort r → HasValue d i g (select i s (slice_get d.sels s.0) v) sort r
selected_wrongly d i g s selector v table sort r declared built at is h = record {
  first = subst (λ (u : Value). IsRepresentative g (point i.graph u) r) (sym (select_wrongly i s (slice_get d.sels s.0) selector v table declared built at)) h.first;
  sorted = subst (λ (t : SortId). HasNodeSort d g r t) (sym is) h.sorted;
}
