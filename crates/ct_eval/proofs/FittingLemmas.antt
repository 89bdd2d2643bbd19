-- The tests of whether a graph and an interpretation fit declarations: each is true exactly where it is so.
use Rattle.std.proofs.Common.{◌≡◌, ℕ, ◌↔◌, ◌<◌, Bool, true, false, not, get_or, List, [], ◌∷◌, Option, Some, None, slice_get, option_map, IsTrue, refl, sym, ap, subst, ◌∙◌}
use Rattle.std.proofs.lemmas.List.Elements.{All-contains, All-contains_itself}
use Rattle.std.proofs.lemmas.Option.{none-some, same_Some}
use Rattle.ct_lemmas.proofs.Options.{option_map-source, same_found}
use Rattle.ct_sorts.specs.declared.ids.SortId.{SortId}
use Rattle.ct_sorts.specs.declared.ids.CtorId.{CtorId}
use Rattle.ct_sorts.specs.declared.ids.Kind.TheVariants.{Data}
use Rattle.ct_sorts.specs.Declarations.{Declarations, Sort, Constructor, Selector, Function}
use Rattle.ct_values.specs.declared.node.NodeId.{NodeId}
use Rattle.ct_values.specs.declared.node.Node.{Node}
use Rattle.ct_values.specs.Graph.{Nodes, node_children}
use Rattle.ct_values.specs.Fitting.{HasNodeSort}
use Rattle.ct_eval.specs.declared.interp.Table.{Table}
use Rattle.ct_values.specs.WellFormed.{IsData, AreBefore, AreFinite}
use Rattle.ct_eval.specs.Interpretation.{FitsTable}

-- the table fits the function with this number
abbrev pub FitsFunction : Declarations → Nodes → ℕ → Table → Type 0
FitsFunction d g f table = (function : Function) → slice_get d.functions f ≡ Some function → FitsTable d g function.args function.result table

-- the table fits the selector with this number
abbrev pub FitsSelector : Declarations → Nodes → ℕ → Table → Type 0
FitsSelector d g s table = (selector : Selector) (ctor : Constructor) → slice_get d.sels s ≡ Some selector → slice_get d.ctors selector.ctor.0 ≡ Some ctor → FitsTable d g (ctor.sort ∷ []) selector.sort table

-- a node is of a datatype where the sort that is found for it is one
pub IsData-tested : (d : Declarations) (g : Nodes) (n : NodeId) (o : Option SortId) (sort : SortId) (r : Bool) → o ≡ Some sort → ((s : SortId) → (o ≡ Some s) ↔ HasNodeSort d g n s) → (IsTrue r ↔ ((x : Sort) × (slice_get d.sorts sort.0 ≡ Some x) × (x.kind ≡ Data))) → IsTrue r ↔ IsData d g n
IsData-tested d g n o sort r at means reported = (
  λ yes. let h = reported.0 yes in (sort, h.0, (means sort).0 at, h.1, h.2),
  λ h.
      let same : h.0 ≡ sort = same_found o h.0 sort ((means h.0).1 h.2) at in
      reported.1 (h.1, ap (λ (s : SortId). slice_get d.sorts s.0) (sym same) ∙ h.3, h.4),
)

-- and where none is found it is not
pub IsData-nothing : (d : Declarations) (g : Nodes) (n : NodeId) (o : Option SortId) → o ≡ None → ((s : SortId) → (o ≡ Some s) ↔ HasNodeSort d g n s) → IsTrue false ↔ IsData d g n
IsData-nothing d g n o at means = (λ yes. cc, λ h. absurd (none-some h.0 (sym at ∙ (means h.0).1 h.2)))

-- what follows from a test and cannot be is that the test fails
pub not-tested : (b : Bool) (P Q : Type 0) → (IsTrue b ↔ P) → (Q → ⊥) → IsTrue (not b) ↔ (P → Q)
not-tested true P Q reported never = (λ e. cc, λ h. absurd (never (h (reported.0 refl))))
not-tested false P Q reported never = (λ e p. let yes : false ≡ true = reported.1 p in cc, λ h. refl)

-- the children of a node, by another name
pub AreBefore-tested : (d : Declarations) (g : Nodes) (n : NodeId) (children : List NodeId) (node : Node) (r : Bool) → IsData d g n → option_map node_children (slice_get g n.0) ≡ Some children → slice_get g n.0 ≡ Some node → (IsTrue r ↔ AreBefore d g n.0 children) → IsTrue r ↔ (IsData d g n → AreBefore d g n.0 (node_children node))
AreBefore-tested d g n children node r data_node found at reported =
    let same : node_children node ≡ children = same_Some (node_children node) children (ap (option_map node_children) (sym at) ∙ found) in (
      λ yes is_data. subst (AreBefore d g n.0) (sym same) (reported.0 yes),
      λ h. reported.1 (subst (AreBefore d g n.0) same (h data_node)),
    )

-- values of datatypes are finite where each node has smaller ones under it
module _ (d : Declarations) (g : Nodes) where
  pub AreFinite-from : ((k : ℕ) (node : Node) → slice_get g k ≡ Some node → IsData d g (record { 0 = k }) → AreBefore d g k (node_children node)) → AreFinite d g
  AreFinite-from each n child node at holds is_data child_data =
      All-contains (λ c. IsData d g c → c.0 < n.0) (node_children node) child (each n.0 node at is_data) holds child_data

  pub AreFinite-at : AreFinite d g → (k : ℕ) (node : Node) → slice_get g k ≡ Some node → IsData d g (record { 0 = k }) → AreBefore d g k (node_children node)
  AreFinite-at finite k node at is_data position e within child_data =
      finite (record { 0 = k }) (get_or (node_children node) position e) node at (All-contains_itself (node_children node) position e within) is_data child_data

-- a table over the sorts of a function
pub function-tested : (d : Declarations) (g : Nodes) (f : ℕ) (args : List SortId) (sort : SortId) (table : Table) (r : Bool) → option_map (λ (x : Function). x.args) (slice_get d.functions f) ≡ Some args → option_map (λ (x : Function). x.result) (slice_get d.functions f) ≡ Some sort → (IsTrue r ↔ FitsTable d g args sort table) → IsTrue r ↔ FitsFunction d g f table
function-tested d g f args sort table r at_args at_sort reported =
    let fits : List SortId → SortId → Type 0 = λ xs s. FitsTable d g xs s table in
    let function = option_map-source (λ (x : Function). x.args) (slice_get d.functions f) args at_args in
    let result : function.0.result ≡ sort = same_Some function.0.result sort (ap (option_map (λ (x : Function). x.result)) (sym function.1) ∙ at_sort) in (
      λ yes other at.
          let one : function.0 ≡ other = same_found (slice_get d.functions f) function.0 other function.1 at in
          subst (λ (x : Function). fits x.args x.result) one (subst (λ (xs : List SortId). fits xs function.0.result) (sym function.2) (subst (fits args) (sym result) (reported.0 yes))),
      λ h. reported.1 (subst (fits args) result (subst (λ (xs : List SortId). fits xs function.0.result) function.2 (h function.0 function.1))),
    )

-- a table over the sorts of a selector
pub selector-tested : (d : Declarations) (g : Nodes) (s : ℕ) (c : CtorId) (of sort : SortId) (table : Table) (r : Bool) → option_map (λ (x : Selector). x.ctor) (slice_get d.sels s) ≡ Some c → option_map (λ (x : Constructor). x.sort) (slice_get d.ctors c.0) ≡ Some of → option_map (λ (x : Selector). x.sort) (slice_get d.sels s) ≡ Some sort → (IsTrue r ↔ FitsTable d g (of ∷ []) sort table) → IsTrue r ↔ FitsSelector d g s table
selector-tested d g s c of sort table r at_ctor at_of at_sort reported =
    let fits : SortId → SortId → Type 0 = λ x y. FitsTable d g (x ∷ []) y table in
    let selector = option_map-source (λ (x : Selector). x.ctor) (slice_get d.sels s) c at_ctor in
    let ctor = option_map-source (λ (x : Constructor). x.sort) (slice_get d.ctors c.0) of at_of in
    let result : selector.0.sort ≡ sort = same_Some selector.0.sort sort (ap (option_map (λ (x : Selector). x.sort)) (sym selector.1) ∙ at_sort) in (
      λ yes other own at at_own.
          let one : selector.0 ≡ other = same_found (slice_get d.sels s) selector.0 other selector.1 at in
          let named : c ≡ other.ctor = sym selector.2 ∙ ap (λ (x : Selector). x.ctor) one in
          let two : ctor.0 ≡ own = same_found (slice_get d.ctors c.0) ctor.0 own ctor.1 (ap (λ (k : CtorId). slice_get d.ctors k.0) named ∙ at_own) in
          subst (λ (x : SortId). fits x other.sort) (sym ctor.2 ∙ ap (λ (x : Constructor). x.sort) two) (subst (fits of) (sym result ∙ ap (λ (x : Selector). x.sort) one) (reported.0 yes)),
      λ h.
          let at_own : slice_get d.ctors selector.0.ctor.0 ≡ Some ctor.0 = ap (λ (k : CtorId). slice_get d.ctors k.0) selector.2 ∙ ctor.1 in
          reported.1 (subst (fits of) result (subst (λ (x : SortId). fits x selector.0.sort) ctor.2 (h selector.0 ctor.0 selector.1 at_own))),
    )
