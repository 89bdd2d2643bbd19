-- What a text says as a node of a sort has that sort, and its constructor or sort is declared.
use Rattle.std.proofs.Common.{◌≡◌, ℕ, Bool, true, false, not, ◌&&◌, List, [], if◌then◌else◌, All, get_or, Option, None, Some, option_map, option_and_then, nat_eq, slice_get, refl, sym, ap, subst, ◌∙◌, codes}
use Rattle.std.proofs.lemmas.Bool.Decides.{Decides-eqb}
use Rattle.std.proofs.lemmas.List.Elements.{All-from_get_or}
use Rattle.std.proofs.lemmas.Option.{none-some, same_Some, slice_get_within, slice_get-get_or}
use Rattle.ct_sorts.specs.declared.ids.CtorId.{CtorId}
use Rattle.ct_sorts.specs.declared.ids.SelId.{SelId}
use Rattle.ct_sorts.specs.declared.ids.SortId.{SortId}
use Rattle.ct_sorts.specs.Consistent.{IsConsistent}
use Rattle.ct_sorts.specs.Declarations.{Declarations, Constructor, Sort, IsSelector}
use Rattle.ct_sorts.proofs.StructureLemmas.{own_constructors, own_selectors}
use Rattle.ct_instances.specs.Among.{is_instance, nth_ctor, if_of, ctor_among}
use Rattle.ct_instances.specs.Fields.{is_ctor_determined}
use Rattle.ct_instances.specs.declared.among.NamedCtor.{NamedCtor}
use Rattle.ct_instances.specs.declared.among.NamedCtor.TheVariants.{Plain, Generic}
use Rattle.ct_names.specs.Symbols.{ctor_named}
use Rattle.ct_sexpr.specs.Expression.{Expression, Expressions}
use Rattle.ct_values.specs.declared.node.NodeId.{NodeId}
use Rattle.ct_values.specs.declared.node.Node.{Node}
use Rattle.ct_values.specs.declared.node.Node.TheVariants.{Con, Elem}
use Rattle.ct_values.specs.Fitting.{node_sort}
use Rattle.ct_readback.specs.Words.{name_in}
use Rattle.ct_readback.specs.Parts.{only_if, option_both, or_other, two_of, first_of, list_items, parts_after}
use Rattle.ct_readback.specs.SortText.{says_sort}
use Rattle.ct_readback.specs.Heads.{constructor_of, constructor_alone, constructor_with, constructor_at, element_at}
use Rattle.ct_readback.specs.GraphText.{node_at, lone_node, element_node, applied_node, references_in}
use Rattle.ct_readback.proofs.ApplicationLemmas.{then_some, element_free}
use Rattle.ct_readback.proofs.ReachedLemmas.{HasHead, HaveSaidSorts, HaveSaidHeads}

-- the constructor is declared, and of the sort
abbrev pub IsOfSort : Declarations → SortId → CtorId → Type 0
IsOfSort d s c = (ctor : Constructor) × (slice_get d.ctors c.0 ≡ Some ctor) × (ctor.sort ≡ s)

if_there : (d : Declarations) (s : SortId) (c k : CtorId) (o : Option Constructor) → slice_get d.ctors c.0 ≡ o → if_of s c o ≡ Some k → IsOfSort d s k
if_there d s c k None at h = absurd (none-some k h)
if_there d s c k (Some ctor) at h = by (nat_eq ctor.sort.0 s.0) refl h
  where
    by : (b : Bool) → nat_eq ctor.sort.0 s.0 ≡ b → (if b then Some c else None) ≡ Some k → IsOfSort d s k
    by true is found =
        let sort : ctor.sort ≡ s = ap (λ n. record { 0 = n }) ((Decides-eqb ctor.sort.0 s.0).0 is) in
        subst (λ (m : CtorId). IsOfSort d s m) (same_Some c k found) (ctor, at, sort)
    by false is found = absurd (none-some k found)

nth_there : (d : Declarations) → IsConsistent d → (s : SortId) (i : ℕ) (k : CtorId) → nth_ctor d s i ≡ Some k → IsOfSort d s k
nth_there d consistent s i k h = by (slice_get d.sorts s.0) refl h
  where
    by : (o : Option Sort) → slice_get d.sorts s.0 ≡ o → option_and_then (λ (sort : Sort). slice_get sort.ctors i) o ≡ Some k → IsOfSort d s k
    by None at found = absurd (none-some k found)
    by (Some sort) at found = let own = own_constructors d consistent s.0 i sort k at found in (own.0, own.1, ap (λ n. record { 0 = n }) own.2)

among_there : (d : Declarations) → IsConsistent d → (named : NamedCtor) (s : SortId) (k : CtorId) → ctor_among d named s ≡ Some k → IsOfSort d s k
among_there d consistent (Plain c) s k h = if_there d s c k (slice_get d.ctors c.0) refl h
among_there d consistent (Generic g i) s k h = by (is_instance d g s) h
  where
    by : (b : Bool) → (if b then nth_ctor d s i else None) ≡ Some k → IsOfSort d s k
    by true found = nth_there d consistent s i k found
    by false found = absurd (none-some k found)

of_there : (d : Declarations) → IsConsistent d → (s : SortId) (name : List ℕ) (k : CtorId) → constructor_of d s name ≡ Some k → IsOfSort d s k
of_there d consistent s name k h =
    let named = then_some (λ (c : NamedCtor). ctor_among d c s) (ctor_named d name) k h in
    among_there d consistent named.0 s k named.2

only_some : (b : Bool) (c k : CtorId) → only_if b c ≡ Some k → c ≡ k
only_some true c k h = same_Some c k h
only_some false c k h = absurd (none-some k h)

alone_there : (d : Declarations) → IsConsistent d → (s : SortId) (e : Expression) (k : CtorId) → constructor_alone d s e ≡ Some k → IsOfSort d s k
alone_there d consistent s e k h =
    let found = then_some (λ (c : CtorId). only_if (is_ctor_determined d c) c) (option_and_then (constructor_of d s) (name_in e)) k h in
    let name = then_some (constructor_of d s) (name_in e) found.0 found.1 in
    subst (λ (c : CtorId). IsOfSort d s c) (only_some (is_ctor_determined d found.0) found.0 k found.2) (of_there d consistent s name.0 found.0 name.2)

with_there : (d : Declarations) → IsConsistent d → (s : SortId) (parts : Expression × Expression) (k : CtorId) → constructor_with d s parts ≡ Some k → IsOfSort d s k
with_there d consistent s parts k h =
    let found = then_some (λ (c : CtorId). only_if (not (is_ctor_determined d c) && says_sort d s parts.1) c) (option_and_then (constructor_of d s) (name_in parts.0)) k h in
    let name = then_some (constructor_of d s) (name_in parts.0) found.0 found.1 in
    subst (λ (c : CtorId). IsOfSort d s c) (only_some (not (is_ctor_determined d found.0) && says_sort d s parts.1) found.0 k found.2) (of_there d consistent s name.0 found.0 name.2)

pub constructor_there : (d : Declarations) → IsConsistent d → (s : SortId) (e : Expression) (k : CtorId) → constructor_at d s e ≡ Some k → IsOfSort d s k
constructor_there d consistent s e k h = by (constructor_alone d s e) refl h
  where
    by : (o : Option CtorId) → constructor_alone d s e ≡ o → or_other o (option_and_then (constructor_with d s) (option_and_then two_of (parts_after (codes "as") e))) ≡ Some k → IsOfSort d s k
    by None is found =
        let parts = then_some (constructor_with d s) (option_and_then two_of (parts_after (codes "as") e)) k found in
        with_there d consistent s parts.0 k parts.2
    by (Some c) is found = alone_there d consistent s e k (is ∙ found)

-- ---- nodes

-- a node of the sort whose head is declared
abbrev IsSaidOf : Declarations → SortId → Node → Type 0
IsSaidOf d s x = (node_sort d x ≡ Some s) × HasHead d x

selectors_of : (d : Declarations) → IsConsistent d → (c : ℕ) (ctor : Constructor) → slice_get d.ctors c ≡ Some ctor → All (IsSelector d) ctor.sels
selectors_of d consistent c ctor at =
    All-from_get_or (IsSelector d) ctor.sels (record { 0 = 0 })
    (λ i within.
    let s = get_or ctor.sels i (record { 0 = 0 }) in
    let own = own_selectors d consistent c i ctor s at (slice_get-get_or ctor.sels i (record { 0 = 0 }) within) in
    slice_get_within d.sels s.0 own.0 own.1)

con_said : (d : Declarations) → IsConsistent d → (s : SortId) (c : CtorId) (ns : List NodeId) → IsOfSort d s c → IsSaidOf d s (Con c ns)
con_said d consistent s c ns (ctor, at, sort) =
    (ap (option_map (λ (k : Constructor). k.sort)) at ∙ ap Some sort, (ctor, at, selectors_of d consistent c.0 ctor at))

lone_said : (d : Declarations) → IsConsistent d → (s : SortId) (e : Expression) (x : Node) → lone_node d s e ≡ Some x → IsSaidOf d s x
lone_said d consistent s e x h = by (constructor_at d s e) refl h
  where
    by : (o : Option CtorId) → constructor_at d s e ≡ o → option_map (λ c. Con c []) o ≡ Some x → IsSaidOf d s x
    by None is found = absurd (none-some x found)
    by (Some c) is found = subst (λ (y : Node). IsSaidOf d s y) (same_Some (Con c []) x found) (con_said d consistent s c [] (constructor_there d consistent s e c is))

element_said : (d : Declarations) (s : SortId) (e : Expression) (x : Node) → element_node d s e ≡ Some x → IsSaidOf d s x
element_said d s e x h = by (option_and_then (element_at d s) (parts_after (codes "as") e)) refl h
  where
    by : (o : Option ℕ) → option_and_then (element_at d s) (parts_after (codes "as") e) ≡ o → option_map (Elem s) o ≡ Some x → IsSaidOf d s x
    by None is found = absurd (none-some x found)
    by (Some n) is found = subst (λ (y : Node). IsSaidOf d s y) (same_Some (Elem s n) x found) (refl, element_free d s e n is)

applied_said : (d : Declarations) → IsConsistent d → (s : SortId) (parts : Expression × Expressions) (x : Node) → applied_node d s parts ≡ Some x → IsSaidOf d s x
applied_said d consistent s parts x h = by (constructor_at d s parts.0) (references_in parts.1) refl h
  where
    by : (o : Option CtorId) (refs : Option (List NodeId)) → constructor_at d s parts.0 ≡ o → option_both Con o refs ≡ Some x → IsSaidOf d s x
    by None refs is found = absurd (none-some x found)
    by (Some c) None is found = absurd (none-some x found)
    by (Some c) (Some ns) is found = subst (λ (y : Node). IsSaidOf d s y) (same_Some (Con c ns) x found) (con_said d consistent s c ns (constructor_there d consistent s parts.0 c is))

node_said : (d : Declarations) → IsConsistent d → (s : SortId) (e : Expression) (x : Node) → node_at d s e ≡ Some x → IsSaidOf d s x
node_said d consistent s e x h = by (lone_node d s e) (element_node d s e) refl refl h
  where
    by : (lone element : Option Node) → lone_node d s e ≡ lone → element_node d s e ≡ element → or_other lone (or_other element (option_and_then (applied_node d s) (option_and_then first_of (list_items e)))) ≡ Some x → IsSaidOf d s x
    by (Some y) element is is_element found = lone_said d consistent s e x (is ∙ found)
    by None (Some y) is is_element found = element_said d s e x (is_element ∙ found)
    by None None is is_element found =
        let parts = then_some (applied_node d s) (option_and_then first_of (list_items e)) x found in
        applied_said d consistent s parts.0 x parts.2

pub said_sorts : (d : Declarations) → IsConsistent d → HaveSaidSorts d
said_sorts d consistent s e x h = (node_said d consistent s e x h).0

pub said_heads : (d : Declarations) → IsConsistent d → HaveSaidHeads d
said_heads d consistent s e x h = (node_said d consistent s e x h).1
