-- Which sorts are listable: those whose values are finitely many closed values, since no sort under them is uninterpreted or
-- reaches itself.
use Rattle.std.specs.Prelude.{◌≡◌, ℕ, zero, suc, Bool, true, false, ◌&&◌, List, [], length, map, Contains, Option, Some, None, option_map, unwrap_or, slice_get}
use Rattle.std.specs.List.{list_all}
use Rattle.ct_sorts.specs.declared.ids.CtorId.{CtorId}
use Rattle.ct_sorts.specs.declared.ids.SelId.{SelId}
use Rattle.ct_sorts.specs.declared.ids.SortId.{SortId}
use Rattle.ct_sorts.specs.declared.ids.Kind.{Kind}
use Rattle.ct_sorts.specs.declared.ids.Kind.TheVariants.{Bool as BoolKind, Free, Data, Codata}
use Rattle.ct_sorts.specs.Declarations.{Declarations, Sort, Constructor, Selector, bool_sort}

-- the sort of the selector's field
abbrev pub field_sort : Declarations → SelId → SortId
field_sort d s = unwrap_or (option_map (λ (selector : Selector). selector.sort) (slice_get d.sels s.0)) bool_sort

-- the sorts of the constructor's fields, in order
abbrev pub field_sorts : Declarations → CtorId → List SortId
field_sorts d c = map (field_sort d) (unwrap_or (option_map (λ (ctor : Constructor). ctor.sels) (slice_get d.ctors c.0)) [])

-- the set holds each sort that is not uninterpreted and all of whose constructors have only fields of sorts of the set: Bool,
-- whose constructors have no fields, and datatypes and codatatypes
abbrev pub IsListableSet : Declarations → (ℕ → Bool) → Type 0
IsListableSet d set =
    (s : ℕ) (sort : Sort) → slice_get d.sorts s ≡ Some sort → (sort.kind ≡ Free → ⊥)
    → ((c : CtorId) (field : SortId) → Contains sort.ctors c → Contains (field_sorts d c) field → set field.0 ≡ true)
    → set s ≡ true

-- the sort is in each such set, and so in the least one
abbrev pub IsListable : Declarations → SortId → Type 0
IsListable d s = (set : ℕ → Bool) → IsListableSet d set → set s.0 ≡ true

-- sorts of this kind have constructors
abbrev pub is_made : Kind → Bool
is_made BoolKind = true
is_made Free = false
is_made Data = true
is_made Codata = true

-- the sort has constructors, and their fields are of sorts of the set
abbrev pub fields_in : Declarations → (ℕ → Bool) → Option Sort → Bool
fields_in d set None = false
fields_in d set (Some sort) = is_made sort.kind && list_all (λ c. list_all (λ (field : SortId). set field.0) (field_sorts d c)) sort.ctors

-- the sorts that are listable at a stage: those whose constructors' fields are of sorts that are so at the stage before
unfoldable pub stage : Declarations → ℕ → ℕ → Bool
stage d zero s = false
stage d (suc n) s = fields_in d (stage d n) (slice_get d.sorts s)

-- the test for listable sorts: as many stages as there are sorts find all of them
abbrev pub is_listable : Declarations → SortId → Bool
is_listable d s = stage d (length d.sorts) s.0
