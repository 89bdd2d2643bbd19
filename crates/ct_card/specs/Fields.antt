-- The sorts of fields, in order.
use Rattle.std.specs.Prelude.{ℕ, List, [], map, option_map, unwrap_or, slice_get}
use Rattle.std.specs.List.{flat_map}
use Rattle.ct_sorts.specs.declared.ids.CtorId.{CtorId}
use Rattle.ct_sorts.specs.declared.ids.SelId.{SelId}
use Rattle.ct_sorts.specs.Declarations.{Declarations}

-- the sort of the selector's field
abbrev pub field_sort : Declarations → SelId → ℕ
field_sort d id = unwrap_or (option_map (λ s. s.sort.0) (slice_get d.sels id.0)) 0

-- the selectors of the constructor
abbrev pub sels_of : Declarations → CtorId → List SelId
sels_of d c = unwrap_or (option_map (λ ctor. ctor.sels) (slice_get d.ctors c.0)) []

-- the sorts of the constructor's fields
abbrev pub ctor_fields : Declarations → CtorId → List ℕ
ctor_fields d c = map (field_sort d) (sels_of d c)

-- the constructors of the sort
abbrev pub ctors_of : Declarations → ℕ → List CtorId
ctors_of d s = unwrap_or (option_map (λ sort. sort.ctors) (slice_get d.sorts s)) []

-- the sorts of all fields of the sort
abbrev pub sort_fields : Declarations → ℕ → List ℕ
sort_fields d s = flat_map (ctor_fields d) (ctors_of d s)
