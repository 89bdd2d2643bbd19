-- Constructors and fields among those of a sort: those of a sort declared without parameters have names of their own, and those
-- of an instance the names of its generic's.
use Rattle.std.specs.Prelude.{ℕ, Bool, false, ◌==◌, Option, Some, None, unwrap_or, slice_get, if◌then◌else◌}
use Rattle.std.specs.Option.{option_and_then}
use Rattle.ct_generics.specs.Expression.{Expression, named, head_of}
use Rattle.ct_sorts.specs.declared.ids.SortId.{SortId}
use Rattle.ct_sorts.specs.declared.ids.CtorId.{CtorId}
use Rattle.ct_sorts.specs.declared.ids.SelId.{SelId}
use Rattle.ct_sorts.specs.declared.ids.GenId.{GenId}
use Rattle.ct_sorts.specs.declared.ids.Symbol.TheVariants.{GenCtor}
use Rattle.ct_sorts.specs.Declarations.{Declarations, Sort, Constructor, IsConstructor}
use Rattle.ct_sorts.specs.Lookup.{IsSymbol}
use Rattle.ct_instances.specs.declared.among.NamedCtor.{NamedCtor}
use Rattle.ct_instances.specs.declared.among.NamedCtor.TheVariants.{Plain, Generic}

-- what the sort with this number is; every number that is asked for is that of a sort
abbrev pub origin_of : Declarations → SortId → Expression
origin_of d s = unwrap_or (slice_get d.origins s.0) (named 0)

-- this sort or generic stands at the head
abbrev pub is_head : ℕ → Option ℕ → Bool
is_head h None = false
is_head h (Some k) = h == k

-- the sort is an instance of the generic
abbrev pub is_instance : Declarations → GenId → SortId → Bool
is_instance d g s = is_head g.0 (head_of (origin_of d s))

-- constructor `i` of the sort, and selector `k` of the constructor
abbrev pub nth_ctor : Declarations → SortId → ℕ → Option CtorId
nth_ctor d s i = option_and_then (λ (sort : Sort). slice_get sort.ctors i) (slice_get d.sorts s.0)

abbrev pub nth_sel : Declarations → ℕ → CtorId → Option SelId
nth_sel d k c = option_and_then (λ (ctor : Constructor). slice_get ctor.sels k) (slice_get d.ctors c.0)

-- the constructor, where it is of this sort
abbrev pub if_of : SortId → CtorId → Option Constructor → Option CtorId
if_of s c None = None
if_of s c (Some ctor) = if ctor.sort.0 == s.0 then Some c else None

-- the constructor among those of the sort; none where it is of another sort
abbrev pub ctor_among : Declarations → NamedCtor → SortId → Option CtorId
ctor_among d (Plain c) s = if_of s c (slice_get d.ctors c.0)
ctor_among d (Generic g i) s = if is_instance d g s then nth_ctor d s i else None

-- field `k` of constructor `i` of the sort, where it is an instance of the generic
abbrev pub field_among : Declarations → GenId → ℕ → ℕ → SortId → Option SelId
field_among d g i k s = option_and_then (nth_sel d k) (ctor_among d (Generic g i) s)

-- the constructor is declared
abbrev pub IsNamedCtor : Declarations → NamedCtor → Type 0
IsNamedCtor d (Plain c) = IsConstructor d c
IsNamedCtor d (Generic g i) = IsSymbol d (GenCtor g i)
