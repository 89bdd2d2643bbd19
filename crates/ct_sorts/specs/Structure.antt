-- What the lists of declarations say of each other, element by element.
use Rattle.std.specs.Prelude.{◌≡◌, ℕ, Some, slice_get}
use Rattle.ct_sorts.specs.declared.ids.CtorId.{CtorId}
use Rattle.ct_sorts.specs.declared.ids.SelId.{SelId}
use Rattle.ct_sorts.specs.Declarations.{Declarations, Sort, Constructor, Selector}

-- each constructor of a sort is there and is of that sort
abbrev pub HaveOwnConstructors : Declarations → Type 0
HaveOwnConstructors d = (s index : ℕ) (sort : Sort) (c : CtorId) → slice_get d.sorts s ≡ Some sort → slice_get sort.ctors index ≡ Some c → (ctor : Constructor) × (slice_get d.ctors c.0 ≡ Some ctor) × (ctor.sort.0 ≡ s)

-- each constructor is one of its sort's
abbrev pub AreOfTheirSorts : Declarations → Type 0
AreOfTheirSorts d = (c : ℕ) (ctor : Constructor) → slice_get d.ctors c ≡ Some ctor → (sort : Sort) × (index : ℕ) × (slice_get d.sorts ctor.sort.0 ≡ Some sort) × (slice_get sort.ctors index ≡ Some (record { 0 = c }))

-- each selector of a constructor is there, is of that constructor, and has its own place
abbrev pub HaveOwnSelectors : Declarations → Type 0
HaveOwnSelectors d = (c index : ℕ) (ctor : Constructor) (s : SelId) → slice_get d.ctors c ≡ Some ctor → slice_get ctor.sels index ≡ Some s → (sel : Selector) × (slice_get d.sels s.0 ≡ Some sel) × (sel.ctor.0 ≡ c) × (sel.place ≡ index)

-- each selector stands at its place among those of its constructor
abbrev pub AreOfTheirConstructors : Declarations → Type 0
AreOfTheirConstructors d = (s : ℕ) (sel : Selector) → slice_get d.sels s ≡ Some sel → (ctor : Constructor) × (slice_get d.ctors sel.ctor.0 ≡ Some ctor) × (slice_get ctor.sels sel.place ≡ Some (record { 0 = s }))
