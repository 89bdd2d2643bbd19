-- Which sorts are well founded: each datatype that has finite values, and every other sort (SMT-LIB 2.7, section 4.2.3, on
-- declare-datatypes).
use Rattle.std.specs.Prelude.{◌≡◌, ℕ, Bool, true, Some, slice_get}
use Rattle.ct_sorts.specs.declared.ids.CtorId.{CtorId}
use Rattle.ct_sorts.specs.declared.ids.SelId.{SelId}
use Rattle.ct_sorts.specs.declared.ids.Kind.TheVariants.{Data}
use Rattle.ct_sorts.specs.Declarations.{Declarations, Sort, Constructor, Selector}

-- all fields of the constructor have sorts of the set
abbrev pub HasFieldsIn : Declarations → (ℕ → Bool) → Constructor → Type 0
HasFieldsIn d set ctor = (index : ℕ) (s : SelId) (sel : Selector) → slice_get ctor.sels index ≡ Some s → slice_get d.sels s.0 ≡ Some sel → set sel.sort.0 ≡ true

-- the set holds Bool, every Free and every Codata sort, and every Data sort that has a constructor all of whose field sorts it holds
pub record IsClosedSet (d : Declarations) (set : ℕ → Bool) : Type 0 where
  pub others : (s : ℕ) (sort : Sort) → slice_get d.sorts s ≡ Some sort → (sort.kind ≡ Data → ⊥) → set s ≡ true
  pub built : (s : ℕ) (sort : Sort) (index : ℕ) (c : CtorId) (ctor : Constructor) → slice_get d.sorts s ≡ Some sort → slice_get sort.ctors index ≡ Some c → slice_get d.ctors c.0 ≡ Some ctor → HasFieldsIn d set ctor → set s ≡ true

-- the sort is in each such set, and so in the least one
abbrev pub IsFounded : Declarations → ℕ → Type 0
IsFounded d s = (set : ℕ → Bool) → IsClosedSet d set → set s ≡ true
