-- On which sorts a sort depends: those of its fields (SMT-LIB 2.7, section 4.2.3, on declare-datatypes).
use Rattle.std.specs.Prelude.{◌≡◌, ℕ, List, [], ◌∷◌, Some, slice_get}
use Rattle.ct_sorts.specs.declared.ids.CtorId.{CtorId}
use Rattle.ct_sorts.specs.declared.ids.SelId.{SelId}
use Rattle.ct_sorts.specs.Declarations.{Declarations, Sort, Constructor, Selector}

-- the constructor has a field of this sort
pub record HasFieldOf (d : Declarations) (ctor : Constructor) (t : ℕ) : Type 0 where
  pub index : ℕ
  pub id : SelId
  pub selector : Selector
  pub listed : slice_get ctor.sels index ≡ Some id
  pub declared : slice_get d.sels id.0 ≡ Some selector
  pub sorted : selector.sort.0 ≡ t

-- one step: some constructor of the first sort has a field of the second
pub record DependsOn (d : Declarations) (s t : ℕ) : Type 0 where
  pub sort : Sort
  pub index : ℕ
  pub id : CtorId
  pub ctor : Constructor
  pub of_sort : slice_get d.sorts s ≡ Some sort
  pub listed : slice_get sort.ctors index ≡ Some id
  pub declared : slice_get d.ctors id.0 ≡ Some ctor
  pub field : HasFieldOf d ctor t

-- a way of such steps from the first sort over the sorts of the list to the last
abbrev pub IsWay : Declarations → ℕ → List ℕ → ℕ → Type 0
IsWay d s [] t = DependsOn d s t
IsWay d s (next ∷ way) t = DependsOn d s next × IsWay d next way t

-- one or more steps
abbrev pub DependsInSteps : Declarations → ℕ → ℕ → Type 0
DependsInSteps d s t = (way : List ℕ) × IsWay d s way t
