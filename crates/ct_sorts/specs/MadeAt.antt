-- What a sort in the list is made of, by its number, the index of the constructor and that of the field.
use Rattle.std.specs.Prelude.{◌≡◌, ℕ, length, Some, slice_get}
use Rattle.ct_sorts.specs.declared.ids.CtorId.{CtorId}
use Rattle.ct_sorts.specs.declared.ids.SelId.{SelId}
use Rattle.ct_sorts.specs.Declarations.{Declarations, Sort, Constructor, Selector}
use Rattle.ct_sorts.specs.Same.{sort_among}
use Rattle.ct_sorts.specs.Shapes.{FieldShape, CtorShape}

-- the selector of a field of a constructor
pub record IsSelOf (d : Declarations) (ctor : Constructor) (j : ℕ) (f : FieldShape) : Type 0 where
  pub id : SelId
  pub sel : Selector
  pub at : slice_get ctor.sels j ≡ Some id
  pub there : slice_get d.sels id.0 ≡ Some sel
  pub sort_is : sel.sort ≡ sort_among d.origins f.sort
  pub name_is : sel.name ≡ f.name

-- a constructor of a sort
pub record IsCtorOf (d : Declarations) (s : ℕ) (i : ℕ) (t : CtorShape) : Type 0 where
  pub sort : Sort
  pub id : CtorId
  pub ctor : Constructor
  pub sort_at : slice_get d.sorts s ≡ Some sort
  pub at : slice_get sort.ctors i ≡ Some id
  pub there : slice_get d.ctors id.0 ≡ Some ctor
  pub name_is : ctor.name ≡ t.name
  pub sort_is : ctor.sort.0 ≡ s
  pub sels_long : length ctor.sels ≡ length t.fields
  pub sels : (j : ℕ) (f : FieldShape) → slice_get t.fields j ≡ Some f → IsSelOf d ctor j f
