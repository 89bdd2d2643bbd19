-- What holds of the sorts without parameters, the generics and the synonyms that are declared.
use Rattle.std.specs.Prelude.{◌≡◌, ℕ, ◌<◌, List, [], length, Some, slice_get}
use Rattle.std.specs.List.{AllZip}
use Rattle.ct_generics.specs.declared.kind.Kind.{Kind}
use Rattle.ct_generics.specs.declared.kind.Kind.TheVariants.{Bool as OfBool, Free, Data, Codata}
use Rattle.ct_generics.specs.Block.{SomeOwn}
use Rattle.ct_generics.specs.Expression.{Expression}
use Rattle.ct_generics.specs.Declarations.{Head}
use Rattle.ct_generics.specs.Founded.{IsFounded}
use Rattle.ct_generics.specs.WellFormed.{IsWellFormed}
use Rattle.ct_sorts.specs.declared.spelling.Spelling.{Spelling}
use Rattle.ct_sorts.specs.Declarations.{Declarations}

-- each field of the constructor has a name
abbrev pub NamesEach : Spelling → List Expression → Type 0
NamesEach ctor fields = length ctor.fields ≡ length fields

-- each constructor and each field has a name; Bool is the first alone, an uninterpreted sort has no constructors, and there
-- are some else
abbrev pub FitsSpelling : ℕ → Kind → List (List Expression) → List Spelling → Type 0
FitsSpelling h OfBool rows ctors = h ≡ 0
FitsSpelling h Free rows ctors = (rows ≡ []) × (ctors ≡ [])
FitsSpelling h Data rows ctors = (0 < length ctors) × AllZip NamesEach ctors rows
FitsSpelling h Codata rows ctors = (0 < length ctors) × AllZip NamesEach ctors rows

-- what holds of all of them
pub record AreHeads (d : Declarations) : Type 0 where
  pub one_each : length d.spellings ≡ length d.declared.heads
  pub spelled : (h : ℕ) (head : Head) (ctors : List Spelling) → slice_get d.declared.heads h ≡ Some head → slice_get d.spellings h ≡ Some ctors → FitsSpelling h head.kind head.ctors ctors
  -- the fields and the bodies of synonyms are sorts over their parameters
  pub formed : IsWellFormed d.declared
  -- none is not well founded
  pub founded : SomeOwn 0 d.declared.heads (λ e. IsFounded d.declared.heads e → ⊥) → ⊥
