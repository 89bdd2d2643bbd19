-- What the sorts in the list are.
use Rattle.std.specs.Prelude.{◌≡◌, ℕ, List, length, drop, Some, slice_get}
use Rattle.ct_generics.specs.Expression.{Expression, named}
use Rattle.ct_generics.specs.Declarations.{Head, IsExpression}
use Rattle.ct_generics.specs.Reach.{AreDifferent}
use Rattle.ct_generics.specs.Additions.{ComeAfterArguments, HaveFields}
use Rattle.ct_sorts.specs.Declarations.{Declarations}
use Rattle.ct_sorts.specs.Same.{sort_among}
use Rattle.ct_sorts.specs.Shapes.{all_ctors}
use Rattle.ct_sorts.specs.Made.{new_sorts, new_ctors, new_sels, shapes_of}

-- each declared sort without parameters is in the list
abbrev pub HavePlainSorts : Declarations → Type 0
HavePlainSorts d = (h : ℕ) (head : Head) → slice_get d.declared.heads h ≡ Some head → head.params ≡ 0 → (s : ℕ) × (slice_get d.origins s ≡ Some (named h))

-- The sorts are Bool, the declared sorts without parameters, and instances of generics at sorts that stand before them; the
-- sorts of their fields are sorts in the list.
pub record AreOrigins (d : Declarations) : Type 0 where
  pub one_each : length d.origins ≡ length d.sorts
  pub different : AreDifferent d.origins
  pub sorts : (s : ℕ) (e : Expression) → slice_get d.origins s ≡ Some e → IsExpression d.declared.heads 0 e
  pub arguments : ComeAfterArguments d.origins
  pub fields : HaveFields d.declared.heads d.origins
  -- each but Bool has the constructors and selectors of what it is
  pub sorts_made : drop 1 d.sorts ≡ new_sorts 2 (shapes_of d (drop 1 d.origins))
  pub ctors_made : drop 2 d.ctors ≡ new_ctors 1 0 (shapes_of d (drop 1 d.origins))
  pub sels_made : d.sels ≡ new_sels (sort_among d.origins) 2 (all_ctors (shapes_of d (drop 1 d.origins)))
