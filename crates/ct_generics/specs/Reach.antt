-- Which expressions a sort expression reaches: itself, the fields of what it reaches, and so on.
use Rattle.std.specs.Prelude.{◌≡◌, ℕ, ◌<◌, List, [], map, length, Option, Some, None, slice_get}
use Rattle.ct_generics.specs.declared.kind.Kind.{Kind}
use Rattle.ct_generics.specs.declared.kind.Kind.TheVariants.{Bool as BoolKind, Free, Data, Codata}
use Rattle.ct_generics.specs.Expression.{Expression, args_of, substitute}
use Rattle.ct_generics.specs.Declarations.{Head, head_at}

-- only datatypes and codatatypes have fields
abbrev pub fields_by_kind : Kind → List (List Expression) → List (List Expression)
fields_by_kind BoolKind ctors = []
fields_by_kind Free ctors = []
fields_by_kind Data ctors = ctors
fields_by_kind Codata ctors = ctors

-- the field sorts of each constructor of a head with these arguments
abbrev pub fields_with : Option Head → List Expression → List (List Expression)
fields_with None args = []
fields_with (Some head) args = fields_by_kind head.kind (map (map (substitute args)) head.ctors)

-- the field sorts of each constructor of the expression; there are none for a parameter, Bool or an uninterpreted sort
abbrev pub fields_of : List Head → Expression → List (List Expression)
fields_of heads e = fields_with (head_at heads e) (args_of e)

-- the expression stands in one of the rows
abbrev pub StandsIn : List (List Expression) → Expression → Type 0
StandsIn rows f = (i j : ℕ) × (row : List Expression) × (slice_get rows i ≡ Some row) × (slice_get row j ≡ Some f)

-- the second is the sort of a field of the first
abbrev pub HasField : List Head → Expression → Expression → Type 0
HasField heads e f = StandsIn (fields_of heads e) f

-- what the expression reaches
pub data Reaches (heads : List Head) (e : Expression) : Expression → Type 0 where
  itself : Reaches heads e e
  onward : (f g : Expression) → Reaches heads e f → HasField heads f g → Reaches heads e g

-- no two indices have one expression
abbrev pub AreDifferent : List Expression → Type 0
AreDifferent es = (i j : ℕ) (e : Expression) → slice_get es i ≡ Some e → slice_get es j ≡ Some e → i ≡ j

-- the expression reaches more than so many
abbrev pub ReachesMoreThan : List Head → Expression → ℕ → Type 0
ReachesMoreThan heads e bound = (es : List Expression) × AreDifferent es × (bound < length es) × ((i : ℕ) (f : Expression) → slice_get es i ≡ Some f → Reaches heads e f)

-- the greatest number of expressions that one reaches
abbrev pub most_reached : ℕ
most_reached = 4096
