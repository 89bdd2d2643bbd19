-- Images of fields among numbers of expressions.
use Rattle.std.specs.Prelude.{◌≡◌, ℕ, ◌<◌, List, All, Some, slice_get}
use Rattle.ct_generics.specs.declared.nodes.ExprId.{ExprId}

-- each number is below the bound
abbrev pub AreBelow : ℕ → List ExprId → Type 0
AreBelow bound = All (λ id. id.0 < bound)

-- the number is the image of the field
abbrev pub IsImage : List ExprId → ExprId → ExprId → Type 0
IsImage images id field = slice_get images field.0 ≡ Some id

-- the image of the field stands at this index
abbrev pub IsImageAt : List ExprId → List ExprId → ℕ → ExprId → Type 0
IsImageAt images ids i field = (id : ExprId) × (slice_get images field.0 ≡ Some id) × (slice_get ids i ≡ Some id)

-- the number is the image of one of the fields
abbrev pub IsFieldImage : List ExprId → List ExprId → ExprId → Type 0
IsFieldImage images fields id = (b : ℕ) × (field : ExprId) × (slice_get fields b ≡ Some field) × (slice_get images field.0 ≡ Some id)

-- the number is the image of a field in one of the rows
abbrev pub IsRowImage : List ExprId → List (List ExprId) → ExprId → Type 0
IsRowImage images rows id = (a : ℕ) × (fields : List ExprId) × (slice_get rows a ≡ Some fields) × IsFieldImage images fields id
