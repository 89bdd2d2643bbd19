-- What a sort is made of: its constructors with their fields, where the arguments stand in place of the parameters.
use Rattle.std.specs.Prelude.{ℕ, List, [], ◌∷◌, Option, Some, None, unwrap_or, slice_get}
use Rattle.std.specs.List.{flat_map}
use Rattle.std.specs.Option.{option_and_then}
use Rattle.ct_sorts.specs.declared.ids.Kind.{Kind}
use Rattle.ct_sorts.specs.declared.ids.Kind.TheVariants.{Free}
use Rattle.ct_sorts.specs.declared.spelling.Spelling.{Spelling}
use Rattle.ct_generics.specs.Expression.{Expression, head_of}
use Rattle.ct_generics.specs.Declarations.{Head, head_at}
use Rattle.ct_generics.specs.Reach.{fields_of}
use Rattle.ct_sorts.specs.Kinds.{kind_of}
use Rattle.ct_sorts.specs.SortText.{sort_name}

-- a field: the name of its selector, and its sort
pub record FieldShape : Type 0 where
  pub name : List ℕ
  pub sort : Expression

-- a constructor with its fields
pub record CtorShape : Type 0 where
  pub name : List ℕ
  pub fields : List FieldShape

-- a sort with its constructors
pub record SortShape : Type 0 where
  pub name : List ℕ
  pub kind : Kind
  pub ctors : List CtorShape

-- fields of these names and sorts
abbrev pub field_shapes : List (List ℕ) → List Expression → List FieldShape
field_shapes [] sorts = []
field_shapes (name ∷ names) [] = []
field_shapes (name ∷ names) (e ∷ sorts) = record { name = name; sort = e } ∷ field_shapes names sorts

-- constructors of these names with these field sorts
abbrev pub ctor_shapes : List Spelling → List (List Expression) → List CtorShape
ctor_shapes [] rows = []
ctor_shapes (ctor ∷ ctors) [] = []
ctor_shapes (ctor ∷ ctors) (row ∷ rows) = record { name = ctor.name; fields = field_shapes ctor.fields row } ∷ ctor_shapes ctors rows

abbrev pub kind_of_head : Option Head → Kind
kind_of_head None = Free
kind_of_head (Some head) = kind_of head.kind

-- the names of the constructors of a sort and their fields: those of its sort or generic
abbrev pub spelling_of : List (List Spelling) → Expression → List Spelling
spelling_of spellings e = unwrap_or (option_and_then (slice_get spellings) (head_of e)) []

-- what the sort is made of
abbrev pub shape_of : List Head → List (List Spelling) → Expression → SortShape
shape_of heads spellings e = record { name = sort_name heads e; kind = kind_of_head (head_at heads e); ctors = ctor_shapes (spelling_of spellings e) (fields_of heads e) }

-- the constructors of sorts, one sort after the other
abbrev pub all_ctors : List SortShape → List CtorShape
all_ctors sorts = flat_map (λ s. s.ctors) sorts

-- the fields of constructors, one constructor after the other
abbrev pub all_fields : List CtorShape → List FieldShape
all_fields ctors = flat_map (λ c. c.fields) ctors
