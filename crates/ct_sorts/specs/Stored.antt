-- What the fields of a signature mean.
use Rattle.std.specs.Prelude.{ℕ, List, [], Option, map, unwrap_or, option_map, slice_get}
use Rattle.std.specs.Option.{option_and_then}
use Rattle.ct_sorts.specs.Declarations.{Sort, Constructor, Selector, Function}
use Rattle.ct_sorts.specs.declared.entries.SortEntry.{SortEntry}
use Rattle.ct_sorts.specs.declared.entries.CtorEntry.{CtorEntry}
use Rattle.ct_sorts.specs.declared.entries.SelEntry.{SelEntry}
use Rattle.ct_sorts.specs.declared.entries.FunctionEntry.{FunctionEntry}
use Rattle.ct_sorts.specs.declared.spelling.Home.{Home}
use Rattle.ct_sorts.specs.declared.spelling.Spelling.{Spelling}

-- the names of a constructor and its fields
abbrev pub spelling_at : List (List Spelling) → Home → Option Spelling
spelling_at spellings home = option_and_then (λ (ctors : List Spelling). slice_get ctors home.ctor) (slice_get spellings home.head)

-- the name of a constructor, and that of one of its fields
abbrev pub ctor_name_at : List (List Spelling) → Home → List ℕ
ctor_name_at spellings home = unwrap_or (option_map (λ (s : Spelling). s.name) (spelling_at spellings home)) []

abbrev pub field_name_at : List (List Spelling) → Home → ℕ → List ℕ
field_name_at spellings home place = unwrap_or (option_and_then (λ (s : Spelling). slice_get s.fields place) (spelling_at spellings home)) []

-- what a sort's entry stands for, which stands beside its text
abbrev pub sort_of_entry : List ℕ × SortEntry → Sort
sort_of_entry e = record { name = unwrap_or e.1.name e.0; kind = e.1.kind; ctors = e.1.ctors }

-- what the entries of constructors and selectors stand for
abbrev pub ctor_of : List (List Spelling) → CtorEntry → Constructor
ctor_of spellings e = record { name = ctor_name_at spellings e.home; sort = e.sort; sels = e.sels }

abbrev pub sel_of : List (List Spelling) → SelEntry → Selector
sel_of spellings e = record { name = field_name_at spellings e.home e.place; ctor = e.ctor; place = e.place; sort = e.sort }

-- what an entry of a function stands for, which stands beside its name
abbrev pub function_of : List ℕ × FunctionEntry → Function
function_of e = record { name = e.0; args = e.1.args; result = e.1.result }
