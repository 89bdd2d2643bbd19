-- What a signature has declared (SMT-LIB 2.7, sections 3.9 and 4.2.3).
use Rattle.std.specs.Prelude.{ℕ, ◌<◌, List, [], ◌∷◌, ◌++◌, map, length, codes}
use Rattle.std.specs.List.{range_with_len, flat_map}
use Rattle.ct_generics.specs.declared.kind.Kind.TheVariants.{Bool as OfBool}
use Rattle.ct_generics.specs.Expression.{Expression, named}
use Rattle.ct_generics.specs.Declarations.{Declared, Head, Synonym}
use Rattle.ct_sorts.specs.Kinds.{head_kind}
use Rattle.ct_sorts.specs.declared.spelling.Spelling.{Spelling}
use Rattle.ct_sorts.specs.declared.ids.SortId.{SortId}
use Rattle.ct_sorts.specs.declared.ids.CtorId.{CtorId}
use Rattle.ct_sorts.specs.declared.ids.SelId.{SelId}
use Rattle.ct_sorts.specs.declared.ids.FunId.{FunId}
use Rattle.ct_sorts.specs.declared.ids.DefId.{DefId}
use Rattle.ct_sorts.specs.declared.ids.Kind.{Kind}
use Rattle.ct_sorts.specs.declared.ids.Kind.TheVariants.{Bool as BoolKind}

-- a sort: its name, its kind, and its constructors in order
pub record Sort : Type 0 where
  pub name : List ℕ
  pub kind : Kind
  pub ctors : List CtorId

-- a constructor: its name, its sort, and its selectors in order, one a field
pub record Constructor : Type 0 where
  pub name : List ℕ
  pub sort : SortId
  pub sels : List SelId

-- a selector: its name, the constructor whose field it gives, the place of the field, and the sort of the field
pub record Selector : Type 0 where
  pub name : List ℕ
  pub ctor : CtorId
  pub place : ℕ
  pub sort : SortId

-- a function: its name, the sorts of its arguments, and the sort of its result
pub record Function : Type 0 where
  pub name : List ℕ
  pub args : List SortId
  pub result : SortId

-- All declarations, each list in the order of declaration: what has number n stands at index n. The sorts are Bool, the
-- declared sorts without parameters, and the instances of generics that are there, with their constructors and selectors.
pub record Declarations : Type 0 where
  pub sorts : List Sort
  pub ctors : List Constructor
  pub sels : List Selector
  pub functions : List Function
  pub definitions : List Function
  -- the sorts without parameters and the generics as they were declared, each with a number of its own, and the synonyms
  pub declared : Declared
  -- for each of these sorts and generics the names of its constructors and their fields
  pub spellings : List (List Spelling)
  -- for each sort in the list what it is: a declared sort without parameters, or a generic with its arguments
  pub origins : List Expression

-- so many constructors in a row, from the first on
abbrev pub ctor_ids : ℕ → ℕ → List CtorId
ctor_ids first count = map (λ n. record { 0 = n }) (range_with_len first count)

-- so many selectors in a row, from the first on
abbrev pub sel_ids : ℕ → ℕ → List SelId
sel_ids first count = map (λ n. record { 0 = n }) (range_with_len first count)

-- so many sorts in a row, from the first on
abbrev pub sort_ids : ℕ → ℕ → List SortId
sort_ids first count = map (λ n. record { 0 = n }) (range_with_len first count)

-- the sort Bool, which is always there
abbrev pub bool_sort : SortId
bool_sort = record { 0 = 0 }

-- Bool with its constructors `true` and `false`
abbrev pub bool : Sort
bool = record { name = codes "Bool"; kind = BoolKind; ctors = ctor_ids 0 2 }

-- what is there at the start: the sort Bool with its constructors `true` and `false`
abbrev pub start : Declarations
start =
    record {
      sorts = bool ∷ [];
      ctors = record { name = codes "true"; sort = bool_sort; sels = [] } ∷ (record { name = codes "false"; sort = bool_sort; sels = [] } ∷ []);
      sels = [];
      functions = [];
      definitions = [];
      declared = record { heads = record { name = codes "Bool"; kind = OfBool; params = 0; ctors = [] } ∷ []; synonyms = [] };
      spellings = (record { name = codes "true"; fields = [] } ∷ (record { name = codes "false"; fields = [] } ∷ [])) ∷ [];
      origins = named 0 ∷ [];
    }

-- the names of the sorts, the constructors, the selectors, the functions and the definitions, each in order
abbrev pub sort_names : Declarations → List (List ℕ)
sort_names d = map (λ s. s.name) d.sorts

abbrev pub ctor_names : Declarations → List (List ℕ)
ctor_names d = map (λ c. c.name) d.ctors

abbrev pub sel_names : Declarations → List (List ℕ)
sel_names d = map (λ s. s.name) d.sels

abbrev pub function_names : Declarations → List (List ℕ)
function_names d = map (λ f. f.name) d.functions

abbrev pub definition_names : Declarations → List (List ℕ)
definition_names d = map (λ f. f.name) d.definitions

-- the names of constructors and their fields, as they stand in the text
abbrev pub spelled : List Spelling → List (List ℕ)
spelled ctors = flat_map (λ c. c.name ∷ c.fields) ctors

-- the names of the constructors and selectors of the sorts without parameters and the generics
abbrev pub head_symbols : List (List Spelling) → List (List ℕ)
head_symbols spellings = flat_map spelled spellings

-- the names that share the first space: sorts without parameters, generics and synonyms
abbrev pub declared_names : Declarations → List (List ℕ)
declared_names d = map (λ (h : Head). h.name) d.declared.heads ++ map (λ (s : Synonym). s.name) d.declared.synonyms

-- the names that share the second space: constructors and selectors of sorts without parameters and of generics, functions
-- and definitions
abbrev pub symbol_names : Declarations → List (List ℕ)
symbol_names d = head_symbols d.spellings ++ (function_names d ++ definition_names d)

-- the number is that of a sort, a constructor, a selector, a function or a definition that is there
abbrev pub IsSort : Declarations → SortId → Type 0
IsSort d s = s.0 < length d.sorts

abbrev pub IsConstructor : Declarations → CtorId → Type 0
IsConstructor d c = c.0 < length d.ctors

abbrev pub IsSelector : Declarations → SelId → Type 0
IsSelector d s = s.0 < length d.sels

abbrev pub IsFunction : Declarations → FunId → Type 0
IsFunction d f = f.0 < length d.functions

abbrev pub IsDefinition : Declarations → DefId → Type 0
IsDefinition d f = f.0 < length d.definitions

-- the greatest numbers of sorts, constructors, selectors, functions and definitions
abbrev pub most_sorts : ℕ
most_sorts = 4096

abbrev pub most_ctors : ℕ
most_ctors = 16384

abbrev pub most_sels : ℕ
most_sels = 65536

abbrev pub most_functions : ℕ
most_functions = 65536

abbrev pub most_definitions : ℕ
most_definitions = 65536

-- one more sort or generic, with the names of its constructors and their fields
abbrev pub with_head : Declarations → Head → List Spelling → Declarations
with_head d head ctors = record d { declared = record d.declared { heads = d.declared.heads ++ head ∷ [] }; spellings = d.spellings ++ ctors ∷ [] }

-- one more uninterpreted sort at the end
abbrev pub with_sort : Declarations → Sort → Declarations
with_sort d s =
    record (with_head d (record { name = s.name; kind = head_kind s.kind; params = 0; ctors = [] }) []) {
      sorts = d.sorts ++ s ∷ [];
      origins = d.origins ++ named (length d.declared.heads) ∷ [];
    }

-- one more function at the end
abbrev pub with_function : Declarations → Function → Declarations
with_function d f = record d { functions = d.functions ++ f ∷ [] }

-- one more definition at the end
abbrev pub with_definition : Declarations → Function → Declarations
with_definition d f = record d { definitions = d.definitions ++ f ∷ [] }
