-- What holds of everything that a signature has declared.
use Rattle.std.specs.Prelude.{◌≡◌, ℕ, ◌+◌, ◌≤◌, ◌<◌, List, [], ◌∷◌, ◌++◌, length, map, take, drop, replicate, All, Some, slice_get}
use Rattle.std.specs.List.{flat_map, range_with_len}
use Rattle.ct_sorts.specs.declared.ids.Kind.{Kind}
use Rattle.ct_sorts.specs.declared.ids.Kind.TheVariants.{Bool as BoolKind, Free, Data, Codata}
use Rattle.ct_sorts.specs.Availability.{IsUnavailable, IsUnfit}
use Rattle.ct_sorts.specs.Declarations.{Declarations, Sort, Selector, Function, IsSort, declared_names, symbol_names, head_symbols, ctor_names, sel_names, function_names, definition_names, start, ctor_ids, sel_ids, most_sorts, most_ctors, most_sels, most_functions, most_definitions}
use Rattle.ct_sorts.specs.Lookup.{AreDistinct}
use Rattle.ct_sorts.specs.Founded.{IsFounded}
use Rattle.ct_sorts.specs.Heads.{AreHeads}
use Rattle.ct_sorts.specs.Origins.{AreOrigins, HavePlainSorts}
use Rattle.ct_sorts.specs.Limits.{IsOverLimits}

-- no limit is passed
pub record AreFew (d : Declarations) : Type 0 where
  pub sorts : length d.sorts ≤ most_sorts
  pub ctors : length d.ctors ≤ most_ctors
  pub sels : length d.sels ≤ most_sels
  pub functions : length d.functions ≤ most_functions
  pub definitions : length d.definitions ≤ most_definitions

-- each of the symbols may be declared
abbrev pub AreAvailable : List (List ℕ) → Type 0
AreAvailable symbols = (index : ℕ) (name : List ℕ) → slice_get symbols index ≡ Some name → IsUnavailable [] name → ⊥

-- each sort, generic and synonym has a name that may be declared
abbrev pub AreFit : List (List ℕ) → Type 0
AreFit sorts = (s : ℕ) (name : List ℕ) → slice_get sorts s ≡ Some name → IsUnfit name → ⊥

-- the function takes and gives sorts that are there
abbrev pub IsOverSorts : Declarations → Function → Type 0
IsOverSorts d f = All (IsSort d) f.args × IsSort d f.result

-- so does each of these
abbrev pub AreOverSorts : Declarations → List Function → Type 0
AreOverSorts d functions = (f : ℕ) (declared : Function) → slice_get functions f ≡ Some declared → IsOverSorts d declared

-- the sort of each field is there
abbrev pub AreFieldsOverSorts : Declarations → Type 0
AreFieldsOverSorts d = (s : ℕ) (sel : Selector) → slice_get d.sels s ≡ Some sel → IsSort d sel.sort

-- for each item of the groups, in order, the number of its group, counted from `first`
abbrev pub owners : {X : Type 0} → ℕ → List (List X) → List ℕ
owners first [] = []
owners first (group ∷ groups) = replicate (length group) first ++ owners (first + 1) groups

-- for each item of the groups, in order, its index in its group
abbrev pub indices : {X : Type 0} → List (List X) → List ℕ
indices groups = flat_map (λ group. range_with_len 0 (length group)) groups

-- Bool is the first sort alone, an uninterpreted sort has no constructor, a datatype and a codatatype have one or more
abbrev pub FitsKind : ℕ → Kind → ℕ → Type 0
FitsKind s BoolKind count = s ≡ 0
FitsKind s Free count = count ≡ 0
FitsKind s Data count = 0 < count
FitsKind s Codata count = 0 < count

-- the declarations fit together
pub record IsConsistent (d : Declarations) : Type 0 where
  pub few : AreFew d
  pub within : IsOverLimits d → ⊥
  -- names are distinct in their spaces, and all but `true` and `false` may be declared
  pub names_distinct : AreDistinct (declared_names d)
  pub distinct : AreDistinct (symbol_names d)
  pub fit : AreFit (declared_names d)
  pub symbols_available : AreAvailable (drop 2 (head_symbols d.spellings))
  pub ctors_available : AreAvailable (drop 2 (ctor_names d))
  pub sels_available : AreAvailable (sel_names d)
  pub available : AreAvailable (function_names d)
  pub definitions_available : AreAvailable (definition_names d)
  -- Bool, `true` and `false` are there
  pub first_sort : take 1 d.sorts ≡ start.sorts
  pub first_ctors : take 2 d.ctors ≡ start.ctors
  pub first_head : take 1 d.declared.heads ≡ start.declared.heads
  pub first_spelling : take 1 d.spellings ≡ start.spellings
  pub first_origin : take 1 d.origins ≡ start.origins
  -- the constructors of the sorts, one sort after the other, are all constructors in order, and each is of its sort
  pub all_ctors : flat_map (λ s. s.ctors) d.sorts ≡ ctor_ids 0 (length d.ctors)
  pub ctor_sorts : map (λ c. c.sort.0) d.ctors ≡ owners 0 (map (λ s. s.ctors) d.sorts)
  pub kinds : (s : ℕ) (sort : Sort) → slice_get d.sorts s ≡ Some sort → FitsKind s sort.kind (length sort.ctors)
  -- the selectors of the constructors, one constructor after the other, are all selectors in order, each of its constructor and its place
  pub all_sels : flat_map (λ c. c.sels) d.ctors ≡ sel_ids 0 (length d.sels)
  pub sel_ctors : map (λ s. s.ctor.0) d.sels ≡ owners 0 (map (λ c. c.sels) d.ctors)
  pub sel_places : map (λ s. s.place) d.sels ≡ indices (map (λ c. c.sels) d.ctors)
  -- every field, function and definition is over sorts that are there
  pub fields : AreFieldsOverSorts d
  pub over_sorts : AreOverSorts d d.functions
  pub definitions_over_sorts : AreOverSorts d d.definitions
  -- sorts without parameters and generics are as they may be declared, and the sorts in the list are instances of them
  pub heads : AreHeads d
  pub origins : AreOrigins d
  pub plain : HavePlainSorts d
  -- every sort is well founded
  pub founded : (s : ℕ) → s < length d.sorts → IsFounded d s
