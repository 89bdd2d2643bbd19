-- What holds of declarations where the declared sorts without parameters may not have come into the list of sorts yet.
use Rattle.std.specs.Prelude.{◌≡◌, ℕ, ◌+◌, ◌≤◌, ◌<◌, List, [], ◌∷◌, ◌++◌, length, map, take, drop, Some, slice_get}
use Rattle.std.specs.List.{flat_map}
use Rattle.ct_sorts.specs.Declarations.{Declarations, Sort, declared_names, symbol_names, head_symbols, ctor_names, sel_names, function_names, definition_names, start, ctor_ids, sel_ids}
use Rattle.ct_sorts.specs.Lookup.{AreDistinct}
use Rattle.ct_sorts.specs.Founded.{IsFounded}
use Rattle.ct_sorts.specs.Heads.{AreHeads}
use Rattle.ct_sorts.specs.Origins.{AreOrigins, HavePlainSorts}
use Rattle.ct_sorts.specs.Limits.{IsOverLimits}
use Rattle.ct_sorts.specs.Consistent.{AreFew, AreAvailable, AreFit, AreOverSorts, AreFieldsOverSorts, owners, indices, FitsKind, IsConsistent}

-- what consistent declarations are, but for that
pub record IsBase (d : Declarations) : Type 0 where
  pub few : AreFew d
  pub within : IsOverLimits d → ⊥
  pub names_distinct : AreDistinct (declared_names d)
  pub distinct : AreDistinct (symbol_names d)
  pub fit : AreFit (declared_names d)
  pub symbols_available : AreAvailable (drop 2 (head_symbols d.spellings))
  pub ctors_available : AreAvailable (drop 2 (ctor_names d))
  pub sels_available : AreAvailable (sel_names d)
  pub available : AreAvailable (function_names d)
  pub definitions_available : AreAvailable (definition_names d)
  pub first_sort : take 1 d.sorts ≡ start.sorts
  pub first_ctors : take 2 d.ctors ≡ start.ctors
  pub first_head : take 1 d.declared.heads ≡ start.declared.heads
  pub first_spelling : take 1 d.spellings ≡ start.spellings
  pub first_origin : take 1 d.origins ≡ start.origins
  pub all_ctors : flat_map (λ s. s.ctors) d.sorts ≡ ctor_ids 0 (length d.ctors)
  pub ctor_sorts : map (λ c. c.sort.0) d.ctors ≡ owners 0 (map (λ s. s.ctors) d.sorts)
  pub kinds : (s : ℕ) (sort : Sort) → slice_get d.sorts s ≡ Some sort → FitsKind s sort.kind (length sort.ctors)
  pub all_sels : flat_map (λ c. c.sels) d.ctors ≡ sel_ids 0 (length d.sels)
  pub sel_ctors : map (λ s. s.ctor.0) d.sels ≡ owners 0 (map (λ c. c.sels) d.ctors)
  pub sel_places : map (λ s. s.place) d.sels ≡ indices (map (λ c. c.sels) d.ctors)
  pub fields : AreFieldsOverSorts d
  pub over_sorts : AreOverSorts d d.functions
  pub definitions_over_sorts : AreOverSorts d d.definitions
  pub heads : AreHeads d
  pub origins : AreOrigins d
  pub founded : (s : ℕ) → s < length d.sorts → IsFounded d s

pub base_of : (d : Declarations) → IsConsistent d → IsBase d
base_of d c = record {
  few = c.few;
  within = c.within;
  names_distinct = c.names_distinct;
  distinct = c.distinct;
  fit = c.fit;
  symbols_available = c.symbols_available;
  ctors_available = c.ctors_available;
  sels_available = c.sels_available;
  available = c.available;
  definitions_available = c.definitions_available;
  first_sort = c.first_sort;
  first_ctors = c.first_ctors;
  first_head = c.first_head;
  first_spelling = c.first_spelling;
  first_origin = c.first_origin;
  all_ctors = c.all_ctors;
  ctor_sorts = c.ctor_sorts;
  kinds = c.kinds;
  all_sels = c.all_sels;
  sel_ctors = c.sel_ctors;
  sel_places = c.sel_places;
  fields = c.fields;
  over_sorts = c.over_sorts;
  definitions_over_sorts = c.definitions_over_sorts;
  heads = c.heads;
  origins = c.origins;
  founded = c.founded;
}

pub with_plain : (d : Declarations) → IsBase d → HavePlainSorts d → IsConsistent d
with_plain d c plain = record {
  few = c.few;
  within = c.within;
  names_distinct = c.names_distinct;
  distinct = c.distinct;
  fit = c.fit;
  symbols_available = c.symbols_available;
  ctors_available = c.ctors_available;
  sels_available = c.sels_available;
  available = c.available;
  definitions_available = c.definitions_available;
  first_sort = c.first_sort;
  first_ctors = c.first_ctors;
  first_head = c.first_head;
  first_spelling = c.first_spelling;
  first_origin = c.first_origin;
  all_ctors = c.all_ctors;
  ctor_sorts = c.ctor_sorts;
  kinds = c.kinds;
  all_sels = c.all_sels;
  sel_ctors = c.sel_ctors;
  sel_places = c.sel_places;
  fields = c.fields;
  over_sorts = c.over_sorts;
  definitions_over_sorts = c.definitions_over_sorts;
  heads = c.heads;
  origins = c.origins;
  founded = c.founded;
  plain = plain;
}
