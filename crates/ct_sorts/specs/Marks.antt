-- The lengths of the lists of declarations, and what is left after a cut.
use Rattle.std.specs.Prelude.{◌≡◌, ◌≤◌, length, take}
use Rattle.std.specs.List.{flat_map}
use Rattle.ct_generics.specs.Synonyms.{first_of}
use Rattle.ct_sorts.specs.Declarations.{Declarations, ctor_ids, sel_ids, head_symbols}
use Rattle.ct_sorts.specs.Heads.{AreHeads}
use Rattle.ct_sorts.specs.Origins.{AreOrigins, HavePlainSorts}
use Rattle.ct_sorts.specs.Lengths.{Lengths}
use Rattle.ct_sorts.specs.Consistent.{AreOverSorts, AreFieldsOverSorts}

-- the lengths of the lists
abbrev pub lengths : Declarations → Lengths
lengths d =
    record {
      sorts = length d.sorts;
      ctors = length d.ctors;
      sels = length d.sels;
      functions = length d.functions;
      definitions = length d.definitions;
      heads = length d.declared.heads;
      synonyms = length d.declared.synonyms;
      symbols = length (head_symbols d.spellings);
      origins = length d.origins;
      spellings = length d.spellings;
    }

-- the first of each list, as many as the mark says
abbrev pub cut : Declarations → Lengths → Declarations
cut d m =
    record {
      sorts = take m.sorts d.sorts;
      ctors = take m.ctors d.ctors;
      sels = take m.sels d.sels;
      functions = take m.functions d.functions;
      definitions = take m.definitions d.definitions;
      declared = first_of m.heads m.synonyms d.declared;
      spellings = take m.spellings d.spellings;
      origins = take m.origins d.origins;
    }

-- the declarations can be cut to the mark
pub record CanCut (d : Declarations) (m : Lengths) : Type 0 where
  -- the lengths are at most the present ones
  pub sorts_within : m.sorts ≤ length d.sorts
  pub ctors_within : m.ctors ≤ length d.ctors
  pub sels_within : m.sels ≤ length d.sels
  pub functions_within : m.functions ≤ length d.functions
  pub definitions_within : m.definitions ≤ length d.definitions
  pub heads_within : m.heads ≤ length d.declared.heads
  pub synonyms_within : m.synonyms ≤ length d.declared.synonyms
  pub origins_within : m.origins ≤ length d.origins
  pub spellings_within : m.spellings ≤ length d.spellings
  -- the constructors of the sorts that are left are those that are left,
  pub whole_sorts : flat_map (λ s. s.ctors) (take m.sorts d.sorts) ≡ ctor_ids 0 m.ctors
  -- their selectors are those that are left,
  pub whole_ctors : flat_map (λ c. c.sels) (take m.ctors d.ctors) ≡ sel_ids 0 m.sels
  -- and these have sorts that are left
  pub fields : AreFieldsOverSorts (cut d m)
  -- no function or definition that is left has a sort that goes
  pub over_sorts : AreOverSorts (cut d m) (cut d m).functions
  pub definitions_over_sorts : AreOverSorts (cut d m) (cut d m).definitions
  -- the names that are left are those of the sorts and generics that are left,
  pub whole_symbols : length (head_symbols (take m.spellings d.spellings)) ≡ m.symbols
  -- no sort, generic or synonym that is left names one that goes, and the sorts that are left are instances of those that
  -- are left, with all that came with them
  pub heads : AreHeads (cut d m)
  pub origins : AreOrigins (cut d m)
  pub plain : HavePlainSorts (cut d m)
