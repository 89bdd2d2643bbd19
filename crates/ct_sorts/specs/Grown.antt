-- Declarations that grew.
use Rattle.std.specs.Prelude.{◌≡◌, List, ◌++◌}
use Rattle.ct_sorts.specs.Declarations.{Declarations}

-- the second list begins with the first
abbrev pub Begins : {X : Type 0} → List X → List X → Type 0
Begins {X} first second = (rest : List X) × (second ≡ first ++ rest)

-- the later declarations are the earlier ones, in each list with more after them or the same
pub record Extends (later earlier : Declarations) : Type 0 where
  pub sorts : Begins earlier.sorts later.sorts
  pub ctors : Begins earlier.ctors later.ctors
  pub sels : Begins earlier.sels later.sels
  pub functions : Begins earlier.functions later.functions
  pub definitions : Begins earlier.definitions later.definitions
  pub heads : Begins earlier.declared.heads later.declared.heads
  pub synonyms : Begins earlier.declared.synonyms later.declared.synonyms
  pub spellings : Begins earlier.spellings later.spellings
  pub origins : Begins earlier.origins later.origins
