-- What a signature keeps.
use Rattle.std.specs.Prelude.{map}
use Rattle.ct_sorts.specs.Consistent.{IsConsistent}
use Rattle.ct_sorts.specs.Declarations.{Declarations}
use Rattle.ct_sorts.specs.Stored.{function_of}
use Rattle.ct_sorts.specs.Tabled.{of_tables, IsTabled}
use Rattle.ct_sorts.specs.declared.signature.Signature.TheInside.{Inside}

-- the declarations that the fields keep
abbrev pub declarations : Inside → Declarations
declarations stored = of_tables stored.tables (map function_of stored.functions) (map function_of stored.definitions)

-- what the fields keep fits together
pub record IsKept (stored : Inside) : Type 0 where
  pub consistent : IsConsistent (declarations stored)
  pub tabled : IsTabled stored.tables
