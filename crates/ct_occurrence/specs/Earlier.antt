-- The constructors of the cases before a case of a `match`, each of them once.
use Rattle.std.specs.Prelude.{ℕ, ◌==◌, Bool, List}
use Rattle.std.specs.Set.{distinct_count}
use Rattle.indexmap.specs.IndexSet.{IndexSet, IsFromIterResult}
use Rattle.ct_sorts.specs.declared.ids.CtorId.{CtorId}

-- they are one constructor
abbrev pub same_ctor : CtorId → CtorId → Bool
same_ctor a b = a.0 == b.0

-- how many constructors a list has, where one that stands in it several times counts once
abbrev pub distinct_ctors : List CtorId → ℕ
distinct_ctors cs = distinct_count same_ctor cs

-- the set has the constructors of the list
abbrev pub IsSetOf : {S : Type 0} → List CtorId → IndexSet CtorId S → Type 0
IsSetOf cs set = IsFromIterResult same_ctor cs set
