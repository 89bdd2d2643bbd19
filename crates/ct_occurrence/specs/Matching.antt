-- The tests of a `match`.
use Rattle.std.specs.Prelude.{◌≡◌, Bool, ◌||◌, List, Option, Some, None, slice_get, if◌then◌else◌}
use Rattle.ct_sorts.specs.declared.ids.CtorId.{CtorId}
use Rattle.ct_sorts.specs.Declarations.{Declarations, Constructor}
use Rattle.ct_formulas.specs.declared.tree.Pattern.{Pattern}
use Rattle.ct_formulas.specs.declared.tree.Pattern.TheVariants.{Ctor, Any}
use Rattle.ct_formulas.specs.Compiled.{surely_fits}

-- the constructor that is tested before a case after cases of these: none where the case surely fits or is the last
abbrev pub tested_by : Declarations → List CtorId → Pattern → Bool → Option CtorId
tested_by d earlier Any last = None
tested_by d earlier (Ctor c) last = if surely_fits d earlier c || last then None else Some c

-- the pattern's constructor, where it has one, is declared
abbrev pub IsPatternDeclared : Declarations → Pattern → Type 0
IsPatternDeclared d Any = Unit {0}
IsPatternDeclared d (Ctor c) = (ctor : Constructor) × (slice_get d.ctors c.0 ≡ Some ctor)
