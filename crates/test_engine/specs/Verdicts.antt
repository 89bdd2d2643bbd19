-- What verdicts are over.
use Rattle.std.specs.Prelude.{◌≡◌}
use Rattle.ct_sorts.specs.Declarations.{Declarations}
use Rattle.ct_engine.specs.declared.verdict.Verdict.{Verdict}
use Rattle.ct_engine.specs.declared.verdict.Verdict.TheVariants.{Unsat, Unknown}

-- the derivation of the verdict, where it has one, is over these declarations
abbrev pub IsOver : Declarations → Verdict → Type 0
IsOver d (Unsat derived) = derived.declarations ≡ d
IsOver d (Unknown spent) = spent.derivation.declarations ≡ d
IsOver d v = Unit {0}
