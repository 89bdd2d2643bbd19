-- What a round of the search for small values comes to.
use Rattle.std.specs.Prelude.{IfSome}
use Rattle.ct_sorts.specs.Declarations.{Declarations}
use Rattle.ct_eval.specs.Interpretation.{IsProper}
use Rattle.ct_build.specs.declared.small.Round.{Round}
use Rattle.ct_build.specs.declared.small.Round.TheVariants.{Done, Again}

-- where it found an interpretation, this is well formed
abbrev pub IsProperRound : Declarations → Round → Type 0
IsProperRound d (Done found) = IfSome found (IsProper d)
IsProperRound d Again = Unit {0}
