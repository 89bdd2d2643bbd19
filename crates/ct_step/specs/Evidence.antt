-- What a run keeps of its answers: how each check was answered, and of the last verdict and of the last core that was shrunk what shows
-- that they are right.
use Rattle.std.specs.Prelude.{List, [], ◌∷◌, ◌++◌, Option, None, Some}
use Rattle.ct_engine.specs.declared.verdict.Verdict.{Verdict}
use Rattle.ct_engine.specs.declared.verdict.Verdict.TheVariants as verdict
use Rattle.ct_shrink.specs.declared.shrunk.Shrunk.{Shrunk}
use Rattle.ct_step.specs.declared.response.CheckResponse.{CheckResponse}
use Rattle.ct_step.specs.declared.response.CheckResponse.TheVariants.{Sat, Unsat, Unknown}

-- how a check with this verdict is answered
abbrev pub response_of : Verdict → CheckResponse
response_of (verdict.Sat interp) = Sat
response_of (verdict.Unsat derivation) = Unsat
response_of (verdict.Unknown spent) = Unknown

pub record Evidence : Type 0 where
  pub responses : List CheckResponse
  pub last : Option Verdict
  pub shrunk : Option Shrunk

abbrev pub evidence : List CheckResponse → Option Verdict → Option Shrunk → Evidence
evidence responses last shrunk = record { responses = responses; last = last; shrunk = shrunk }

abbrev pub no_evidence : Evidence
no_evidence = evidence [] None None

-- that of a verdict
abbrev pub of_verdict : Verdict → Evidence
of_verdict v = evidence (response_of v ∷ []) (Some v) None

-- that of a core that was shrunk
abbrev pub of_core : Shrunk → Evidence
of_core core = evidence [] None (Some core)

-- the later one, where there is one, and else the earlier one
abbrev pub latest : {X : Type 0} → Option X → Option X → Option X
latest earlier None = earlier
latest earlier (Some later) = Some later

-- what is kept of answers, and then of later ones: all responses, and the last verdict and the last core
abbrev pub followed_by : Evidence → Evidence → Evidence
followed_by first later = evidence (first.responses ++ later.responses) (latest first.last later.last) (latest first.shrunk later.shrunk)
