-- The equations of a whole list of steps.
use Rattle.std.specs.Prelude.{◌≡◌, Bool, true, false, List}
use Rattle.ct_sorts.specs.Declarations.{Declarations}
use Rattle.ct_terms.specs.Clause.{Clause}
use Rattle.ct_terms.specs.Terms.{Terms}
use Rattle.ct_rules.specs.declared.equation.Equation.{Equation}
use Rattle.ct_log.specs.declared.rules.EqStep.{EqStep}
use Rattle.ct_log.specs.Equations.{GiveAll}

-- the steps give these equations and no others; or they give none
abbrev pub Given : Declarations → Terms → Clause → List EqStep → List Equation → Bool → Type 0
Given d terms clause steps given true = GiveAll d terms clause steps given × ((all : List Equation) → GiveAll d terms clause steps all → all ≡ given)
Given d terms clause steps given false = (all : List Equation) → GiveAll d terms clause steps all → ⊥
