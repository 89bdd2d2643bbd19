-- What an explanation adds to the steps of a line.
use Rattle.std.specs.Prelude.{◌≡◌, ℕ, List, ◌++◌, Contains}
use Rattle.ct_terms.specs.declared.ids.TermId.{TermId}
use Rattle.ct_terms.specs.declared.ids.Lit.{Lit}
use Rattle.ct_terms.specs.Literal.{opposite}
use Rattle.ct_terms.specs.Clause.{Clause}
use Rattle.ct_rules.specs.declared.equation.Equation.{Equation}
use Rattle.ct_log.specs.declared.rules.EqStep.{EqStep}
use Rattle.ct_log.specs.declared.rules.EqStep.TheVariants.{Hyp}
use Rattle.ct_log.specs.Equations.{Gave, GiveAll}
use Rattle.ct_congr.specs.State.{State}

-- steps were added that name hypotheses of the classes alone; with the opposite of each in the clause they are accepted
-- after the old ones, and the one with this number gives a = b
pub record IsExplained (state : State) (old new : List EqStep) (number : ℕ) (a b : TermId) : Type 0 where
  pub more : List EqStep
  pub stays : new ≡ old ++ more
  pub named : (l : Lit) → Contains more (Hyp l) → Contains state.hypotheses l
  pub accepted : (clause : Clause) (given : List Equation)
      → GiveAll state.declarations state.terms clause old given
      → ((l : Lit) → Contains more (Hyp l) → Contains clause (opposite l))
      → (after : List Equation) × GiveAll state.declarations state.terms clause new (given ++ after) × Gave (given ++ after) number a b
