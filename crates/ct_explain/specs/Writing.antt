-- Steps that are written after others, each with the equation that it states.
use Rattle.std.specs.Prelude.{◌≡◌, ℕ, List, Option, Some, None, ◌++◌, length, take, slice_get, Contains}
use Rattle.ct_terms.specs.declared.ids.TermId.{TermId}
use Rattle.ct_terms.specs.declared.ids.Lit.{Lit}
use Rattle.ct_terms.specs.Literal.{opposite}
use Rattle.ct_terms.specs.Clause.{Clause}
use Rattle.ct_rules.specs.declared.equation.Equation.{Equation}
use Rattle.ct_log.specs.declared.rules.EqStep.{EqStep}
use Rattle.ct_log.specs.declared.rules.EqStep.TheVariants.{Hyp}
use Rattle.ct_log.specs.Equations.{Gave, GaveEach, Gives}
use Rattle.ct_congr.specs.declared.merge.Merge.{Merge}
use Rattle.ct_congr.specs.State.{State}

-- how many steps stand before, the steps that were written, and the equation of each
pub record Written : Type 0 where
  pub first : ℕ
  pub steps : List EqStep
  pub stated : List Equation

-- the step with this number states x = y, whatever the steps before state
abbrev pub Told : Written → ℕ → TermId → TermId → Type 0
Told w n x y = (before : List Equation) → length before ≡ w.first → Gave (before ++ w.stated) n x y

-- the steps with these numbers state the equations of the terms, one for one
abbrev pub ToldEach : Written → List ℕ → List TermId → List TermId → Type 0
ToldEach w numbers xs ys = (before : List Equation) → length before ≡ w.first → GaveEach (before ++ w.stated) numbers xs ys

-- where a step states a hypothesis, it is one of these
abbrev pub Names : List Lit → EqStep → Type 0
Names hyps (Hyp l) = Contains hyps l
Names hyps _ = Unit {0}

-- where a step states a hypothesis, the clause has its opposite
abbrev pub Opposes : Clause → EqStep → Type 0
Opposes clause (Hyp l) = Contains clause (opposite l)
Opposes clause _ = Unit {0}

-- the step gives x = y after those that were written, in each clause that it may stand in
pub record IsStep (state : State) (w : Written) (step : EqStep) (x y : TermId) : Type 0 where
  pub names : Names state.hypotheses step
  pub gives : (clause : Clause) (before : List Equation) → length before ≡ w.first → Opposes clause step
      → Gives state.declarations state.terms clause (before ++ w.stated) step x y

-- each step that was written states a hypothesis or follows, and gives its equation
pub record AreWritten (state : State) (w : Written) : Type 0 where
  pub long : length w.stated ≡ length w.steps
  pub named : (step : EqStep) → Contains w.steps step → Names state.hypotheses step
  pub give : (clause : Clause) (before : List Equation) → length before ≡ w.first
      → ((step : EqStep) → Contains w.steps step → Opposes clause step)
      → (index : ℕ) (step : EqStep) (e : Equation) → slice_get w.steps index ≡ Some step → slice_get w.stated index ≡ Some e
      → Gives state.declarations state.terms clause (before ++ take index w.stated) step e.left e.right

-- more was written at the end
pub record HasWrittenMore (state : State) (old new : Written) : Type 0 where
  pub first : new.first ≡ old.first
  pub more : List Equation
  pub stated : new.stated ≡ old.stated ++ more
  pub valid : AreWritten state old → AreWritten state new

-- the numbers that are there are those of steps for the merges with the same index
abbrev pub AreDone : Written → List Merge → List (Option ℕ) → Type 0
AreDone w merges done = (k n : ℕ) (m : Merge) → slice_get done k ≡ Some (Some n) → slice_get merges k ≡ Some m → Told w n m.left m.right

-- a way from a term that has come to another: by nothing, or by the equation of a step
abbrev pub HasCome : Written → TermId → TermId → Option ℕ → Type 0
HasCome w a at None = a ≡ at
HasCome w a at (Some n) = Told w n a at
