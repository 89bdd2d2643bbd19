-- Commands that are gone through without a verdict: a check with assumptions is refused, or declares the sorts that its terms need, and
-- everything else does its step.
use Rattle.std.specs.Prelude.{◌≡◌, ◌⊎◌, ℕ, List, [], Option, None, Some, Ok}
use Rattle.ct_sexpr.specs.Expression.{Expression}
use Rattle.ct_command.specs.Command.{check_sat_assuming}
use Rattle.ct_command.specs.Reading.{Read}
use Rattle.ct_stack.specs.Assuming.{assumptions}
use Rattle.ct_stack.specs.Outcomes.{GivesNeeding}
use Rattle.ct_stack.specs.Stack.{declaring}
use Rattle.ct_step.specs.declared.state.SessionState.{SessionState}
use Rattle.ct_step.specs.State.{State, declared, changed}
use Rattle.ct_step.specs.Refusal.{IsRefusal}
use Rattle.ct_step.specs.Step.{CommandEffect, IsRefused, Steps, said}
use Rattle.ct_step.specs.Done.{state_of, evidence_of}

-- what a check with assumptions assumes, where what was read is one
abbrev pub assumed_terms : Read → Option (List Expression)
assumed_terms (Ok (check_sat_assuming ts)) = Some ts
assumed_terms read = None

-- such a check is not refused
abbrev pub CanAssume : State → List Expression → Type 0
CanAssume s ts = (n : ℕ) → IsRefusal s (check_sat_assuming ts) n → ⊥

-- the last state has the sorts that the terms need; what was answered does not stand any more
abbrev pub HasSortsOf : State → List Expression → State → Type 0
HasSortsOf s ts last = GivesNeeding (λ d. assumptions d ts) (declared s) (λ later assumed. last ≡ changed s (declaring s.stack later))

-- what such a check does but for its verdict
abbrev pub RehearsesAssuming : State → ℕ → List Expression → CommandEffect → Type 0
RehearsesAssuming s line ts e =
    IsRefused s line (check_sat_assuming ts) e ⊎ (CanAssume s ts × ((last : State) × HasSortsOf s ts last × (e ≡ said last [])))

-- what is gone through, by what a check assumes, where it is one with assumptions
abbrev pub RehearsesAs : Option (List Expression) → State → ℕ → ℕ → Read → CommandEffect → Type 0
RehearsesAs (Some ts) s number line read e = RehearsesAssuming s line ts e
RehearsesAs None s number line read e = Steps s number line read e

-- what was read is gone through so
abbrev pub Rehearses : State → ℕ → ℕ → Read → CommandEffect → Type 0
Rehearses s number line read e = RehearsesAs (assumed_terms read) s number line read e

-- a check with assumptions was gone through
pub record IsRehearsed (old : SessionState) (ts : List Expression) (new : SessionState) : Type 0 where
  pub accepted : CanAssume (state_of old) ts
  pub sorts : HasSortsOf (state_of old) ts (state_of new)
  pub unanswered : evidence_of new ≡ evidence_of old
