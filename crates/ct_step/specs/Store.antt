-- What becomes of the store of clauses that the theory gave in earlier checks: a check uses it and adds to it, and where declarations
-- go, so does what names them.
use Rattle.std.specs.Prelude.{◌≡◌, ◌≢◌, ◌⊎◌, ℕ, ◌<◌, false, [], length, Option, None, Some, Result, Ok, Err}
use Rattle.ct_sorts.specs.Declarations.{Declarations}
use Rattle.ct_sorts.specs.Lengths.{Lengths}
use Rattle.ct_sorts.specs.Marks.{lengths}
use Rattle.ct_terms.specs.declared.ids.TermId.{TermId}
use Rattle.ct_terms.specs.Terms.{AreSorted, truth_terms}
use Rattle.ct_terms.specs.CoreTree.{term_at}
use Rattle.ct_kept.specs.Kept.{Stored}
use Rattle.ct_kept.specs.Names.{NamesBelow, AreNamed}
use Rattle.ct_command.specs.declared.error.CommandError.{CommandError}
use Rattle.ct_command.specs.Command.{Command, check_sat, check_sat_assuming, pop, reset_assertions, reset}
use Rattle.ct_command.specs.Reading.{Read}
use Rattle.ct_engine.specs.declared.verdict.Verdict.{Verdict}
use Rattle.ct_engine.specs.Keeping.{HasKept}
use Rattle.ct_stack.specs.Assuming.{assumptions}
use Rattle.ct_stack.specs.Levels.{left_by, left_emptied}
use Rattle.ct_stack.specs.Outcomes.{GivesNeeding}
use Rattle.ct_step.specs.declared.answer.Answer.{Answer}
use Rattle.ct_step.specs.declared.state.SessionState.{SessionState}
use Rattle.ct_step.specs.State.{State, declared}
use Rattle.ct_step.specs.Step.{OfKept}
use Rattle.ct_step.specs.Done.{IsSound, state_of}

-- the store at the start
abbrev pub first_store : Stored
first_store = record { table = truth_terms; lemmas = [] }

-- the terms of the store are well sorted over what is declared
abbrev pub IsStoreOf : State → Stored → Type 0
IsStoreOf s store = AreSorted (declared s) store.table

-- what a session always holds
pub record IsSoundWith (s : State) (store : Stored) : Type 0 where
  pub sound : IsSound s
  pub sorted : IsStoreOf s store

-- the mark to which a command cuts what is declared, where it does
abbrev pub mark_after : State → Command → Option Lengths
mark_after s (pop n) = left_by s.options.global_declarations n s.stack
mark_after s reset_assertions = left_emptied s.options.global_declarations
mark_after s reset = left_emptied false
mark_after s c = None

-- the new store has the lemmas of the old one that name only what is below the mark, in order, and its terms name only such
pub record IsWithin (m : Lengths) (old new : Stored) : Type 0 where
  pub named : AreNamed m old new
  pub only : (t : TermId) → t.0 < length new.table → NamesBelow m (term_at new.table t)

-- what is left of the store where these declarations are cut to the mark, if there is one: where nothing declared goes it is the
-- old one
abbrev pub IsCut : Declarations → Option Lengths → Stored → Stored → Type 0
IsCut d None old new = new ≡ old
IsCut d (Some m) old new = ((m ≡ lengths d) × (new ≡ old)) ⊎ ((m ≢ lengths d) × IsWithin m old new)

-- what an accepted command makes of the store, after which this is the last verdict: a check takes from it, and leaves there, what that
-- says
abbrev pub Stores : State → Command → Option Verdict → Stored → Stored → Type 0
Stores s check_sat last old new = OfKept last (HasKept (declared s) old new)
Stores s (check_sat_assuming ts) last old new =
    GivesNeeding (λ d. assumptions d ts) (declared s) (λ later assumed. OfKept last (HasKept later old new))
Stores s c last old new = IsCut (declared s) (mark_after s c) old new

-- what becomes of the store by what was read, which is answered so: by a command that is refused, and by what is no command, nothing
abbrev pub StoresBy : State → Read → Option ℕ → Option Verdict → Stored → Stored → Type 0
StoresBy s (Ok c) None last old new = Stores s c last old new
StoresBy s read error last old new = new ≡ old

-- what becomes of it by a command that is done, or refused, or for which memory runs out
abbrev pub IsStored : SessionState → Command → SessionState → Result Answer CommandError → Stored → Stored → Type 0
IsStored old c new (Ok a) before after = Stores (state_of old) c new.last before after
IsStored old c new (Err e) before after = after ≡ before
