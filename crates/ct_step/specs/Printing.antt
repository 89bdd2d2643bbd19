-- What becomes of a command that prints members of the core of the last derivation.
use Rattle.std.specs.Prelude.{◌≡◌, None, Some, Result, Ok, Err}
use Rattle.ct_core.specs.declared.unsat_core.UnsatCore.{UnsatCore}
use Rattle.ct_core.specs.Core.{IsCore}
use Rattle.ct_log.specs.Acceptance.{Passes}
use Rattle.ct_command.specs.declared.error.CommandError.{CommandError}
use Rattle.ct_command.specs.declared.error.CommandError.TheVariants.{Refused, NoMemory}
use Rattle.ct_stack.specs.Assuming.{assumptions_seen}
use Rattle.ct_step.specs.declared.answer.Answer.{Answer}
use Rattle.ct_step.specs.declared.cores.Members.{Members}
use Rattle.ct_step.specs.declared.state.SessionState.{SessionState}
use Rattle.ct_step.specs.Numbers.{no_derivation}
use Rattle.ct_step.specs.Evidence.{followed_by}
use Rattle.ct_step.specs.State.{Refuted, context_of, declared, derived_kept, refuted_kept, asked}
use Rattle.ct_step.specs.Cores.{HasCore}
use Rattle.ct_step.specs.Step.{CommandEffect, PrintsCore}
use Rattle.ct_step.specs.Done.{state_of, evidence_of, assumed_in, IsAnswer, IsSame}

-- the core is that of the derivation that the last check left, which passes with its own assertions
pub record IsKeptCore (s : SessionState) (core : UnsatCore) : Type 0 where
  pub refuted : Refuted
  pub kept : refuted_kept (state_of s).kept ≡ Some refuted
  pub assumed : refuted.assumed ≡ assumptions_seen (assumed_in s.kept)
  pub is_core : IsCore refuted.derived core.places.items core.derivation
  pub passes : Passes (declared (state_of s)) core.derivation.rec.terms core.derivation.asserts core.derivation.rec.lines
  pub has_core : HasCore (context_of (state_of s)) (asked (state_of s) refuted.assumed) refuted.derived core.places.items

-- the members of the core are printed
pub record Prints (old : SessionState) (members : Members) (new : SessionState) (a : Answer) : Type 0 where
  pub refuted : Refuted
  pub kept : refuted_kept (state_of old).kept ≡ Some refuted
  pub effect : CommandEffect
  pub printed : PrintsCore (state_of old) members refuted effect
  pub state : state_of new ≡ effect.state
  pub given : evidence_of new ≡ followed_by (evidence_of old) effect.evidence
  pub answer : IsAnswer effect a

-- they are printed, or there is no derivation, or memory runs out
abbrev pub IsPrinted : SessionState → Members → SessionState → Result Answer CommandError → Type 0
IsPrinted old members new (Ok a) = Prints old members new a
IsPrinted old members new (Err (Refused n)) = (n ≡ no_derivation) × (derived_kept (state_of old).kept ≡ None) × IsSame old new
IsPrinted old members new (Err NoMemory) = IsSame old new
