-- What a run does, by what its arguments ask for.
use Rattle.std.specs.Prelude.{◌≡◌, ◌⊎◌, ℕ, Bool, List, Option, Some}
use Rattle.ct_io.specs.declared.status.Status.{Status}
use Rattle.ct_step.specs.Evidence.{Evidence}
use Rattle.ct_arguments.specs.Arguments.{Asked, solves, audits, audits_model, generates, helps, versions, faulty}
use Rattle.ct_run.specs.Run.{Solves, Took, ReportsUsage, ReportsHelp, ReportsVersion, behavior_of}
use Rattle.ct_run.specs.AuditRun.{ReportsAudit, ReportsModelAudit, Reads}
use Rattle.ct_run.specs.Generated.{ReportsCounts}

-- a run that was asked for this does so, where the desk tells what it holds under the names; what is left in the script's slot before and
-- after it
abbrev pub Does : (List ℕ → Option (List ℕ)) → Asked → Option (List ℕ) → Option (List ℕ) → Status → Evidence → List (ℕ × ℕ) → Option (List ℕ) → Option (List ℕ) → Type 0
Does held (solves strict name) before after status kept errors old new =
    (bytes : List ℕ) → held name ≡ Some bytes → (taken : ℕ) × Took status bytes taken before after × Solves (behavior_of strict) bytes taken status kept errors old new
Does held (audits proof script) before after status kept errors old new =
    (proof_bytes script_bytes : List ℕ) → held proof ≡ Some proof_bytes → held script ≡ Some script_bytes → ReportsAudit proof_bytes script_bytes status kept errors old new
Does held (audits_model model number script) before after status kept errors old new =
    (model_bytes script_bytes : List ℕ) → held model ≡ Some model_bytes → held script ≡ Some script_bytes → ReportsModelAudit number model_bytes script_bytes status kept errors old new
Does held (generates count) before after status kept errors old new = ReportsCounts count status kept errors old new
Does held helps before after status kept errors old new = ReportsHelp status kept errors old new
Does held versions before after status kept errors old new = ReportsVersion status kept errors old new
Does held faulty before after status kept errors old new = ReportsUsage status kept errors old new

-- where the desk tells nothing there are still bytes of which it does so
abbrev pub DoesOfSome : Asked → Status → Evidence → List (ℕ × ℕ) → Option (List ℕ) → Option (List ℕ) → Type 0
DoesOfSome (solves strict name) status kept errors old new = (bytes : List ℕ) × (taken : ℕ) × Solves (behavior_of strict) bytes taken status kept errors old new
DoesOfSome (audits proof script) status kept errors old new = (proof_bytes : List ℕ) × (script_bytes : List ℕ) × ReportsAudit proof_bytes script_bytes status kept errors old new
DoesOfSome (audits_model model number script) status kept errors old new =
    (model_bytes : List ℕ) × (script_bytes : List ℕ) × ReportsModelAudit number model_bytes script_bytes status kept errors old new
DoesOfSome (generates count) status kept errors old new = Unit {0}
DoesOfSome helps status kept errors old new = Unit {0}
DoesOfSome versions status kept errors old new = Unit {0}
DoesOfSome faulty status kept errors old new = Unit {0}

-- where an audit is asked for, its two files were read; what is left in the slots of the derivation or the model and of the script after it
abbrev pub ReadsFiles : (List ℕ → Option (List ℕ)) → Asked → Status → Option (List ℕ) → Option (List ℕ) → Type 0
ReadsFiles held (audits proof script) status left_proof left_script = Reads status (held proof) left_proof (held script) left_script
ReadsFiles held (audits_model model number script) status left_model left_script = Reads status (held model) left_model (held script) left_script
ReadsFiles held asked status left_proof left_script = Unit {0}

-- an audit is asked for
abbrev pub IsAudit : Asked → Type 0
IsAudit asked =
    ((proof : List ℕ) × (script : List ℕ) × (asked ≡ audits proof script))
    ⊎ ((model : List ℕ) × (number : ℕ) × (script : List ℕ) × (asked ≡ audits_model model number script))

-- a script is to be answered that a file holds
abbrev pub IsOfScript : Asked → Type 0
IsOfScript asked = (strict : Bool) × (name : List ℕ) × (asked ≡ solves strict name)
