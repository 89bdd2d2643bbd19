-- What a script has declared and asserted at one of its checks: it is gone through without solving.
use Rattle.std.specs.Prelude.{◌≡◌, ℕ, ◌==◌, Bool, ◌&&◌, List, [], ◌∷◌, Option, None, Some, if◌then◌else◌}
use Rattle.std.specs.Bool.{MatchBool}
use Rattle.ct_sexpr.specs.Text.{Located}
use Rattle.ct_command.specs.Reading.{command}
use Rattle.ct_script.specs.declared.replay.Replayed.{Replayed}
use Rattle.ct_script.specs.declared.replay.Standing.{Standing}
use Rattle.ct_script.specs.declared.replay.Standing.TheVariants.{Nothing}
use Rattle.ct_step.specs.State.{State}
use Rattle.ct_script.specs.Replay.{Replays}
use Rattle.ct_script.specs.Session.{Course}

-- the command is the check with this number
abbrev pub is_wanted : Replayed → ℕ → ℕ → Bool
is_wanted r number wanted = r.check && (number == wanted)

-- the state of the script at its check with this number, where these commands are left and a verdict of such a check stands; nothing
-- where the script ends before it
abbrev pub FindsFrom : Course → Standing → List Located → ℕ → Option State → Type 0
FindsFrom old standing [] wanted found = found ≡ None
FindsFrom old standing (c ∷ cs) wanted found =
    (new : Course) × (r : Replayed) × Replays old standing c.line (command c.command) new r
    × MatchBool (is_wanted r new.number wanted) (found ≡ Some new.state) (MatchBool r.stop (found ≡ None) (FindsFrom new r.standing cs wanted found))

-- the same before anything was checked
abbrev pub Finds : Course → List Located → ℕ → Option State → Type 0
Finds old cs wanted found = FindsFrom old Nothing cs wanted found

-- the state, where it was found
abbrev pub state_where : Bool → State → Option State
state_where found state = if found then Some state else None
