-- How the search for a check stands after a command.
use Rattle.std.specs.Prelude.{◌≡◌, ℕ, List, Option, None, Some}
use Rattle.ct_sexpr.specs.Text.{Located}
use Rattle.ct_step.specs.State.{State}
use Rattle.ct_script.specs.Session.{Course}
use Rattle.ct_replay.specs.declared.replay.Turn.{Turn}
use Rattle.ct_replay.specs.declared.replay.Turn.TheVariants as turn
use Rattle.ct_replay.specs.Found.{FindsFrom}

-- what is found where the search stands so, and these commands are left
abbrev pub FindsAfter : Turn → Course → List Located → ℕ → Option State → Type 0
FindsAfter turn.Found course cs wanted found = found ≡ Some course.state
FindsAfter turn.Over course cs wanted found = found ≡ None
FindsAfter (turn.On standing) course cs wanted found = FindsFrom course standing cs wanted found
