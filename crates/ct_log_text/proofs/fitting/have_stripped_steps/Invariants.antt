use Rattle.std.proofs.Common.{◌≡◌, length}
use Rattle.std.specs.List.{list_all}
use Rattle.ct_log_text.specs.Fitting.{has_stripped_step}
use Rattle.ct_log_text.proofs.fitting.have_stripped_steps.Given as goal

abbrev pub invariant-loop-rest : goal.invariant-loop-rest
invariant-loop-rest l = list_all (has_stripped_step l.table) l.rest ≡ list_all (has_stripped_step l.table) l.steps

abbrev pub decreases-loop-rest : goal.decreases-loop-rest
decreases-loop-rest l = length l.rest
