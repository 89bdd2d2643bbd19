use Rattle.std.proofs.Common.{◌≡◌, map, take}
use Rattle.ct_restriction.specs.Renamed.{number_in}
use Rattle.ct_kept.specs.Lemmas.{renamed_step}
use Rattle.ct_kept.proofs.renaming.renamed_steps.Given as goal

abbrev pub invariant-loop-step : goal.invariant-loop-step
invariant-loop-step l = l.made.items ≡ map (renamed_step (number_in l.numbers.numbers)) (take l.step-index l.steps)
