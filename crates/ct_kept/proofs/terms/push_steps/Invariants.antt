use Rattle.std.proofs.Common.{◌≡◌, ◌++◌, take}
use Rattle.std.specs.List.{flat_map}
use Rattle.ct_kept.specs.Lemmas.{step_terms}
use Rattle.ct_kept.proofs.terms.push_steps.Given as goal

abbrev pub invariant-loop-step : goal.invariant-loop-step
invariant-loop-step l = l.terms.items ≡ l.initial.terms.items ++ flat_map step_terms (take l.step-index l.steps)
