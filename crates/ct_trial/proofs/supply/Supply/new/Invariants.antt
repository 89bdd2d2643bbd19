use Rattle.ct_values.specs.Fitting.{FitsGraph}
use Rattle.ct_trial.specs.Growth.{IsAppended}
use Rattle.ct_trial.proofs.supply.Supply.new.Given as goal

abbrev pub invariant-loop-s : goal.invariant-loop-s
invariant-loop-s l = IsAppended l.initial.graph l.graph × FitsGraph l.sig l.graph
