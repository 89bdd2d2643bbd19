use Rattle.ct_values.specs.Fitting.{FitsGraph}
use Rattle.ct_trial.specs.Growth.{IsAppended}
use Rattle.ct_trial.proofs.supply.add_elements.Given as goal

abbrev pub invariant-loop-k : goal.invariant-loop-k
invariant-loop-k l = IsAppended l.initial.graph l.graph × FitsGraph l.sig l.graph
