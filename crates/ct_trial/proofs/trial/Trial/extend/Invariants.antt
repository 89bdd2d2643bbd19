use Rattle.std.proofs.Common.{◌≡◌, length}
use Rattle.ct_trial.specs.Trial.{IsTrial}
use Rattle.ct_trial.proofs.trial.Trial.extend.Given as goal

abbrev pub invariant-loop-t : goal.invariant-loop-t
invariant-loop-t l = IsTrial l.sig l.table l.interp l.self × (length l.self.nodes.items ≡ l.t)
