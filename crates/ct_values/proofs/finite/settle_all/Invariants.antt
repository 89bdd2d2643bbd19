use Rattle.std.proofs.Common.{take}
use Rattle.ct_values.specs.Settled.{IsSettling}
use Rattle.ct_values.proofs.FiniteLemmas.{HasPassed}
use Rattle.ct_values.proofs.finite.settle_all.Given as goal

abbrev pub invariant-loop-n : goal.invariant-loop-n
invariant-loop-n l =
    IsSettling l.graph l.classes.items l.steps × HasPassed l.graph l.initial.classes.items l.classes.items (take l.n-index l.order) l.more
