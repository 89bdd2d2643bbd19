use Rattle.ct_values.specs.Settled.{IsSettling, unsettled}
use Rattle.ct_values.proofs.finite.finite_classes.Given as goal

abbrev pub invariant-passes : goal.invariant-passes
invariant-passes l = IsSettling l.graph l.classes.items l.steps

abbrev pub decreases-passes : goal.decreases-passes
decreases-passes l = unsettled l.classes.items
