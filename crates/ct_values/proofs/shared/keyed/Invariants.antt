use Rattle.ct_values.specs.Sharing.{IsKeyed}
use Rattle.ct_values.proofs.shared.keyed.Given as goal

abbrev pub invariant-loop-index : goal.invariant-loop-index
invariant-loop-index l = IsKeyed l.graph l.classes l.representatives l.index
