use Rattle.std.proofs.Common.{take}
use Rattle.ct_values.specs.WellFormed.{AreBefore}
use Rattle.ct_eval.proofs.proper.are_before.Given as goal

-- the nodes so far are before the bound
abbrev pub invariant-loop-n : goal.invariant-loop-n
invariant-loop-n l = AreBefore l.sig l.graph l.bound (take l.n-index l.nodes)
