use Rattle.std.proofs.Common.{take}
use Rattle.ct_eval.specs.Index.{AreRepresentativeNodes}
use Rattle.ct_eval.proofs.index.representatives.Given as goal

abbrev pub invariant-loop-n : goal.invariant-loop-n
invariant-loop-n l = AreRepresentativeNodes l.shared l.list.items (take l.n-index l.nodes)
