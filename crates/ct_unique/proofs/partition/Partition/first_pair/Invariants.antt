use Rattle.std.proofs.Common.{◌<◌, ℕ}
use Rattle.ct_congr.specs.State.{AreEqual}
use Rattle.ct_unique.specs.Partition.{block_of}
use Rattle.ct_unique.specs.Nodes.{term}
use Rattle.ct_unique.proofs.partition.Partition.first_pair.Given as goal

abbrev pub invariant-loop-t : goal.invariant-loop-t
invariant-loop-t l = (k : ℕ) → k < l.t → AreEqual l.classes (term (block_of l.self (term k))) (term k)
