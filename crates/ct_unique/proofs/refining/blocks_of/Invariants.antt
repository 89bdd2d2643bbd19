use Rattle.ct_unique.specs.Nodes.{AreBlocks}
use Rattle.ct_unique.proofs.refining.blocks_of.Given as goal

abbrev pub invariant-loop-t : goal.invariant-loop-t
invariant-loop-t l = AreBlocks l.classes l.points l.t l.blocks.items
