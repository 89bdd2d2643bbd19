use Rattle.std.proofs.Common.{◌≡◌, length}
use Rattle.ct_sexpr.specs.View.{expressions_of}
use Rattle.ct_readback.specs.GraphText.{are_references}
use Rattle.ct_readback.proofs.graph_text.are_references.Given as goal

abbrev pub invariant-loop-rest : goal.invariant-loop-rest
invariant-loop-rest l = are_references l.nodes (expressions_of l.rest) ≡ are_references l.nodes (expressions_of l.exprs)

abbrev pub decreases-loop-rest : goal.decreases-loop-rest
decreases-loop-rest l = length l.rest
