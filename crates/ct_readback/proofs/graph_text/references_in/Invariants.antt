use Rattle.std.proofs.Common.{◌≡◌, length}
use Rattle.ct_sexpr.specs.View.{expressions_of}
use Rattle.ct_readback.specs.GraphText.{references_in}
use Rattle.ct_readback.proofs.ReferenceLemmas.{references_from}
use Rattle.ct_readback.proofs.graph_text.references_in.Given as goal

abbrev pub invariant-loop-rest : goal.invariant-loop-rest
invariant-loop-rest l = references_from l.nodes.items (expressions_of l.rest) ≡ references_in (expressions_of l.exprs)

abbrev pub decreases-loop-rest : goal.decreases-loop-rest
decreases-loop-rest l = length l.rest
