use Rattle.ct_values.specs.Graph.{node_children}
use Rattle.ct_values.specs.WellFormed.{IsData, AreBefore}
use Rattle.ct_eval.proofs.ListLemmas.{EachBelow}
use Rattle.ct_eval.proofs.proper.are_finite.Given as goal

-- the nodes so far have smaller nodes under them
abbrev pub invariant-loop-n : goal.invariant-loop-n
invariant-loop-n l = EachBelow (λ k node. IsData l.sig l.graph (record { 0 = k }) → AreBefore l.sig l.graph k (node_children node)) l.graph l.n
