use Rattle.std.proofs.Common.{List, length, sym, subst}
use Rattle.ct_values.specs.declared.node.NodeId.{NodeId}
use Rattle.ct_trial.specs.Trial.{IsOver}
use Rattle.ct_trial.proofs.trial.Trial.value.Goals as goal

pub node-requires-clause-below : goal.node-requires-clause-below
node-requires-clause-below c =
    subst (λ (ns : List NodeId). IsOver c.args.table.now (length ns) c.args.t) (sym c.in_ok-put_row.ensures.nodes) c.requires.below
