use Rattle.std.proofs.Common.{sym, subst}
use Rattle.ct_values.specs.declared.node.NodeId.{NodeId}
use Rattle.ct_model.specs.Within.{IsNode}
use Rattle.ct_model.proofs.BodyLemmas.{constant-within}
use Rattle.ct_model.proofs.body.write_body.Goals as goal

pub write_value-requires-clause-within : goal.write_value-requires-clause-within
write_value-requires-clause-within c =
    subst (λ (n : NodeId). IsNode c.args.graph.now n) (sym c.constant.ensures.value) (constant-within c.args.graph.now c.args.table.now.rows c.args.table.now.default c.requires.within.rows_within c.requires.within.default_within)
