use Rattle.std.proofs.Common.{Some, ap, ◌∙◌, arith}
use Rattle.ct_readback.proofs.PoolLemmas.{built_there}
use Rattle.ct_readback.proofs.pool.is_built.Goals as goal

pub returns-else-own-c : goal.returns-else-own-c
returns-else-own-c c = record {
  there = built_there c.args.graph.now c.args.n.0 c.in-Con.own c.args.c c.children.result.now c.args.children.now c.are_same.result (c.head.ensures.value ∙ ap Some c.in-Con.is) c.children.ensures.value
      (omega (arith, c.if-own-c.false)) c.are_same.ensures.same;
}
