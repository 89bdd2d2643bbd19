use Rattle.std.proofs.Common.{arith, codes}
use Rattle.ct_value_text.proofs.TextLemmas.{rows-more, written-graph}
use Rattle.ct_value_text.proofs.graph_text.graph_text.Goals as goal

pub loop-n-preserved : goal.loop-n-preserved
loop-n-preserved c =
    rows-more c.args.sig.now c.args.g.now c.loop-n.n (codes "(@graph (") c.loop-n.out.items c.write_row.new.out.items (omega (arith, c.len-n-end.ensures.count)) c.loop-n.invariant c.in_ok-write_row.ensures.ok

pub returns : goal.returns
returns c =
    record { text = written-graph c.args.sig.now c.args.g.now c.loop-n.n c.loop-n.out.items c.extend_from_slice-2.new.self.items (omega (arith, c.len-n-end.ensures.count)) c.loop-n.invariant c.in_ok-extend_from_slice-2.ensures.items }
