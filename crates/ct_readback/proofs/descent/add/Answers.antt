use Rattle.std.proofs.Common.{inr, arith}
use Rattle.ct_readback.proofs.KnownLemmas.{adds_inserted}
use Rattle.ct_readback.proofs.descent.add.Goals as goal

pub returns-clause-adds : goal.returns-clause-adds
returns-clause-adds c = (adds_inserted c.args.pairs.now.keys c.insert.new.self.keys c.args.n.0 c.args.s c.in_ok-insert.ensures.keys).0

pub returns-clause-asked : goal.returns-clause-asked
returns-clause-asked c = (omega (arith, c.if-n-known.false), inr (adds_inserted c.args.pairs.now.keys c.insert.new.self.keys c.args.n.0 c.args.s c.in_ok-insert.ensures.keys).1)
