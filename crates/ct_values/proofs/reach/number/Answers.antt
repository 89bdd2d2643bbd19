use Rattle.std.proofs.Common.{length}
use Rattle.ct_values.proofs.CountLemmas.{CountsUp-insert}
use Rattle.ct_values.proofs.reach.number.Goals as goal

pub returns-clause-counts : goal.returns-clause-counts
returns-clause-counts c =
    let done = c.in_ok-index.ensures in
    CountsUp-insert c.args.ids.now.keys c.args.n.0 c.in_ok-index.index (length c.insert_full.new.self.keys) c.in_ok-index.field-0-1 done.added done.index done.within done.len
