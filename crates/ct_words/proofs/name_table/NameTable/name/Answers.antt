use Rattle.ct_words.proofs.NameLemmas.{take-drop_all}
use Rattle.ct_words.proofs.StorageLemmas.{starts-name}
use Rattle.ct_words.proofs.name_table.NameTable.name.Goals as goal

pub returns : goal.returns
returns g c =
    let text = c.self.inside.text.now in
    let starts = c.self.inside.buckets.starts in
    let first = rw (take-drop_all text c.start-start.result, c.start-start.ensures.start) at c.first_name.ensures.first in
    let at = starts-name text starts g.row.N c.args.index c.first_name.result.now _ c.self.invariant.started c.requires.within first in
    record { name = rw c.self.view_is at at }
