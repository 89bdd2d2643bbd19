use Rattle.ct_generics.proofs.TableLemmas.{StandFor-take}
use Rattle.ct_generics.proofs.sort_table.SortTable.cut_to.Goals as goal

pub returns-clause-first : goal.returns-clause-first
returns-clause-first c es are below =
    rw (c.truncate.ensures.first, c.truncate-2.ensures.first)
    (StandFor-take c.args.self.now.expressions c.args.expressions c.args.sorts c.args.self.now.sorts es c.len-ordered.ensures.ordered are below)
