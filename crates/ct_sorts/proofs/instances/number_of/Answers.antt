use Rattle.std.proofs.Common.{◌≡◌, ℕ, Some, slice_get}
use Rattle.ct_generics.specs.Denoted.{sorts_of}
use Rattle.ct_sorts.proofs.ListedLemmas.{listed}
use Rattle.ct_sorts.proofs.instances.number_of.Goals as goal

pub returns-in-None : goal.returns-in-None
returns-in-None c =
    let t = c.args.tables.now in
    let there = c.requires.there in
    absurd (c.in-None.ensures.none there.1 (listed t.table.expressions c.len.ensures.single t.table.sorts (sorts_of t.table) there.1 c.args.id there.0 c.requires.stand there.3 there.2))
