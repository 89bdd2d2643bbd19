use Rattle.std.proofs.Common.{◌∙◌}
use Rattle.ct_terms.proofs.TableLemmas.{insert_entry-next}
use Rattle.ct_terms.proofs.table.TermTable.copy.Goals as goal

pub loop-index-preserved : goal.loop-index-preserved
loop-index-preserved c =
    let single = rw c.self.view_is at c.self.invariant.0.single in
    c.in_ok-insert.ensures.entries
    ∙ insert_entry-next c.args.self.now c.loop-index.copied.entries c.core.result.now c.in_ok-copy.field-0 (record { 0 = c.loop-index.index }) c.sort.result single c.core.ensures.value c.in_ok-copy.ensures.ok c.sort.ensures.value c.loop-index.invariant
