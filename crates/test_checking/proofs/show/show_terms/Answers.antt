use Rattle.test_checking.proofs.HeadLemmas.{head_declared}
use Rattle.test_checking.proofs.show.show_terms.Goals as goal

pub show_head-requires : goal.show_head-requires
show_head-requires c = record {
  declared = head_declared c.args.sig.now c.args.table.now c.core.result.now c.loop-t.t c.requires.sorted c.core.ensures.value;
}
