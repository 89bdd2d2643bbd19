use Rattle.std.proofs.Common.{◌∙◌, take}
use Rattle.ct_congr.specs.Merges.{AreConnected}
use Rattle.ct_explain.specs.Resting.{HasNumber}
use Rattle.ct_explain.proofs.RestLemmas.{pair_arguments, read_long, read_entries, read_paved}
use Rattle.ct_explain.proofs.uniqueness.write_pair.Goals as goal

pub write_entries-requires-clause-long : goal.write_entries-requires-clause-long
write_entries-requires-clause-long c =
    read_long c.args.classes.now.terms c.table-table.result.now c.args.e.left c.args.e.right c.core.result.now c.core-2.result.now c.deref.result.now c.deref-2.result.now
    (record {
      same = c.table-table.ensures.value;
      left_stands = c.core.ensures.value;
      right_stands = c.core-2.ensures.value;
      left_below = c.core.ensures.inside;
      right_below = c.core-2.ensures.inside;
      xs_are = c.deref.ensures.value ∙ c.in_ok-xs.ensures.value;
      ys_are = c.deref-2.ensures.value ∙ c.in_ok-ys.ensures.value;
    })
    (AreConnected (take c.args.bound c.args.classes.now.merges)) c.args.equations.now (pair_arguments c.args.classes.now.terms (AreConnected (take c.args.bound c.args.classes.now.merges)) c.args.equations.now c.args.e.left c.args.e.right c.requires.matched)

pub write_entries-requires-clause-entries : goal.write_entries-requires-clause-entries
write_entries-requires-clause-entries c =
    read_entries c.args.classes.now.terms c.table-table.result.now c.args.e.left c.args.e.right c.core.result.now c.core-2.result.now c.deref.result.now c.deref-2.result.now
    (record {
      same = c.table-table.ensures.value;
      left_stands = c.core.ensures.value;
      right_stands = c.core-2.ensures.value;
      left_below = c.core.ensures.inside;
      right_below = c.core-2.ensures.inside;
      xs_are = c.deref.ensures.value ∙ c.in_ok-xs.ensures.value;
      ys_are = c.deref-2.ensures.value ∙ c.in_ok-ys.ensures.value;
    })
    (AreConnected (take c.args.bound c.args.classes.now.merges)) c.args.equations.now (pair_arguments c.args.classes.now.terms (AreConnected (take c.args.bound c.args.classes.now.merges)) c.args.equations.now c.args.e.left c.args.e.right c.requires.matched)

pub write_entries-requires-clause-paved : goal.write_entries-requires-clause-paved
write_entries-requires-clause-paved c =
    read_paved c.args.classes.now.terms c.table-table.result.now c.args.e.left c.args.e.right c.core.result.now c.core-2.result.now c.deref.result.now c.deref-2.result.now
    (record {
      same = c.table-table.ensures.value;
      left_stands = c.core.ensures.value;
      right_stands = c.core-2.ensures.value;
      left_below = c.core.ensures.inside;
      right_below = c.core-2.ensures.inside;
      xs_are = c.deref.ensures.value ∙ c.in_ok-xs.ensures.value;
      ys_are = c.deref-2.ensures.value ∙ c.in_ok-ys.ensures.value;
    })
    (AreConnected (take c.args.bound c.args.classes.now.merges)) c.args.equations.now c.args.forest.now.links (HasNumber c.args.done.now) c.requires.paved
