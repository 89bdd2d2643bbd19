use Rattle.std.proofs.Common.{length, ap, arith}
use Rattle.ct_closure.proofs.WayLemmas.{under_way_none}
use Rattle.ct_closure.proofs.steps.close_table.Goals as goal

pub go_on-requires : goal.go_on-requires
go_on-requires c = record {
  sizes = c.requires.sizes;
  sound = c.requires.sound;
  few = c.requires.few;
  within = omega (arith, ap length c.new-marks.ensures.items);
  under_way = under_way_none c.args.sig.now c.args.table.now c.new-marks.result.items c.new-marks.ensures.items;
}
