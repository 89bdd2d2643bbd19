use Rattle.std.proofs.Common.{refl}
use Rattle.ct_base.proofs.StageLemmas.{stages_put, two_there}
use Rattle.ct_base.proofs.base.put_stage.Goals as goal

pub returns : goal.returns
returns c = record {
  stages = stages_put c.args.sig.now c.args.table.now c.args.roots.now c.args.split.now _ c.args.stages.now.items c.push_stage.new.stages.items c.sorts-sorts.ensures.consistent (c.growth.ensures.itself c.args.sig.now)
      c.mark.ensures.lengths c.len.ensures.count refl refl (two_there c.args.table.now c.len.ensures.begins) c.requires.few c.requires.booleans c.requires.closure c.push_stage.ensures.pushed c.requires.stages;
}
