use Rattle.ct_base.proofs.StageLemmas.{stages_taken}
use Rattle.ct_base.proofs.base.Base.keep_roots.Goals as goal

pub returns : goal.returns
returns c = record {
  base = λ d is.
      let b = c.args.self.now in
      let back = c.take_back in
      record {
        sized = is.sized;
        sorted = back.ensures.sorted d is.sorted;
        stages = stages_taken d b.table back.new.table b.roots.items back.new.roots.items b.split.items back.new.split.items c.deref.result.now c.keep_within.new.stages.items c.deref.ensures.value back.ensures.table back.ensures.roots back.ensures.split
            (c.keep_within.ensures.stages d b.table b.roots.items b.split.items is.stages);
      };
}
