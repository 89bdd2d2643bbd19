use Rattle.std.proofs.Common.{List, reverse, sym, subst}
use Rattle.ct_base.specs.declared.stage.Stage.{Stage}
use Rattle.ct_base.specs.Base.{AreStages}
use Rattle.ct_base.proofs.base.Base.new.Goals as goal

pub returns-clause-base : goal.returns-clause-base
returns-clause-base c =
    let d = c.args.sig.now in
    record {
      sized = record { earlier = d; consistent = c.sorts-sorts.ensures.consistent; extends = c.growth.ensures.itself d; are = c.in_ok-sizes.ensures.sizes };
      sorted = c.in_ok-table.ensures.sorted d (c.growth.ensures.from_start d c.sorts-sorts.ensures.consistent);
      stages = subst (λ (l : List Stage). AreStages d c.in_ok-table.table c.new.result.items c.new-2.result.items (reverse l)) (sym c.new-3.ensures.items) tt;
    }
