use Rattle.ct_partition.proofs.BlockLemmas.{AreSplit-none, AreSplit-more, group_within, changed_within}
use Rattle.ct_partition.proofs.splitting.split.Goals as goal

pub loop-group-init : goal.loop-group-init
loop-group-init c =
    let old = c.args.blocks.now in
    AreSplit-none old.numbers.items old.rows.items c.args.groups.items c.sort_by_key.new.self.items old.sizes.items c.new-changed.result.items c.requires.blocks c.in_ok-sort_by_key.ensures.permutation c.new-changed.ensures.items c.requires.within

pub split_off-requires : goal.split_off-requires
split_off-requires c =
    let old = c.args.blocks.now in
    let now = c.loop-group.blocks in
    let groups = c.loop-group.groups.items in
    let changed = c.loop-group.changed.items in
    let done = c.loop-group.invariant in
    record {
      blocks = done.blocks;
      within = group_within old.numbers.items old.rows.items c.args.groups.items now.numbers.items now.rows.items now.sizes.items groups c.pop.new.self.items c.in-Some.group changed c.in-Some.ensures.items done;
      changed = changed_within old.numbers.items old.rows.items c.args.groups.items now.numbers.items now.rows.items now.sizes.items groups changed done;
    }

pub loop-group-preserved : goal.loop-group-preserved
loop-group-preserved c =
    let old = c.args.blocks.now in
    let now = c.loop-group.blocks in
    let next = c.split_off.new.blocks in
    let more = c.in_ok-split_off.ensures in
    AreSplit-more old.numbers.items old.rows.items c.args.groups.items now.numbers.items now.rows.items now.sizes.items c.loop-group.groups.items c.pop.new.self.items c.in-Some.group c.loop-group.changed.items next.numbers.items next.rows.items next.sizes.items c.split_off.new.changed.items c.in-Some.ensures.items c.loop-group.invariant more.blocks more.long more.within more.alike

pub returns : goal.returns
returns c =
    let done = c.loop-group.invariant in
    record {
      blocks = done.blocks;
      long = done.long;
      within = done.changed_in;
      alike = λ p keep saturated. let all = done.alike p keep saturated in (all.0, all.1);
    }
