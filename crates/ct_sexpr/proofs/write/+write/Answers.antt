use Rattle.std.proofs.Common.{◌-◌, length, drop, take}
use Rattle.ct_sexpr.proofs.Writing.{written_items-more}
use Rattle.ct_sexpr.proofs.write.+write.Goals as goal

pub write_items-loop-item-preserved : goal.write_items-loop-item-preserved
write_items-loop-item-preserved t c =
    let loop = c.loop-item in
    let items = c.args.items.now in
    let others = take (length items - 1) (drop 1 items) in
    written_items-more others loop.item-index c.item-item.result c.write.new.out.items loop.out.items c.push.new.self.items c.write-in-loop-item.new.out.items
    c.loop-item-test.true c.item-item.is loop.invariant c.in_ok-push-in-len1-up.ensures.items c.in_ok-write-in-len1-up-2.ensures.ok
