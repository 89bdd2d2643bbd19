use Rattle.std.proofs.Common.{◌≡◌, ◌≤◌, length}
use Rattle.ct_card.specs.Extended.{AreKept}
use Rattle.ct_card.specs.Rules.{IsOrder}
use Rattle.ct_card.proofs.sizes.keep_below.Given as goal

abbrev pub invariant-loop-i : goal.invariant-loop-i
invariant-loop-i l = record {
  few : l.kept ≤ l.i;
  long : length l.order.items ≡ length l.fn.order.items;
  kept : l.count ≤ length l.fn.ranks.items → IsOrder l.fn.ranks.items l.fn.order.items → AreKept l.count l.fn.ranks.items l.fn.order.items l.ranks.items l.order.items l.i l.kept;
}
