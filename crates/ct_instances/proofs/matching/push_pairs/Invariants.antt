use Rattle.std.proofs.Common.{◌≡◌, ◌≤◌, ◌++◌, length, drop, reverse}
use Rattle.ct_instances.specs.Pairs.{side_by_side}
use Rattle.ct_instances.proofs.matching.push_pairs.Given as goal

abbrev pub invariant-loop-left : goal.invariant-loop-left
invariant-loop-left l =
    record {
      within : l.left ≤ length l.fields;
      pushed : reverse l.stack.items ≡ side_by_side (drop l.left l.fields) (drop l.left l.sorts) ++ reverse l.fn.stack.items;
    }

abbrev pub decreases-loop-left : goal.decreases-loop-left
decreases-loop-left l = l.left
