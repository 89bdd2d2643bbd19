use Rattle.std.proofs.Common.{◌≡◌, ◌+◌, ◌<◌, ◌≤◌, take}
use Rattle.ct_finite.specs.Counts.{most_values, capped, count_at}
use Rattle.ct_finite.specs.Counting.{total, AreReady}
use Rattle.ct_finite.proofs.count.count_of_sort.Given as goal

abbrev pub invariant-loop-c : goal.invariant-loop-c
invariant-loop-c l =
    record {
      bound : l.sum ≤ most_values + 1;
      ready : AreReady l.sig l.counts (take l.c-index l.c-items);
      value : l.sum ≡ capped (total (count_at l.counts) l.sig (take l.c-index l.c-items));
      some : 0 < l.c-index → 0 < l.sum;
    }
