use Rattle.std.proofs.Common.{◌≡◌, length}
use Rattle.ct_generics.specs.SortTable.{IsCounted}
use Rattle.ct_generics.proofs.text.count_more.Given as goal

abbrev pub invariant-loop-k : goal.invariant-loop-k
invariant-loop-k l =
    record {
      long : length l.counts ≡ l.k;
      counted : IsCounted l.heads l.table l.counts;
    }
