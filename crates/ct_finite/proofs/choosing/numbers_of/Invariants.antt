use Rattle.std.proofs.Common.{◌≡◌, ◌<◌, ◌++◌, drop}
use Rattle.ct_finite.specs.Counts.{count_at}
use Rattle.ct_finite.specs.Counting.{ways}
use Rattle.ct_finite.specs.Entries.{digits}
use Rattle.ct_finite.proofs.choosing.numbers_of.Given as goal

abbrev pub invariant-loop-s : goal.invariant-loop-s
invariant-loop-s l =
    record {
      rest : l.rest ≡ ways (count_at l.counts) (drop l.s-index l.sorts);
      some : 0 < l.rest;
      value : l.numbers.items ++ digits (count_at l.counts) (drop l.s-index l.sorts) l.left ≡ digits (count_at l.counts) l.sorts l.fn.k;
    }
