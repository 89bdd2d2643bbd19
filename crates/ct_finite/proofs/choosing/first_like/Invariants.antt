use Rattle.std.proofs.Common.{◌≡◌, ◌+◌, ◌<◌, ◌≤◌, drop}
use Rattle.ct_finite.specs.Counts.{count_at}
use Rattle.ct_finite.specs.Counting.{ways}
use Rattle.ct_finite.specs.Choosing.{first_like}
use Rattle.ct_finite.proofs.choosing.first_like.Given as goal

abbrev pub invariant-loop-i : goal.invariant-loop-i
invariant-loop-i l =
    record {
      rest : l.rest ≡ ways (count_at l.counts) (drop l.i l.sorts);
      some : 0 < l.rest;
      bound : l.first + l.left ≤ l.fn.k;
      value : l.first + first_like (count_at l.counts) (drop l.i l.sorts) (drop l.i l.flags) l.left ≡ first_like (count_at l.counts) l.sorts l.flags l.fn.k;
    }
