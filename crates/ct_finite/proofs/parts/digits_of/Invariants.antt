use Rattle.std.proofs.Common.{◌≡◌, ◌<◌, ◌++◌, map, drop}
use Rattle.ct_listing.specs.Listable.{field_sort, field_sorts}
use Rattle.ct_finite.specs.Counts.{count_at}
use Rattle.ct_finite.specs.Counting.{ways}
use Rattle.ct_finite.specs.Entries.{digits}
use Rattle.ct_finite.proofs.parts.digits_of.Given as goal

abbrev pub invariant-loop-sel : goal.invariant-loop-sel
invariant-loop-sel l =
    record {
      rest : l.rest ≡ ways (count_at l.counts) (map (field_sort l.sig) (drop l.sel-index l.sels));
      some : 0 < l.rest;
      value : l.numbers.items ++ digits (count_at l.counts) (map (field_sort l.sig) (drop l.sel-index l.sels)) l.left ≡ digits (count_at l.counts) (field_sorts l.sig l.fn.c) l.fn.k;
    }
