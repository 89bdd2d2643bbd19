use Rattle.std.proofs.Common.{◌≡◌, ◌+◌, ◌≤◌, map, take}
use Rattle.ct_listing.specs.Listable.{field_sort}
use Rattle.ct_finite.specs.Counts.{most_values, capped, count_at}
use Rattle.ct_finite.specs.Counting.{ways}
use Rattle.ct_finite.proofs.count.count_of_ctor.Given as goal

abbrev pub invariant-loop-sel : goal.invariant-loop-sel
invariant-loop-sel l = record { bound : l.product ≤ most_values + 1; value : l.product ≡ capped (ways (count_at l.counts) (map (field_sort l.sig) (take l.sel-index l.sel-items))) }
