use Rattle.std.proofs.Common.{◌≡◌, ◌+◌, ◌≤◌, take}
use Rattle.ct_finite.specs.Counts.{most_values, capped, count_at}
use Rattle.ct_finite.specs.Counting.{ways}
use Rattle.ct_finite.proofs.choosing.choices_for.Given as goal

abbrev pub invariant-loop-s : goal.invariant-loop-s
invariant-loop-s l = record { bound : l.product ≤ most_values + 1; value : l.product ≡ capped (ways (count_at l.counts) (take l.s-index l.sorts)) }
