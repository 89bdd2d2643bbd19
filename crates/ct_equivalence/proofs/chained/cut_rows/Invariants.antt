use Rattle.std.proofs.Common.{◌≡◌, length, take}
use Rattle.ct_equivalence.specs.Chains.{AreChained}
use Rattle.ct_equivalence.proofs.chained.cut_rows.Given as goal

abbrev pub invariant-loop-rows : goal.invariant-loop-rows
invariant-loop-rows l = record { chained : AreChained l.rows.items l.tops.items; first : take l.len l.rows.items ≡ take l.len l.initial.rows.items }

abbrev pub decreases-loop-rows : goal.decreases-loop-rows
decreases-loop-rows l = length l.rows.items
