use Rattle.std.proofs.Common.{◌≡◌, ℕ, ◌≤◌, length, Some, slice_get}
use Rattle.ct_congr.specs.declared.level.Level.{Level}
use Rattle.ct_congr.proofs.marking.first_level.Given as goal

abbrev pub invariant-loop-index : goal.invariant-loop-index
invariant-loop-index l = record {
  within : l.index ≤ length l.levels;
  least : (j : ℕ) (other : Level) → slice_get l.levels j ≡ Some other → l.index ≤ j → l.merges ≤ other.merges;
}

abbrev pub decreases-loop-index : goal.decreases-loop-index
decreases-loop-index l = l.index
