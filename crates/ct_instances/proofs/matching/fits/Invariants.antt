use Rattle.std.proofs.Common.{◌≡◌, length, reverse}
use Rattle.ct_instances.specs.Pairs.{HoldSorts, assigned, pair_matched, pairs_matched, ArePairs, weight}
use Rattle.ct_instances.proofs.matching.fits.Given as goal

abbrev pub invariant-loop-field : goal.invariant-loop-field
invariant-loop-field l =
    record {
      long : length l.sorts.items ≡ length l.fn.sorts.items;
      hold : HoldSorts l.sig l.sorts.items;
      pairs : ArePairs l.sig l.template (length l.fn.sorts.items) (reverse l.stack.items);
      comes : pair_matched l.sig l.template l.fn.field l.fn.sort (assigned l.sig l.fn.sorts.items) ≡ pairs_matched l.sig l.template (reverse l.stack.items) (assigned l.sig l.sorts.items);
    }

abbrev pub decreases-loop-field : goal.decreases-loop-field
decreases-loop-field l = weight l.template (reverse l.stack.items)
