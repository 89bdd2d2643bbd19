use Rattle.std.proofs.Common.{◌≡◌, ◌≤◌, length}
use Rattle.ct_card.specs.Extended.{AreGrownBy}
use Rattle.ct_card.specs.Sizes.{IsSizeBy}
use Rattle.ct_card.proofs.sizes.push_sizes.Given as goal

abbrev pub invariant-loop-s : goal.invariant-loop-s
invariant-loop-s l = record {
  long : length l.sizes.items ≡ l.s;
  from : length l.fn.sizes.items ≤ l.s;
  grown : AreGrownBy (IsSizeBy l.several l.small) l.fn.sizes.items l.sizes.items;
}
