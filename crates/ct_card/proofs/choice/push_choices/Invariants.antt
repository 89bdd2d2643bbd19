use Rattle.std.proofs.Common.{◌≡◌, ◌≤◌, length}
use Rattle.ct_card.specs.Extended.{AreGrownBy, IsChosen}
use Rattle.ct_card.proofs.choice.push_choices.Given as goal

abbrev pub invariant-loop-s : goal.invariant-loop-s
invariant-loop-s l = record {
  long : length l.ctors.items ≡ l.s;
  from : length l.fn.ctors.items ≤ l.s;
  grown : AreGrownBy (IsChosen l.sig l.ranks) l.fn.ctors.items l.ctors.items;
}
