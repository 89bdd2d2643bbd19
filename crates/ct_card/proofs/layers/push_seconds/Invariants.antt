use Rattle.std.proofs.Common.{◌≡◌, ◌≤◌, length}
use Rattle.ct_card.specs.Extended.{AreGrownBy, IsSecond}
use Rattle.ct_card.proofs.layers.push_seconds.Given as goal

abbrev pub invariant-loop-s : goal.invariant-loop-s
invariant-loop-s l = record {
  long : length l.all.items ≡ l.s;
  from : length l.fn.all.items ≤ l.s;
  grown : AreGrownBy (IsSecond l.sig l.several l.ctors) l.fn.all.items l.all.items;
}
