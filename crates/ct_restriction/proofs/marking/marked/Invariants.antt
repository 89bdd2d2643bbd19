use Rattle.std.proofs.Common.{◌≡◌, ◌-◌, length}
use Rattle.std.specs.List.{AllByRecursion}
use Rattle.ct_restriction.specs.Restricted.{IsMarked, MarksUnder, MarksSubterms}
use Rattle.ct_restriction.proofs.marking.marked.Given as goal

abbrev pub invariant-loop-i : goal.invariant-loop-i
invariant-loop-i l = record {
  long : length l.marks.items ≡ length l.table;
  rooted : AllByRecursion (IsMarked l.marks.items) l.roots;
  under : MarksUnder l.table l.marks.items (l.count - l.i);
  only : MarksSubterms l.table l.roots l.marks.items;
}
