use Rattle.std.proofs.Common.{◌≡◌, length}
use Rattle.ct_terms.specs.Terms.{AreSorted}
use Rattle.ct_restriction.specs.Restricted.{AreCopied}
use Rattle.ct_restriction.proofs.restriction.copied.Given as goal

abbrev pub invariant-loop-t : goal.invariant-loop-t
invariant-loop-t l = record {
  copied : AreCopied l.table l.marks l.restricted.value l.numbers.items;
  sorted : AreSorted l.sig l.restricted.value;
  long : length l.numbers.items ≡ l.t;
}
