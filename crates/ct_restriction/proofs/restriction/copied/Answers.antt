use Rattle.std.proofs.Common.{length, ap, subst}
use Rattle.ct_terms.specs.Terms.{AreSorted}
use Rattle.ct_terms.proofs.SortLemmas.{AreSorted-take}
use Rattle.ct_restriction.proofs.CopyLemmas.{copied_truths}
use Rattle.ct_restriction.proofs.restriction.copied.Goals as goal

pub loop-t-init : goal.loop-t-init
loop-t-init c =
    let table = c.args.table.now in
    let known = c.len-t-end.ensures in
    record {
      copied = rw (c.in_ok-restricted.ensures.ok, c.in_ok-new.ensures.ok, c.in_ok-numbers.ensures.items) (copied_truths table c.args.marks.now known.begins known.ordered);
      sorted = rw (c.in_ok-restricted.ensures.ok, c.in_ok-new.ensures.ok) (subst (AreSorted c.args.sig.now) known.begins (AreSorted-take c.args.sig.now table 2 known.ordered c.requires.sorted));
      long = ap length c.in_ok-numbers.ensures.items;
    }
