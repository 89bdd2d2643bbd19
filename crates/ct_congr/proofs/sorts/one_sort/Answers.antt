use Rattle.ct_congr.proofs.OneSortLemmas.{connected_sorts, sides_sorts}
use Rattle.ct_congr.proofs.sorts.one_sort.Goals as goal

pub returns : goal.returns
returns c = record {
  one_sort = λ hyps merges sorted stripped justified.
      let d = c.args.sig.now in
      connected_sorts d c.args.table.now sorted c.len.ensures.begins (c.structure.ensures.of_their_constructors d c.sorts.ensures.consistent) hyps stripped merges justified;
  sides = λ hyps merges sorted stripped justified.
      let d = c.args.sig.now in
      sides_sorts d c.args.table.now sorted c.len.ensures.begins (c.structure.ensures.of_their_constructors d c.sorts.ensures.consistent) hyps stripped merges justified;
}
