use Rattle.std.proofs.Common.{map, arith}
use Rattle.std.proofs.lemmas.List.{length-map}
use Rattle.ct_instances.specs.Among.{origin_of}
use Rattle.ct_readback.proofs.NestingLemmas.{nests_item}
use Rattle.ct_readback.proofs.SaysLemmas.{each_uncounted, short_items}
use Rattle.ct_readback.proofs.sort_text.+says_sort.Goals as goal

pub says_each-returns-then-sorts-exprs : goal.says_each-returns-then-sorts-exprs
says_each-returns-then-sorts-exprs t c =
    let d = c.args.sig.now in
    let sorts = c.args.sorts.now in
    record { value = each_uncounted d.declared.heads (map (origin_of d) sorts) c.args.exprs.now (λ same. omega (arith, c.if-sorts-exprs.true, same, length-map sorts (origin_of d))) }

pub says_each-says_sort-requires : goal.says_each-says_sort-requires
says_each-says_sort-requires t c = (
  omega (arith, nests_item c.args.exprs.now c.loop-index.index c.index-exprs-index.result c.loop-index-test.true c.index-exprs-index.is, c.decreases),
  c.requires.declared c.loop-index.index (record { 0 = 0 }) (omega (arith, c.loop-index-test.true, c.if-sorts-exprs.false)),
)

pub says_items-returns-in-empty : goal.says_items-returns-in-empty
says_items-returns-in-empty t c = record { value = short_items c.args.sig.now.declared.heads (origin_of c.args.sig.now c.args.s) c.args.items.now (omega (arith, c.in-empty.len_below)) }
