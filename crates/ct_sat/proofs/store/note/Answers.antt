use Rattle.std.proofs.Common.{◌≡◌, length, arith}
use Rattle.ct_sat.proofs.WatchingLemmas.{noted-pair, noted-short}
use Rattle.ct_sat.proofs.store.note.Goals as goal

pub returns-then-not-is_one : goal.returns-then-not-is_one
returns-then-not-is_one c = rw c.push_reserved.ensures.items (record { noted = noted-pair c.args.of_clauses.now.items c.args.short.now.items c.args.clause.now _ c.two_of.ensures.two c.if-not-is_one.ensures.value })

pub returns : goal.returns
returns c =
    let read = c.len-index.ensures in
    let index : c.len-index.result ≡ length c.args.of_clauses.now.items = omega (arith, c.args.of_clauses.now.ok.0) in
    rw (c.push_reserved.ensures.items, c.push_reserved-2.ensures.items, index) (record { noted = noted-short c.args.of_clauses.now.items c.args.short.now.items c.args.clause.now _ c.two_of.ensures.two c.if-not-is_one.ensures.value })
