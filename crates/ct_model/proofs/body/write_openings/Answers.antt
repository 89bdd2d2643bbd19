use Rattle.std.proofs.Common.{◌≡◌, ℕ, ◌+◌, ◌<◌, ◌^◌, not, length, sym, subst, arith}
use Rattle.ct_model.proofs.BodyLemmas.{AreOpened, none_opened, one_more_opened, all_opened, opened_few}
use Rattle.ct_model.proofs.body.write_openings.Goals as goal

pub loop-r-init : goal.loop-r-init
loop-r-init c = none_opened c.args.sig.now c.args.graph.now c.args.rows.now c.args.out.now.items

pub with_end-count-requires : goal.with_end-count-requires
with_end-count-requires c =
    let loop = c.loop-r in
    let few = opened_few c.args.sig.now c.args.graph.now c.args.rows.now loop.r loop.first loop.count c.args.out.now.items loop.out.items loop.invariant in
    record { room = omega (arith, few, c.joins_next-joins.ensures.room) }

pub loop-r-preserved : goal.loop-r-preserved
loop-r-preserved c =
    let loop = c.loop-r in
    let d = c.args.sig.now in
    let g = c.args.graph.now in
    let rows = c.args.rows.now in
    let old = c.args.out.now.items in
    let joins = c.joins_next-joins.result in
    let new = c.write_opening.new.out.items in
    subst (λ (k : ℕ). AreOpened d g rows (loop.r + 1) (not joins) k old new) (sym c.with_end-count.ensures.value)
    (one_more_opened d g rows loop.r loop.first joins loop.count c.index-rows-r.result old loop.out.items new
    c.loop-r-test.true c.index-rows-r.is c.joins_next-joins.ensures.value loop.invariant c.in_ok-write_opening.ensures.ok)

pub returns : goal.returns
returns c = record { ok = all_opened c.args.sig.now c.args.graph.now c.args.rows.now c.loop-r.r c.loop-r.first c.loop-r.count c.args.out.now.items c.loop-r.out.items c.loop-r-test.false c.loop-r.invariant }
