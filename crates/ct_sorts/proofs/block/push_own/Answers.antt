use Rattle.std.proofs.Common.{◌≡◌, ℕ, ◌+◌, ◌<◌, ◌≤◌, ◌++◌, List, [], length, take, sym, ◌∙◌, subst, arith}
use Rattle.std.proofs.lemmas.List.{append_assoc, append-nil}
use Rattle.ct_generics.specs.SortTable.{AreSorts}
use Rattle.ct_sorts.specs.Block.{params_of, plain_from}
use Rattle.ct_sorts.proofs.OwnPushLemmas.{own_all, own_fresh, own_more, own_none}
use Rattle.ct_sorts.proofs.block.push_own.Goals as goal

pub returns-in_err-given-clause-begun : goal.returns-in_err-given-clause-begun
returns-in_err-given-clause-begun c = λ sorts stand. ([], subst (AreSorts c.args.table.now) (sym (append-nil sorts)) stand)

pub loop-decl-init : goal.loop-decl-init
loop-decl-init c = own_none c.args.table.now c.args.first_head c.args.block.now c.in_ok-given.given.items c.in_ok-given.ensures.items

pub push_head-requires-clause-fresh : goal.push_head-requires-clause-fresh
push_head-requires-clause-fresh c = own_fresh c.args.table.now c.loop-decl.table c.args.first_head c.args.block.now c.loop-decl.given.items c.loop-decl.head c.loop-decl.decl-index c.loop-decl.invariant c.loop-decl-test.true c.requires.fresh

pub push_head-requires-clause-sorts_few : goal.push_head-requires-clause-sorts_few
push_head-requires-clause-sorts_few c = omega (arith, c.loop-decl.invariant.few, c.loop-decl-test.true, c.requires.sorts_few)

pub push_head-requires-clause-heads_few : goal.push_head-requires-clause-heads_few
push_head-requires-clause-heads_few c = omega (arith, c.loop-decl.invariant.at, c.loop-decl-test.true, c.requires.heads_few)

-- what stands there after the sorts that were pushed
pub returns-in_err-number-clause-begun : goal.returns-in_err-number-clause-begun
returns-in_err-number-clause-begun c = λ sorts stand.
    let own = plain_from c.args.first_head (params_of (take c.loop-decl.decl-index c.args.block.now)) in
    let more = c.push_head.ensures.begun (sorts ++ own) (c.loop-decl.invariant.stand sorts stand) in
    (own ++ more.0, subst (AreSorts c.push_head.new.table) (append_assoc sorts own more.0) more.1)

pub returns-in_err-number-clause-stay : goal.returns-in_err-number-clause-stay
returns-in_err-number-clause-stay c = λ n x at. c.push_head.ensures.stay n x (c.loop-decl.invariant.stay n x at)

pub returns-in_err-number-clause-counts : goal.returns-in_err-number-clause-counts
returns-in_err-number-clause-counts c = c.push_head.ensures.counts ∙ c.loop-decl.invariant.counts_same

pub returns-in_err-push-clause-begun : goal.returns-in_err-push-clause-begun
returns-in_err-push-clause-begun c = λ sorts stand.
    let own = plain_from c.args.first_head (params_of (take c.loop-decl.decl-index c.args.block.now)) in
    let more = c.push_head.ensures.begun (sorts ++ own) (c.loop-decl.invariant.stand sorts stand) in
    (own ++ more.0, subst (AreSorts c.push_head.new.table) (append_assoc sorts own more.0) more.1)

pub returns-in_err-push-clause-stay : goal.returns-in_err-push-clause-stay
returns-in_err-push-clause-stay c = λ n x at. c.push_head.ensures.stay n x (c.loop-decl.invariant.stay n x at)

pub returns-in_err-push-clause-counts : goal.returns-in_err-push-clause-counts
returns-in_err-push-clause-counts c = c.push_head.ensures.counts ∙ c.loop-decl.invariant.counts_same

pub overflow_add-head : goal.overflow_add-head
overflow_add-head c = omega (arith, c.loop-decl.invariant.at, c.loop-decl-test.true, c.requires.heads_few)

pub loop-decl-preserved : goal.loop-decl-preserved
loop-decl-preserved c =
    own_more c.args.table.now c.loop-decl.table c.push_head.new.table c.args.first_head c.args.block.now c.loop-decl.given.items c.loop-decl.head c.loop-decl.decl-index c.decl-item.result c.in_ok-number.number c.push.new.self.items
    c.loop-decl.invariant c.loop-decl-test.true c.decl-item.is (c.requires.fresh.0, c.requires.fresh.1) c.in_ok-number.ensures.given c.in_ok-number.ensures.sorts c.push_head.ensures.stay c.push_head.ensures.counts c.in_ok-push.ensures.items

pub returns-clause-given : goal.returns-clause-given
returns-clause-given c = (own_all c.args.table.now c.loop-decl.table c.args.first_head c.args.block.now c.loop-decl.given.items c.loop-decl.head c.loop-decl.decl-index c.loop-decl.invariant c.loop-decl-test.false).0

pub returns-clause-sorts : goal.returns-clause-sorts
returns-clause-sorts c = (own_all c.args.table.now c.loop-decl.table c.args.first_head c.args.block.now c.loop-decl.given.items c.loop-decl.head c.loop-decl.decl-index c.loop-decl.invariant c.loop-decl-test.false).1

pub returns-clause-begun : goal.returns-clause-begun
returns-clause-begun c = λ sorts stand.
    let all = own_all c.args.table.now c.loop-decl.table c.args.first_head c.args.block.now c.loop-decl.given.items c.loop-decl.head c.loop-decl.decl-index c.loop-decl.invariant c.loop-decl-test.false in
    (plain_from c.args.first_head (params_of c.args.block.now), all.1 sorts stand)

pub returns-clause-stay : goal.returns-clause-stay
returns-clause-stay c = c.loop-decl.invariant.stay

pub returns-clause-counts : goal.returns-clause-counts
returns-clause-counts c = c.loop-decl.invariant.counts_same
