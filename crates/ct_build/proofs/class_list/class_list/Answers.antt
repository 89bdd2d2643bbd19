use Rattle.std.proofs.Common.{◌≡◌, ℕ, length, ap, subst, arith}
use Rattle.ct_build.specs.Nodes.{IsClassListBelow}
use Rattle.ct_build.proofs.ListedLemmas.{class_list_first}
use Rattle.ct_build.proofs.class_list.class_list.Goals as goal

pub loop-t-init : goal.loop-t-init
loop-t-init c = class_list_first c.args.classes.now c.args.order.now c.in_ok-list.list.items c.in_ok-list.ensures.items

pub returns : goal.returns
returns c =
    let count : c.loop-t.t ≡ length c.args.classes.now.terms = omega (arith, c.len-t-end.ensures.count, ap length c.table.ensures.value, c.loop-t-test.false) in
    record { list = subst (λ (n : ℕ). IsClassListBelow c.args.classes.now n c.args.order.now c.loop-t.list.items) count c.loop-t.invariant }
