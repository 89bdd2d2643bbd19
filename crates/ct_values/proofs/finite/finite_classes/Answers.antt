use Rattle.std.proofs.Common.{◌<◌}
use Rattle.std.proofs.lemmas.Bool.Decides.{when_false}
use Rattle.ct_values.specs.Settled.{AreTried, unsettled}
use Rattle.ct_values.proofs.FiniteLemmas.{TellsTrees-settled}
use Rattle.ct_values.proofs.finite.finite_classes.Goals as goal

pub settle_all-requires-clause-each : goal.settle_all-requires-clause-each
settle_all-requires-clause-each c = rw c.deref.ensures.value c.in_ok-order.ensures.each

pub returns : goal.returns
returns c =
    let g = c.args.graph.now in
    let now = c.settle_all.new.classes.items in
    let tried : AreTried g now = when_false (unsettled now < unsettled c.passes.classes.items) (AreTried g now) c.if-branch.false c.in_ok-settle_all.ensures.more in
    record { trees = TellsTrees-settled g now c.settle_all.new.steps c.len.ensures.closed c.in_ok-settle_all.ensures.settling tried }
