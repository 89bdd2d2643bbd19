use Rattle.std.proofs.Common.{refl}
use Rattle.ct_input.specs.Slot.{FeedsHead}
use Rattle.ct_input.proofs.SlotLemmas.{fed_nothing, too_long_some, head_taken}
use Rattle.ct_input.proofs.slot.feed_slot.Goals as goal

pub loop-count-init : goal.loop-count-init
loop-count-init g c = record { so_far = fed_nothing _ _ c.requires.new; other = λ s different. refl; names = λ n. refl; same = refl }

pub returns-in-Beyond-clause-fed : goal.returns-in-Beyond-clause-fed
returns-in-Beyond-clause-fed g c =
    let f : FeedsHead c.loop-count.reader c.feed_once.new.reader (g.D.Desk.left c.loop-count.desk c.args.slot) (g.D.Desk.left c.feed_once.new.desk c.args.slot) = rw c.in-Beyond.is at c.in_ok-count.ensures.feeds in
    too_long_some _ _ _ _ _ _ c.loop-count.invariant.so_far f

pub returns-in-Beyond-clause-taken : goal.returns-in-Beyond-clause-taken
returns-in-Beyond-clause-taken g c =
    let f : FeedsHead c.loop-count.reader c.feed_once.new.reader (g.D.Desk.left c.loop-count.desk c.args.slot) (g.D.Desk.left c.feed_once.new.desk c.args.slot) = rw c.in-Beyond.is at c.in_ok-count.ensures.feeds in
    head_taken _ _ _ _ _ _ c.loop-count.invariant.so_far f
