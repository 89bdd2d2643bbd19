use Rattle.std.proofs.Common.{rules, ◌≡◌, length, subst}
use Rattle.ct_congr.specs.State.{State}
use Rattle.ct_log.specs.Equations.{equation}
use Rattle.ct_explain.specs.Writing.{Written, IsStep, HasWrittenMore}
use Rattle.ct_explain.proofs.WritingLemmas.{grown_by_step, stated_last}
use Rattle.ct_explain.proofs.writer.Writer.write.Goals as goal

pub returns-clause-grown : goal.returns-clause-grown
returns-clause-grown c =
    subst (λ (w : Written). (state : State) → IsStep state w c.args.step c.args.left c.args.right → HasWrittenMore state w (record { first = c.self.inside.first; steps = c.push.new.self.items; stated = c.push-2.new.self.items }))
    c.self.view_is
    (λ state is. grown_by_step state (record { first = c.self.inside.first; steps = c.self.inside.steps.items; stated = c.self.inside.stated.items })
    c.args.step c.args.left c.args.right c.push.new.self.items c.push-2.new.self.items c.in_ok-push.ensures.items c.in_ok-push-2.ensures.items is)

pub returns-clause-told : goal.returns-clause-told
returns-clause-told c = λ before long.
    let at = stated_last c.self.inside.first c.self.inside.stated.items (equation c.args.left c.args.right) before long in
    let count : c.len.result ≡ length c.self.inside.stated.items = search rules in
    rw (c.in_ok-push-2.ensures.items, count) at
