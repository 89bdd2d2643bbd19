use Rattle.std.proofs.Common.{◌≡◌, length, arith}
use Rattle.ct_partition.specs.Points.{points}
use Rattle.ct_partition.proofs.RoundLemmas.{IsRound-push, IsRefined-round}
use Rattle.ct_partition.proofs.rounds.refined.Goals as goal

pub loop-i-preserved : goal.loop-i-preserved
loop-i-preserved c =
    let p = points c.args.labels.now c.args.starts.now c.args.children.now in
    let found = c.in_ok-number_of.ensures in
    rw c.in_ok-push.ensures.items
    (IsRound-push p c.args.blocks.now c.loop-i.representatives c.number_of.new.known c.loop-i.next.items c.loop-i.i c.in_ok-number_of.field-0 c.in_ok-key.key c.loop-i.invariant c.in_ok-key.ensures.value found.found found.stay found.only)

pub returns : goal.returns
returns c =
    let p = points c.args.labels.now c.args.starts.now c.args.children.now in
    let all : c.loop-i.i ≡ length c.args.blocks.now = omega arith in
    record { refined = IsRefined-round p c.args.blocks.now c.loop-i.representatives c.loop-i.next.items c.loop-i.i all c.loop-i.invariant }
