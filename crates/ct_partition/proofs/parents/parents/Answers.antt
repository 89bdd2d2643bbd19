use Rattle.std.proofs.Common.{◌≡◌, ℕ, length, subst, arith}
use Rattle.ct_partition.specs.Points.{points}
use Rattle.ct_partition.proofs.PointLemmas.{closed}
use Rattle.ct_partition.proofs.WaitingLemmas.{AreParentsBelow, AreParentsBelow-none, AreParentsBelow-more}
use Rattle.ct_partition.proofs.parents.parents.Goals as goal

pub loop-i-init : goal.loop-i-init
loop-i-init c = AreParentsBelow-none (points c.args.labels.now c.args.starts.now c.args.children.now) c.in_ok-rows.rows.items c.in_ok-rows.ensures.long c.in_ok-rows.ensures.empty

pub add_parent-requires : goal.add_parent-requires
add_parent-requires c =
    let labels = c.args.labels.now in
    let starts = c.args.starts.now in
    let children = c.args.children.now in
    let inside = closed labels starts children c.requires.formed c.loop-i.i c.loop-i-test.true in
    record {
      within = rw (c.children_of.ensures.value, c.loop-i.invariant.long) inside;
    }

pub loop-i-preserved : goal.loop-i-preserved
loop-i-preserved c =
    let p = points c.args.labels.now c.args.starts.now c.args.children.now in
    let more = c.in_ok-add_parent.ensures in
    AreParentsBelow-more p c.loop-i.i c.children_of.result.now c.loop-i.rows.items c.add_parent.new.rows.items c.children_of.ensures.value more.long more.added c.loop-i.invariant

pub returns : goal.returns
returns c =
    let p = points c.args.labels.now c.args.starts.now c.args.children.now in
    let rows = c.loop-i.rows.items in
    let all : c.loop-i.i ≡ length c.args.labels.now = omega arith in
    let below = subst (λ (k : ℕ). AreParentsBelow p k rows) all c.loop-i.invariant in
    record { parents = record { long = below.long; parents = below.parents } }
