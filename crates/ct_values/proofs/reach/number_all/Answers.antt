use Rattle.std.proofs.Common.{◌≡◌, length, Some, slice_get, get_or, take}
use Rattle.std.proofs.lemmas.List.{take_more}
use Rattle.std.proofs.lemmas.List.Elements.{AllZip-push}
use Rattle.ct_values.specs.declared.node.NodeId.{NodeId}
use Rattle.ct_values.specs.Renumbering.{StandFor}
use Rattle.ct_values.proofs.NumberedLemmas.{CountsUp-push}
use Rattle.ct_values.proofs.RenumberLemmas.{Stay-trans, StandFor-stay}
use Rattle.ct_values.proofs.reach.number_all.Goals as goal

pub loop-n-preserved : goal.loop-n-preserved
loop-n-preserved c =
    let old = c.loop-n.ids.keys in
    let new = c.number.new.ids.keys in
    let nodes = c.args.nodes.now in
    let before = take c.loop-n.n-index nodes in
    let done = c.in_ok-number.ensures in
    let none : NodeId = record { 0 = 0 } in
    let node = get_or nodes c.loop-n.n-index none in
    let stored : StandFor new c.loop-n.indices.items before = StandFor-stay old new c.loop-n.indices.items before done.stay c.loop-n.invariant.2 in (
      done.numbering,
      Stay-trans c.args.ids.now.keys old new c.loop-n.invariant.1 done.stay,
      rw (c.in_ok-push.ensures.items, take_more nodes c.loop-n.n-index none c.loop-n-test.true)
          (AllZip-push (λ p n. slice_get new p.0 ≡ Some n.0) c.loop-n.indices.items before c.in_ok-number.field-0 node stored done.at),
      rw c.in_ok-push.ensures.items (CountsUp-push (length c.args.ids.now.keys) (length old) (length new) c.loop-n.indices.items c.in_ok-number.field-0 c.loop-n.invariant.3 done.counts),
    )
