use Rattle.std.proofs.Common.{ℕ, ◌<◌, List, length, All, get_or, sym, subst, ◌∙◌, true≢false}
use Rattle.std.proofs.lemmas.Option.{slice_get-get_or}
use Rattle.ct_values.specs.declared.node.NodeId.{NodeId}
use Rattle.ct_readback.proofs.PlaceSteps.{added_other, added_data, below_more}
use Rattle.ct_readback.proofs.placing.add_children.Goals as goal

abbrev zeroth : NodeId
zeroth = record { 0 = 0 }

pub loop-child-preserved-then-not-is_data : goal.loop-child-preserved-then-not-is_data
loop-child-preserved-then-not-is_data c =
    let children = c.args.children.now in
    let i = c.loop-child.child-index in (
      added_other c.args.sig.now c.args.h.now children i (get_or children i zeroth) c.args.kids.now.items c.loop-child.kids.items (slice_get-get_or children i zeroth c.loop-child-test.true)
          (λ is. true≢false (sym (c.is_data.ensures.datatype.1 is) ∙ c.if-not-is_data.true)) c.loop-child.invariant.0,
      c.loop-child.invariant.1,
    )

pub loop-child-preserved : goal.loop-child-preserved
loop-child-preserved c =
    let children = c.args.children.now in
    let i = c.loop-child.child-index in
    let child = get_or children i zeroth in (
      added_data c.args.sig.now c.args.h.now children i child c.args.kids.now.items c.loop-child.kids.items c.push.new.self.items (slice_get-get_or children i zeroth c.loop-child-test.true)
          (c.is_data.ensures.datatype.0 c.if-not-is_data.false) c.in_ok-push.ensures.items c.loop-child.invariant.0,
      λ old. subst (λ (list : List ℕ). All (λ kid. kid < length c.args.h.now) list) (sym c.in_ok-push.ensures.items)
          (below_more (length c.args.h.now) c.loop-child.kids.items child.0 (c.requires.within i zeroth c.loop-child-test.true) (c.loop-child.invariant.1 old)),
    )
