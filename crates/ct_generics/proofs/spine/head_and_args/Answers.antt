use Rattle.std.proofs.Common.{◌≡◌, option_map, reverse, ◌∙◌, arith}
use Rattle.ct_generics.specs.declared.nodes.HeadId.{HeadId}
use Rattle.ct_generics.proofs.SubstitutionLemmas.{AreWithin-push, AreWithin-none, AreWithin-reverse}
use Rattle.ct_generics.proofs.SpineLemmas.{IsDown-start, IsDown-step, IsSpine-from}
use Rattle.ct_generics.proofs.spine.head_and_args.Goals as goal

pub loop-parts-init : goal.loop-parts-init
loop-parts-init c =
    record {
      within = c.requires.within;
      args = rw c.new-stack.ensures.items (AreWithin-none c.args.table.now);
      down = λ e stands. rw c.new-stack.ensures.items (IsDown-start c.args.table.now c.args.id.0 e stands);
    }

pub loop-parts-preserved : goal.loop-parts-preserved
loop-parts-preserved c =
    let table = c.args.table.now in
    let old = c.loop-parts.stack.items in
    let parts = c.in-Some.parts in
    record {
      within = omega (arith, c.in-Some.ensures.below.0, c.loop-parts.invariant.within);
      args = rw c.in_ok-push.ensures.items (AreWithin-push table old parts.argument c.loop-parts.invariant.args (omega (arith, c.in-Some.ensures.below.1, c.loop-parts.invariant.within)));
      down = λ e stands. rw c.in_ok-push.ensures.items (IsDown-step table c.loop-parts.next.0 parts.function parts.argument old e c.in-Some.ensures.parts (c.loop-parts.invariant.down e stands));
    }

pub returns-clause-spine : goal.returns-clause-spine
returns-clause-spine c e stands =
    let table = c.args.table.now in
    let next = c.loop-parts.next.0 in
    let is : c.new.result ≡ reverse c.loop-parts.stack.items = c.new.ensures.value ∙ c.in_ok-args.ensures.value in
    rw is
    (IsSpine-from table next c.loop-parts.stack.items e (option_map (λ (h : HeadId). h.0) c.top-head.result) (λ f stands_f. c.top-head.ensures.top table next f c.node.ensures.value (c.in_default.ensures.none c.node.result c.node.ensures.value) stands_f) (c.loop-parts.invariant.down e stands))

pub returns-clause-within : goal.returns-clause-within
returns-clause-within c =
    let is : c.new.result ≡ reverse c.loop-parts.stack.items = c.new.ensures.value ∙ c.in_ok-args.ensures.value in
    rw is (AreWithin-reverse c.args.table.now c.loop-parts.stack.items c.loop-parts.invariant.args)
