use Rattle.std.proofs.Common.{◌≡◌, ℕ, length, Some, slice_get, ⊎_elim, arith}
use Rattle.std.proofs.lemmas.Option.{slice_get_within}
use Rattle.ct_generics.specs.declared.nodes.ExprId.{ExprId}
use Rattle.ct_generics.specs.Reach.{most_reached}
use Rattle.ct_generics.proofs.NodeLemmas.{Stands-within, Stay-trans}
use Rattle.ct_generics.proofs.SubstitutionLemmas.{length-push}
use Rattle.ct_generics.proofs.ReachLemmas.{IsReached-start, IsReached-step, reaches_many}
use Rattle.ct_generics.proofs.reach.reached_graph.Goals as goal

pub loop-alloc-init : goal.loop-alloc-init
loop-alloc-init c =
    let only : (i : ℕ) (id : ExprId) → slice_get c.insert_all.new.ids i ≡ Some id → (k : ℕ) × (slice_get c.args.roots.now k ≡ Some id) = λ i id at. ⊎_elim (λ old. absurd (omega (arith, slice_get_within c.new-ids.result i id old, c.new-ids.ensures.empty))) (λ k. k) (c.in_ok-starts.ensures.only i id at) in
    record {
      stay = λ n x at. at;
      few = rw c.new-graph.ensures.items (omega arith);
      within = rw c.new-graph.ensures.items (omega arith);
      whole = λ hs es all stand. rw c.new-graph.ensures.items (IsReached-start hs c.args.table.now c.insert_all.new.ids c.in_ok-starts.starts.items c.args.roots.now es c.in_ok-starts.ensures.at only stand);
    }

pub returns-then-met-gt-MOST_REACHED-clause-many : goal.returns-then-met-gt-MOST_REACHED-clause-many
returns-then-met-gt-MOST_REACHED-clause-many c hs es all stand =
    reaches_many hs c.loop-alloc.table c.loop-alloc.ids c.loop-alloc.graph.items c.in_ok-starts.starts.items es most_reached c.len-single.ensures.single c.len-met.ensures.different (omega (arith, c.if-met-gt-MOST_REACHED.true, c.len-met.ensures.len)) (c.loop-alloc.invariant.whole hs es all stand)

pub vertex_of-requires-clause-within : goal.vertex_of-requires-clause-within
vertex_of-requires-clause-within c =
    let at : slice_get c.loop-alloc.ids (length c.loop-alloc.graph.items) ≡ Some c.get-id.result = rw c.count-done.ensures.count at c.get-id.ensures.value in
    let before = c.loop-alloc.invariant.whole c.requires.stored.0 c.requires.stand.0 c.requires.stored.1 c.requires.stand.1 in
    let f = before.reached (length c.loop-alloc.graph.items) c.get-id.result at in
    Stands-within c.loop-alloc.table c.get-id.result.0 f.0 f.1

pub loop-alloc-preserved : goal.loop-alloc-preserved
loop-alloc-preserved c =
    let old = c.loop-alloc.table in
    let new = c.vertex_of.new.table in
    let ids = c.loop-alloc.ids in
    let more = c.vertex_of.new.ids in
    let graph = c.loop-alloc.graph.items in
    let id = c.get-id.result in
    let v = c.in_ok-vertex.vertex in
    let at : slice_get ids (length graph) ≡ Some id = rw c.count-done.ensures.count at c.get-id.ensures.value in
    let within = slice_get_within ids (length graph) id at in
    record {
      stay = Stay-trans c.args.table.now old new c.loop-alloc.invariant.stay c.vertex_of.ensures.stay;
      few = rw c.in_ok-push.ensures.items (omega (arith, length-push graph v, within, c.if-met-gt-MOST_REACHED.false, c.len-met.ensures.len));
      within = rw c.in_ok-push.ensures.items (omega (arith, length-push graph v, slice_get_within more (length graph) id (c.vertex_of.ensures.stay_ids (length graph) id at)));
      whole = λ hs es all stand.
          let before = c.loop-alloc.invariant.whole hs es all stand in
          let f = before.reached (length graph) id at in
          rw c.in_ok-push.ensures.items (IsReached-step hs old new ids more graph v id c.in_ok-starts.starts.items es f.0 c.vertex_of.ensures.stay c.vertex_of.ensures.stay_ids at f.1 f.2 (c.in_ok-vertex.ensures.vertex hs f.0 all f.1) (λ i other at_i. c.in_ok-vertex.ensures.only hs f.0 i other all f.1 at_i) before);
    }

pub returns-clause-whole : goal.returns-clause-whole
returns-clause-whole c hs es all stand = rw (c.new.ensures.value, c.new-2.ensures.value) (c.loop-alloc.invariant.whole hs es all stand)
