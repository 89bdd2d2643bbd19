use Rattle.std.proofs.Common.{rules, ◌≡◌, List, Option, None, Some, length, slice_get, sym, ap, subst, ◌∙◌, arith}
use Rattle.std.proofs.lemmas.List.{length-replicate}
use Rattle.std.proofs.lemmas.Option.{none-some, same_Some, slice_get_within, slice_get-get_or}
use Rattle.ct_sorts.specs.declared.ids.SortId.{SortId}
use Rattle.ct_sexpr.specs.View.{expressions_of}
use Rattle.ct_readback.specs.Descent.{HasSort, IsOther, IsDescended, IsStopped}
use Rattle.ct_readback.proofs.RestLemmas.{count_of}
use Rattle.ct_readback.proofs.DescentLemmas.{pair_of, on_true, on_false}
use Rattle.ct_readback.proofs.ReachedLemmas.{fields_over, asked_sorts, none_sorted, start_other, so_far_start, so_far_next, so_far_stopped, so_far_end}
use Rattle.ct_readback.proofs.NodeSortLemmas.{said_sorts, said_heads}
use Rattle.ct_readback.proofs.descent.sorts_below.Goals as goal

pub unreachable-unreachable : goal.unreachable-unreachable
unreachable-unreachable c =
    let none = c.in_ok-sorts.ensures.items_if_clones_equal (search rules) in
    let sorts = c.in_ok-sorts.sorts.items in
    start_other (length c.args.rows.now) c.args.s c.requires.some
    (subst (λ (l : List (Option SortId)). IsOther l (pair_of 0 c.args.s)) none (on_false c.in_ok-meet.field-0 (IsOther sorts (pair_of 0 c.args.s)) c.if-not-branch.true c.in_ok-meet.ensures.other))

pub loop-place-init : goal.loop-place-init
loop-place-init c =
    let d = c.args.sig.now in
    let n = length c.args.rows.now in
    let none = c.in_ok-sorts.ensures.items_if_clones_equal (search rules) in
    let sorts = c.in_ok-sorts.sorts.items in
    let long = ap length none in
    let copies = length-replicate {A = Option SortId} n None in
    so_far_start d c.args.s (expressions_of c.args.rows.now) _ c.meet.new.descent (λ i t has. none_sorted n i t (subst (λ (l : List (Option SortId)). HasSort l i t) none has)) c.new.ensures.items
    (omega (arith, long, copies, count_of c.args.rows.now)) c.requires.inside c.in_ok-meet.ensures.extends (on_true c.in_ok-meet.field-0 (HasSort c.meet.new.descent.sorts.items 0 c.args.s) c.if-not-branch.false c.in_ok-meet.ensures.met)

pub returns-then-place-len : goal.returns-then-place-len
returns-then-place-len c =
    let x = c.loop-place.descent in
    record { sorts = so_far_end c.args.sig.now c.args.s (expressions_of c.args.rows.now) x c.loop-place.place c.loop-place.invariant (omega (arith, c.if-place-len.true, c.len.ensures, x.met.ok.0)) }

pub index-requires : goal.index-requires
index-requires c =
    let d = c.args.sig.now in
    let rows = expressions_of c.args.rows.now in
    let x = c.loop-place.descent in
    let held = c.loop-place.invariant in
    let place = c.loop-place.place in
    let i = c.index-i.result.now in
    let at : slice_get x.met.items place ≡ Some i = slice_get-get_or x.met.items place i (omega (arith, c.if-place-len.false, c.len.ensures, x.met.ok.0)) ∙ ap Some (sym c.index-i.ensures) in
    let own = held.listed.sorted place i at in
    let within = slice_get_within x.sorts.items i (Some own.0) own.1 in
    omega (arith, within, x.sorts.ok.0)

pub unreachable-unreachable-in_default : goal.unreachable-unreachable-in_default
unreachable-unreachable-in_default c =
    let d = c.args.sig.now in
    let rows = expressions_of c.args.rows.now in
    let x = c.loop-place.descent in
    let held = c.loop-place.invariant in
    let place = c.loop-place.place in
    let i = c.index-i.result.now in
    let at : slice_get x.met.items place ≡ Some i = slice_get-get_or x.met.items place i (omega (arith, c.if-place-len.false, c.len.ensures, x.met.ok.0)) ∙ ap Some (sym c.index-i.ensures) in
    let own = held.listed.sorted place i at in
    let free : slice_get x.sorts.items i ≡ Some None = slice_get-get_or x.sorts.items i c.index.result.now (slice_get_within x.sorts.items i (Some own.0) own.1) ∙ ap Some (sym c.index.ensures ∙ c.in_default.is) in
    none-some own.0 (same_Some None (Some own.0) (sym free ∙ own.1))

pub meet_below-requires : goal.meet_below-requires
meet_below-requires c =
    let d = c.args.sig.now in
    let rows = expressions_of c.args.rows.now in
    let x = c.loop-place.descent in
    let held = c.loop-place.invariant in
    let place = c.loop-place.place in
    let i = c.index-i.result.now in
    let at : slice_get x.met.items place ≡ Some i = slice_get-get_or x.met.items place i (omega (arith, c.if-place-len.false, c.len.ensures, x.met.ok.0)) ∙ ap Some (sym c.index-i.ensures) in
    let own = held.listed.sorted place i at in
    let t = c.in-Some.s in
    let has : HasSort x.sorts.items i t = slice_get-get_or x.sorts.items i c.index.result.now (slice_get_within x.sorts.items i (Some own.0) own.1) ∙ ap Some (sym c.index.ensures ∙ c.in-Some.is) in
    record { inside = held.declared i t has }

pub returns-then-not-branch-2 : goal.returns-then-not-branch-2
returns-then-not-branch-2 c =
    let d = c.args.sig.now in
    let rows = expressions_of c.args.rows.now in
    let x = c.loop-place.descent in
    let held = c.loop-place.invariant in
    let place = c.loop-place.place in
    let i = c.index-i.result.now in
    let at : slice_get x.met.items place ≡ Some i = slice_get-get_or x.met.items place i (omega (arith, c.if-place-len.false, c.len.ensures, x.met.ok.0)) ∙ ap Some (sym c.index-i.ensures) in
    let own = held.listed.sorted place i at in
    let t = c.in-Some.s in
    let has : HasSort x.sorts.items i t = slice_get-get_or x.sorts.items i c.index.result.now (slice_get_within x.sorts.items i (Some own.0) own.1) ∙ ap Some (sym c.index.ensures ∙ c.in-Some.is) in
    let y = c.meet_below.new.descent in
    let done = c.in_ok-meet_below.ensures in
    let consistent = c.sorts.ensures.consistent in
    record {
      sorts = λ h is. so_far_stopped d c.args.s rows (said_sorts d consistent) x y place i t held has done.extends (on_false c.in_ok-meet_below.field-0 (IsStopped d rows y.sorts.items i t) c.if-not-branch-2.true done.stopped) h is;
    }

pub loop-place-preserved : goal.loop-place-preserved
loop-place-preserved c =
    let d = c.args.sig.now in
    let rows = expressions_of c.args.rows.now in
    let x = c.loop-place.descent in
    let held = c.loop-place.invariant in
    let place = c.loop-place.place in
    let i = c.index-i.result.now in
    let at : slice_get x.met.items place ≡ Some i = slice_get-get_or x.met.items place i (omega (arith, c.if-place-len.false, c.len.ensures, x.met.ok.0)) ∙ ap Some (sym c.index-i.ensures) in
    let own = held.listed.sorted place i at in
    let t = c.in-Some.s in
    let has : HasSort x.sorts.items i t = slice_get-get_or x.sorts.items i c.index.result.now (slice_get_within x.sorts.items i (Some own.0) own.1) ∙ ap Some (sym c.index.ensures ∙ c.in-Some.is) in
    let y = c.meet_below.new.descent in
    let done = c.in_ok-meet_below.ensures in
    let consistent = c.sorts.ensures.consistent in
    so_far_next d c.args.s rows (said_sorts d consistent) x y place i t held has done.extends at (λ j u inside. asked_sorts d (fields_over d consistent.fields) (said_heads d consistent) rows i t (pair_of j u) inside)
    (on_true c.in_ok-meet_below.field-0 (IsDescended d rows y.sorts.items i t) c.if-not-branch-2.false done.met)
