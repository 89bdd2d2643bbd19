use Rattle.std.proofs.Common.{◌≡◌, ℕ, List, Some, length, slice_get, sym, ap, ◌∙◌}
use Rattle.indexmap.specs.IndexSet.{insert_key}
use Rattle.ct_lemmas.proofs.Contained.{Contains-from_slice_get}
use Rattle.ct_ordering.proofs.ListLemmas.{none-past}
use Rattle.ct_sorts.specs.declared.ids.SortId.{SortId}
use Rattle.ct_sexpr.specs.View.{expressions_of}
use Rattle.ct_readback.specs.declared.descent.Pair.{Pair}
use Rattle.ct_readback.specs.contracts.descent.PairPartialEq.TheImpl as derived
use Rattle.ct_readback.specs.Descent.{IsAsked, IsUnfit}
use Rattle.ct_readback.proofs.DescentLemmas.{on_true, on_false}
use Rattle.ct_readback.proofs.ReachedLemmas.{fields_over}
use Rattle.ct_readback.proofs.KnownLemmas.{made, asked_start, asked_next, asked_stopped, asked_all}
use Rattle.ct_readback.proofs.NodeSortLemmas.{said_heads}
use Rattle.ct_readback.proofs.descent.pairs_below.Goals as goal

abbrev sort_of : ℕ → SortId
sort_of n = record { 0 = n }

pub loop-place-init : goal.loop-place-init
loop-place-init c =
    asked_start c.args.sig.now (expressions_of c.args.rows.now) c.args.known.now c.args.i c.args.s c.requires.inside c.insert.new.self.keys
    (c.in_ok-insert.ensures.keys ∙ ap (λ (l : List Pair). insert_key derived.eq-value.it l (made c.args.i c.args.s)) c.new-pairs.ensures.empty)

pub returns-in_default : goal.returns-in_default
returns-in_default c =
    let d = c.args.sig.now in
    let rows = expressions_of c.args.rows.now in
    let known = c.args.known.now in
    let held = c.loop-place.invariant in
    let place = c.loop-place.place in
    let pairs = c.loop-place.pairs.keys in
    let asked = asked_all d rows known c.args.i c.args.s pairs place held (none-past pairs place (sym c.pair_at.ensures.value ∙ c.in_default.is)) in
    record { pairs = record { first = held.first; declared = held.declared; asked = asked } }

pub add_below-requires : goal.add_below-requires
add_below-requires c =
    let d = c.args.sig.now in
    let rows = expressions_of c.args.rows.now in
    let known = c.args.known.now in
    let held = c.loop-place.invariant in
    let place = c.loop-place.place in
    let pairs = c.loop-place.pairs.keys in
    let p = c.in-Some.pair in
    let at : slice_get pairs place ≡ Some p = sym c.pair_at.ensures.value ∙ c.in-Some.is in
    record { inside = held.declared p.node (sort_of p.sort) (Contains-from_slice_get pairs place p at) }

pub returns-then-not-branch : goal.returns-then-not-branch
returns-then-not-branch c =
    let d = c.args.sig.now in
    let rows = expressions_of c.args.rows.now in
    let known = c.args.known.now in
    let held = c.loop-place.invariant in
    let place = c.loop-place.place in
    let pairs = c.loop-place.pairs.keys in
    let p = c.in-Some.pair in
    let at : slice_get pairs place ≡ Some p = sym c.pair_at.ensures.value ∙ c.in-Some.is in
    let done = c.in_ok-add_below.ensures in
    record {
      pairs = asked_stopped d rows known c.args.i c.args.s pairs c.add_below.new.pairs.keys place p held at c.requires.known.long
          (on_false c.in_ok-add_below.field-0 (IsUnfit d rows (length known) p.node (sort_of p.sort)) c.if-not-branch.true done.unfit);
    }

pub loop-place-preserved : goal.loop-place-preserved
loop-place-preserved c =
    let d = c.args.sig.now in
    let rows = expressions_of c.args.rows.now in
    let known = c.args.known.now in
    let held = c.loop-place.invariant in
    let place = c.loop-place.place in
    let pairs = c.loop-place.pairs.keys in
    let p = c.in-Some.pair in
    let at : slice_get pairs place ≡ Some p = sym c.pair_at.ensures.value ∙ c.in-Some.is in
    let done = c.in_ok-add_below.ensures in
    let new = c.add_below.new.pairs.keys in
    let consistent = c.sorts.ensures.consistent in
    asked_next d rows known c.args.i c.args.s pairs new place p held at (fields_over d consistent.fields) (said_heads d consistent) done.adds
    (on_true c.in_ok-add_below.field-0 (IsAsked d rows known new p.node (sort_of p.sort)) c.if-not-branch.false done.asked)
