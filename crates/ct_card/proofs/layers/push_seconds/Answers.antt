use Rattle.std.proofs.Common.{◌≡◌, ◌<◌, List, length, get_or, slice_get, Some, sym, ◌∙◌, subst, arith}
use Rattle.std.proofs.lemmas.Option.{same_Some, slice_get-get_or}
use Rattle.ct_sorts.specs.declared.ids.CtorId.{CtorId}
use Rattle.ct_card.specs.declared.departure.Departure.{Departure}
use Rattle.ct_card.specs.Departures.{IsDeparture}
use Rattle.ct_card.specs.Extended.{AreGrownBy, IsSecond}
use Rattle.ct_card.proofs.BuiltLemmas.{listed_choice}
use Rattle.ct_card.proofs.SortRuleLemmas.{grown_pushed}
use Rattle.ct_card.proofs.layers.push_seconds.Goals as goal

pub second-requires-clause-listed : goal.second-requires-clause-listed
second-requires-clause-listed c = λ other.
    let d = c.args.sig.now in
    let e = c.structure.ensures in
    let k = c.sorts-sorts.ensures.consistent in
    let within : c.loop-s.s < length d.sorts = omega (arith, c.loop-s-test.true, c.sorts-sorts.ensures.count) in
    listed_choice d k (e.own_constructors d k) (e.own_selectors d k) (e.of_their_sorts d k) (e.of_their_constructors d k) c.requires.chosen.0 c.args.ctors.now c.requires.chosen.1 c.loop-s.s (get_or c.args.ctors.now c.loop-s.s (record { 0 = 0 })) within other
    (slice_get-get_or c.args.ctors.now c.loop-s.s (record { 0 = 0 }) (omega (arith, within, c.requires.chosen.1.long)))

pub loop-s-preserved : goal.loop-s-preserved
loop-s-preserved c =
    let d = c.args.sig.now in
    let s = c.loop-s.s in
    let inv = c.loop-s.invariant in
    let old = c.args.all.now.items in
    let several = c.args.several.now in
    let ctors = c.args.ctors.now in
    let is = IsSecond d several ctors in
    let new = c.in_ok-second.field-0 in
    let within : s < length d.sorts = omega (arith, c.loop-s-test.true, c.sorts-sorts.ensures.count) in
    let here : slice_get ctors s ≡ Some (get_or ctors s (record { 0 = 0 })) = slice_get-get_or ctors s (record { 0 = 0 }) (omega (arith, within, c.requires.chosen.1.long)) in
    let second : IsSecond d several ctors s new = record {
      departs = λ ctor at other. subst (λ (z : CtorId). IsDeparture d several s z new) (same_Some _ _ (sym here ∙ at)) (c.in_ok-second.ensures.departs other);
      some = λ other derived none. c.in_ok-second.ensures.some other derived none;
    } in
    record {
      long = omega (arith, c.in_ok-push.ensures.len, inv.long);
      from = omega (arith, inv.from);
      grown = subst (λ (l : List Departure). AreGrownBy is old l) (sym c.in_ok-push.ensures.items) (grown_pushed is old c.loop-s.all.items new s inv.long inv.from inv.grown second);
    }
