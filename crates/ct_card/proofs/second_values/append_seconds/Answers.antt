use Rattle.std.proofs.Common.{◌≡◌, ◌<◌, ◌+◌, ◌∷◌, [], suc, length, get_or, slice_get, Some, sym, ◌∙◌, ap, subst, arith, length-append}
use Rattle.std.proofs.lemmas.Option.{slice_get-get_or}
use Rattle.ct_sorts.specs.Grown.{Begins}
use Rattle.ct_values.specs.Graph.{Nodes}
use Rattle.ct_values.specs.Agreement.{node_point}
use Rattle.ct_values.specs.WellFormed.{IsWellFormedGraph}
use Rattle.ct_card.specs.Rules.{IsDerived}
use Rattle.ct_card.specs.Defaults.{node_of_sort}
use Rattle.ct_card.specs.Signs.{HasAllDefaults, HasSeconds}
use Rattle.ct_card.proofs.ListLemmas.{begins_pushed}
use Rattle.ct_card.proofs.SizeLemmas.{derived_within}
use Rattle.ct_card.proofs.WellFormedLemmas.{well_formed_pushed}
use Rattle.ct_card.proofs.PathLemmas.{Agrees, same_head_at}
use Rattle.ct_card.proofs.BuiltLemmas.{listed_choice}
use Rattle.ct_card.proofs.EndLemmas.{can_depart}
use Rattle.ct_card.proofs.SignLemmas.{rank_in_order, default_sign, longer_defaults, second_departs, seconds_step}
use Rattle.ct_card.proofs.second_values.append_seconds.Goals as goal

pub push_end-requires-clause-inside : goal.push_end-requires-clause-inside
push_end-requires-clause-inside c =
    let several = c.args.several.now in
    let index = c.loop-s.s-index in
    let s = get_or c.args.queue.now index 0 in
    let at : slice_get c.args.queue.now index ≡ Some s = slice_get-get_or c.args.queue.now index 0 c.loop-s-test.true in
    let rank : get_or several s 0 ≡ suc index = c.requires.queued.at index s at in
    subst (λ n. s < n) c.requires.several.long (derived_within several s (omega arith))

pub push_end-requires-clause-can : goal.push_end-requires-clause-can
push_end-requires-clause-can c = λ other.
    let d = c.args.sig.now in
    let e = c.structure.ensures in
    let k = c.sorts.ensures.consistent in
    let several = c.args.several.now in
    let ranks = c.args.ranks.now in
    let ctors = c.args.ctors.now in
    let seconds = c.args.seconds.now in
    let are = c.requires.departures in
    let index = c.loop-s.s-index in
    let s = get_or c.args.queue.now index 0 in
    let at : slice_get c.args.queue.now index ≡ Some s = slice_get-get_or c.args.queue.now index 0 c.loop-s-test.true in
    let rank : get_or several s 0 ≡ suc index = c.requires.queued.at index s at in
    let derived : IsDerived several s = omega arith in
    let within : s < length d.sorts = subst (λ n. s < n) c.requires.several.long (derived_within several s derived) in
    let few = rank_in_order several c.args.queue.now c.requires.queued s derived in
    let departure = c.departure_at-departure.result in
    let stored : slice_get seconds s ≡ Some departure = c.departure_at-departure.ensures.value (omega (arith, within, are.long)) in
    let by = second_departs d several ranks ctors seconds c.args.base are c.requires.several.long k (e.own_constructors d k) (e.own_selectors d k) (e.of_their_sorts d k) (e.of_their_constructors d k)
    (listed_choice d k (e.own_constructors d k) (e.own_selectors d k) (e.of_their_sorts d k) (e.of_their_constructors d k) ranks ctors c.requires.chosen)
    s departure within stored other in
    can_depart d k (e.own_constructors d k) (e.own_selectors d k) (e.of_their_sorts d k) (e.of_their_constructors d k) several ranks c.args.base c.loop-s.g s c.len-second.result departure by.0 within by.1 by.2
    (λ none. are.some s (stored ∙ ap Some none) other derived)
    (λ t derived_t less. (omega (arith, c.if-second-queue.false, less, few), (c.loop-s.invariant.seconds t derived_t (omega (arith, less, rank))).sorted))

pub loop-s-preserved : goal.loop-s-preserved
loop-s-preserved c =
    let d = c.args.sig.now in
    let e = c.structure.ensures in
    let k = c.sorts.ensures.consistent in
    let laws : Agrees = record { always = c.agreement.ensures.always; turned = c.agreement.ensures.turned; grown = c.agreement.ensures.always_grown } in
    let several = c.args.several.now in
    let ranks = c.args.ranks.now in
    let ctors = c.args.ctors.now in
    let seconds = c.args.seconds.now in
    let are = c.requires.departures in
    let index = c.loop-s.s-index in
    let s = get_or c.args.queue.now index 0 in
    let at : slice_get c.args.queue.now index ≡ Some s = slice_get-get_or c.args.queue.now index 0 c.loop-s-test.true in
    let rank : get_or several s 0 ≡ suc index = c.requires.queued.at index s at in
    let within : s < length d.sorts = subst (λ n. s < n) c.requires.several.long (derived_within several s (omega arith)) in
    let departure = c.departure_at-departure.result in
    let stored : slice_get seconds s ≡ Some departure = c.departure_at-departure.ensures.value (omega (arith, within, are.long)) in
    let g = c.loop-s.g in
    let n = c.in_ok-push_end.field-0 in
    let pushed = c.in_ok-push_end.ensures.pushed in
    let node = pushed.0 in
    let inv = c.loop-s.invariant in
    record {
      grown = subst (λ (x : Nodes). Begins c.args.g.now x) (sym pushed.3) (begins_pushed c.args.g.now g node inv.grown);
      formed = λ formed. subst (λ (x : Nodes). IsWellFormedGraph d x) (sym pushed.3) (well_formed_pushed d g node (inv.formed formed) pushed.2);
      defaults = subst (λ (x : Nodes). HasAllDefaults d ranks ctors c.args.base x) (sym pushed.3) (longer_defaults d ranks ctors c.args.base g (node ∷ []) inv.defaults);
      seconds = subst (λ (x : Nodes). HasSeconds d several ctors seconds c.len-second.result x (index + 1)) (sym pushed.3)
          (seconds_step d several ranks ctors seconds c.args.base are c.requires.several.long k (e.own_constructors d k) (e.own_selectors d k) (e.of_their_sorts d k) (e.of_their_constructors d k)
          (listed_choice d k (e.own_constructors d k) (e.own_selectors d k) (e.of_their_sorts d k) (e.of_their_constructors d k) ranks ctors c.requires.chosen)
          laws c.args.queue.now c.requires.queued g c.len-second.result index s n departure node c.len.ensures.closed at inv.count c.in_ok-push_end.ensures.number stored inv.seconds pushed.1);
      count = ap length pushed.3 ∙ omega (arith, length-append g (node ∷ []), inv.count);
    }

pub returns-clause-seconds : goal.returns-clause-seconds
returns-clause-seconds c = λ s derived.
    let few = rank_in_order c.args.several.now c.args.queue.now c.requires.queued s derived in
    c.loop-s.invariant.seconds s derived (omega (arith, few, c.loop-s-test.false))

pub returns-clause-room : goal.returns-clause-room
returns-clause-room c = λ s derived.
    let few = rank_in_order c.args.several.now c.args.queue.now c.requires.queued s derived in
    omega (arith, few, c.if-second-queue.false)

pub returns-clause-differ : goal.returns-clause-differ
returns-clause-differ c = λ s derived same.
    let d = c.args.sig.now in
    let laws : Agrees = record { always = c.agreement.ensures.always; turned = c.agreement.ensures.turned; grown = c.agreement.ensures.always_grown } in
    let several = c.args.several.now in
    let ranks = c.args.ranks.now in
    let few = rank_in_order several c.args.queue.now c.requires.queued s derived in
    let within : s < length d.sorts = subst (λ n. s < n) c.requires.several.long (derived_within several s derived) in
    let g = c.loop-s.g in
    let lacks = (c.loop-s.invariant.seconds s derived (omega (arith, few, c.loop-s-test.false))).lacks in
    lacks.3 (same_head_at laws lacks.0 lacks.1 (node_point g (node_of_sort c.args.base ranks s)) (node_point g (node_of_sort c.len-second.result several s)) same
    (default_sign d several ranks c.args.ctors.now c.args.seconds.now c.args.base c.requires.departures c.requires.several.long g c.loop-s.invariant.defaults lacks.0 s lacks.1 within lacks.2))
