use Rattle.std.proofs.Common.{Option, MatchOption, subst}
use Rattle.ct_card.specs.declared.departure.Step.{Step}
use Rattle.ct_card.specs.Departures.{HasSmallFields, IsLargeStep}
use Rattle.ct_card.proofs.DepartureLemmas.{not_infinite, layer_from}
use Rattle.ct_card.proofs.layers.layer.Goals as goal

pub returns-in_ok-found-in-Some : goal.returns-in_ok-found-in-Some
returns-in_ok-found-in-Some c =
    let d = c.args.sig.now in
    let e = c.structure.ensures in
    let k = c.sorts.ensures.consistent in
    let s = c.args.s.0 in
    let small = c.args.small.now in
    let large : IsLargeStep d small s c.in-Some.step = subst (λ (o : Option Step). MatchOption o (HasSmallFields d small s) (IsLargeStep d small s)) c.in-Some.is c.in_ok-step.ensures.found in
    record {
      layer = λ infinite other. layer_from d k (e.own_constructors d k) (e.own_selectors d k) (e.of_their_sorts d k) (e.of_their_constructors d k) c.args.several.now c.requires.several small c.requires.small s c.in_ok-found-in-Some.found c.in-Some.step c.requires.inside infinite large c.in_ok-found-in-Some.ensures.step c.in_ok-found-in-Some.ensures.departs c.in_ok-found-in-Some.ensures.apart c.in_ok-found-in-Some.ensures.nowhere c.in_ok-found-in-Some.ensures.digit;
    }

pub returns-in-None : goal.returns-in-None
returns-in-None c =
    let d = c.args.sig.now in
    let e = c.structure.ensures in
    let k = c.sorts.ensures.consistent in
    let s = c.args.s.0 in
    let small = c.args.small.now in
    let none : HasSmallFields d small s = subst (λ (o : Option Step). MatchOption o (HasSmallFields d small s) (IsLargeStep d small s)) c.in-None.is c.in_ok-step.ensures.found in
    record {
      layer = λ infinite other. absurd (not_infinite d k (e.own_constructors d k) (e.own_selectors d k) (e.of_their_sorts d k) (e.of_their_constructors d k) c.args.several.now c.requires.several small c.requires.small s c.requires.inside other none infinite);
    }
