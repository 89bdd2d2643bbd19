use Rattle.std.proofs.Common.{◌-◌, List, length, get_or, take, drop, subst}
use Rattle.ct_lemmas.proofs.Prefixes.{nothing_left, rest-step}
use Rattle.ct_equivalence.specs.declared.places.Place.{Place}
use Rattle.ct_equivalence.proofs.DigestLemmas.{IsUnderWay, IsUnderWay-first, IsUnderWay-next, AreExchanged-last}
use Rattle.ct_equivalence.proofs.digests.exchange.Goals as goal

abbrev zeroth : Place
zeroth = record { term = record { 0 = 0 }; index = 0 }

pub loop-rest-init : goal.loop-rest-init
loop-rest-init c = IsUnderWay-first c.args.old c.args.new c.args.places.now c.args.digests.now.items

pub loop-rest-preserved : goal.loop-rest-preserved
loop-rest-preserved c =
    let rest = c.loop-rest.rest.now in
    let all = c.args.places.now in
    let first = rest-step rest zeroth c.in-len1-up.len_at_least in
    let before = c.args.digests.now.items in
    IsUnderWay-next c.args.old c.args.new all (get_or rest 0 zeroth) (take (length rest - 1) (drop 1 rest)) before c.loop-rest.digests.items c.exchange_one.new.digests.items
    (subst (λ (ps : List Place). IsUnderWay c.args.old c.args.new all ps before c.loop-rest.digests.items) first c.loop-rest.invariant)
    c.exchange_one.ensures.exchanged

pub returns : goal.returns
returns c =
    let rest = c.loop-rest.rest.now in
    let all = c.args.places.now in
    let before = c.args.digests.now.items in
    record {
      exchanged = AreExchanged-last c.args.old c.args.new all before c.loop-rest.digests.items
          (subst (λ (ps : List Place). IsUnderWay c.args.old c.args.new all ps before c.loop-rest.digests.items) (nothing_left rest c.in_default.len_below) c.loop-rest.invariant);
    }
