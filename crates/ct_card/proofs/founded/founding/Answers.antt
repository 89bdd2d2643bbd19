use Rattle.std.proofs.Common.{◌≡◌, ◌≤◌, List, length, slice_get, Some, subst, arith}
use Rattle.ct_card.specs.Founding.{AreFoundingRules}
use Rattle.ct_card.proofs.FoundingLemmas.{founding_heads, founded_from}
use Rattle.ct_card.specs.declared.chain.Rule.{Rule}
use Rattle.ct_card.specs.Rules.{AreRanks}
use Rattle.ct_card.proofs.StayLemmas.{fewer_sorts}
use Rattle.ct_card.proofs.founded.founding.Goals as goal

pub overflow_cast-len : goal.overflow_cast-len
overflow_cast-len c =
    let few : length c.requires.earlier.0.sorts ≤ length c.args.sig.now.sorts = fewer_sorts c.args.sig.now c.requires.earlier.0 c.requires.earlier.1 in
    omega (arith, c.len.ensures, c.args.ranks.now.ok.0, c.requires.earlier.2.long, few, c.sorts-sorts.ensures.count, c.sorts-sorts.type_inv)

pub derive-requires-clause-heads : goal.derive-requires-clause-heads
derive-requires-clause-heads c = λ index rule at.
    let d = c.args.sig.now in
    let s = c.structure.ensures in
    let k = c.sorts-sorts.ensures.consistent in
    let e = c.requires.earlier.0 in
    let later = c.requires.earlier.1 in
    let old = c.args.ranks.now.items in
    let first : c.len.result ≡ length old = omega (arith, c.len.ensures, c.args.ranks.now.ok.0) in
    let rules = c.in_ok-rules.rules.items in
    let are = subst (λ n. AreFoundingRules d n (length d.sorts) rules) first c.in_ok-rules.ensures.rules in
    let h = founding_heads d k (s.own_constructors d k) (s.own_selectors d k) (s.of_their_sorts d k) (s.of_their_constructors d k) (length old) rules are index rule (subst (λ (l : List Rule). slice_get l index ≡ Some rule) c.deref.ensures.value at) in
    (h.0, omega (arith, h.1, c.sorts-sorts.ensures.count))

pub returns : goal.returns
returns c =
    let d = c.args.sig.now in
    let s = c.structure.ensures in
    let k = c.sorts-sorts.ensures.consistent in
    let e = c.requires.earlier.0 in
    let later = c.requires.earlier.1 in
    let old = c.args.ranks.now.items in
    let first : c.len.result ≡ length old = omega (arith, c.len.ensures, c.args.ranks.now.ok.0) in
    let rules = c.in_ok-rules.rules.items in
    let are = subst (λ n. AreFoundingRules d n (length d.sorts) rules) first c.in_ok-rules.ensures.rules in
    let ranks = c.derive.new.ranks.items in
    let made = subst (λ n. AreRanks rules old ranks n) c.sorts-sorts.ensures.count (subst (λ (l : List Rule). AreRanks l old ranks c.sorts-sorts.result) c.deref.ensures.value c.in_ok-derive.ensures.ranks) in
    record {
      founded = founded_from d k (s.own_constructors d k) (s.own_selectors d k) (s.of_their_sorts d k) (s.of_their_constructors d k) e later old c.args.order.now.items c.requires.earlier.2 rules ranks c.derive.new.order.items are made c.in_ok-derive.ensures.order;
      stayed = made.stayed;
    }
