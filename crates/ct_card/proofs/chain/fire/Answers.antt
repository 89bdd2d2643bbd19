use Rattle.std.proofs.Common.{◌≡◌, ℕ, ◌+◌, List, [], ◌∷◌, ◌++◌, length, get_or, subst, arith}
use Rattle.std.proofs.lemmas.Grind.{get_or_default_zero}
use Rattle.ct_card.specs.Rules.{IsReady}
use Rattle.ct_card.proofs.RankLemmas.{IsUnderWay-fired, missing_ranks-set}
use Rattle.ct_card.proofs.chain.fire.Goals as goal

pub returns-clause-under_way : goal.returns-clause-under_way
returns-clause-under_way c = λ old rules k stated before.
    let ranks = c.args.ranks.now.items in
    let rule = c.args.rule.now in
    let order = c.args.order.now.items in
    let default = get_or_default_zero ranks rule.head c.index.result.now c.requires.head in
    let fresh : get_or ranks rule.head 0 ≡ 0 = cc in
    let ready : IsReady ranks rule = subst (λ (xs : List ℕ). IsReady xs rule) c.deref.ensures.value (c.is_ready.ensures.ready.0 c.if-not-is_ready.false) in
    let new : c.push.new.self.items ≡ order ++ rule.head ∷ [] = c.in_ok-push.ensures.items in
    let rank : c.len.result ≡ length order + 1 = omega (arith, c.in_ok-push.ensures.len, c.len.ensures) in
    rw (new, rank) (IsUnderWay-fired old rules ranks order k rule stated before c.requires.head fresh ready)

pub returns-clause-fewer : goal.returns-clause-fewer
returns-clause-fewer c = λ _.
    let ranks = c.args.ranks.now.items in
    let rule = c.args.rule.now in
    let default = get_or_default_zero ranks rule.head c.index.result.now c.requires.head in
    let fresh : get_or ranks rule.head 0 ≡ 0 = cc in
    missing_ranks-set ranks rule.head c.len.result c.requires.head fresh (omega (arith, c.in_ok-push.ensures.len, c.len.ensures))
