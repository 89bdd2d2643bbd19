use Rattle.std.proofs.Common.{◌∙◌}
use Rattle.std.proofs.lemmas.Bool.{OnFalse_at}
use Rattle.ct_card.proofs.RankLemmas.{IsUnderWay-start}
use Rattle.ct_card.proofs.chain.derive.Goals as goal

pub loop-init : goal.loop-init
loop-init c = record {
  long = c.in_ok-chain.ensures.long ∙ c.in_ok-push_zeros.ensures.long;
  under_way = c.in_ok-chain.ensures.under_way c.args.ranks.now.items (IsUnderWay-start c.args.ranks.now.items c.args.rules.now c.push_zeros.new.ranks.items c.args.order.now.items c.in_ok-push_zeros.ensures.same c.requires.order (λ k rule at. (c.requires.heads k rule at).0));
}

pub loop-preserved : goal.loop-preserved
loop-preserved c = record {
  long = c.in_ok-round.ensures.long ∙ c.loop.invariant.long;
  under_way = c.in_ok-round.ensures.under_way c.args.ranks.now.items c.loop.invariant.under_way;
}

pub returns-clause-ranks : goal.returns-clause-ranks
returns-clause-ranks c =
    let under = c.in_ok-round.ensures.under_way c.args.ranks.now.items c.loop.invariant.under_way in
    record {
      long = c.in_ok-round.ensures.long ∙ c.loop.invariant.long;
      stayed = under.stayed;
      complete = OnFalse_at c.if-branch.false c.in_ok-round.ensures.stable;
      grounded = under.grounded;
    }

pub returns-clause-order : goal.returns-clause-order
returns-clause-order c = (c.in_ok-round.ensures.under_way c.args.ranks.now.items c.loop.invariant.under_way).ordered
