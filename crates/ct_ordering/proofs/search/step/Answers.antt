use Rattle.std.proofs.Common.{sym, ◌∙◌, arith}
use Rattle.ct_ordering.specs.declared.search.Colour.TheVariants.{White, Grey, Black}
use Rattle.ct_ordering.specs.Graph.{graph}
use Rattle.ct_ordering.proofs.PointLemmas.{kid_within, place_within}
use Rattle.ct_ordering.proofs.SearchLemmas.{top-within}
use Rattle.ct_ordering.proofs.StepLemmas.{colour-read, step-finished, step-descended, step-closed, step-passed}
use Rattle.ct_ordering.proofs.search.step.Goals as goal

pub kid_at-requires-clause-within : goal.kid_at-requires-clause-within
kid_at-requires-clause-within c = top-within (graph c.args.starts.now c.args.kids.now) c.args.search.now.colours.items c.args.search.now.order.items c.args.stack.now.items c.args.top c.requires.under_way

pub finish-requires : goal.finish-requires
finish-requires c =
    let below = top-within (graph c.args.starts.now c.args.kids.now) c.args.search.now.colours.items c.args.search.now.order.items c.args.stack.now.items c.args.top c.requires.under_way in
    record { within = omega (arith, below, c.requires.under_way.long) }

pub returns-in_default : goal.returns-in_default
returns-in_default c = record {
  step = step-finished (graph c.args.starts.now c.args.kids.now) c.args.search.now.colours.items c.args.search.now.order.items c.args.stack.now.items c.args.top c.requires.under_way c.finish.new.search.colours.items c.finish.new.search.order.items c.finish.result
      (sym c.kid_at.ensures.value ∙ c.in_default.is) c.finish.ensures.found c.finish.ensures.colours c.finish.ensures.order;
}

pub index-requires : goal.index-requires
index-requires c =
    let below = kid_within c.args.starts.now c.args.kids.now c.requires.formed c.args.top.point c.args.top.place c.in-Some.kid (sym c.kid_at.ensures.value ∙ c.in-Some.is) in
    omega (arith, below, c.requires.under_way.long)

pub descend-requires : goal.descend-requires
descend-requires c =
    let below = kid_within c.args.starts.now c.args.kids.now c.requires.formed c.args.top.point c.args.top.place c.in-Some.kid (sym c.kid_at.ensures.value ∙ c.in-Some.is) in
    record { within = omega (arith, below, c.requires.under_way.long) }

pub pass-requires : goal.pass-requires
pass-requires c =
    let below = place_within c.args.starts.now c.args.kids.now c.args.top.point c.args.top.place c.in-Some.kid (sym c.kid_at.ensures.value ∙ c.in-Some.is) in
    record { fits = omega (arith, below) }

pub returns-in-White : goal.returns-in-White
returns-in-White c =
    let colours = c.args.search.now.colours.items in
    let kid = c.in-Some.kid in
    let has = sym c.kid_at.ensures.value ∙ c.in-Some.is in
    let below = kid_within c.args.starts.now c.args.kids.now c.requires.formed c.args.top.point c.args.top.place kid has in
    record {
      step = step-descended (graph c.args.starts.now c.args.kids.now) colours c.args.search.now.order.items c.args.stack.now.items c.args.top c.requires.under_way c.descend.new.search.colours.items c.descend.new.search.order.items c.descend.new.stack.items kid c.descend.result
          has (colour-read colours kid c.index.result.now White (omega (arith, below, c.requires.under_way.long)) c.index.ensures c.in-White.is) c.descend.ensures.found c.descend.ensures.colours c.descend.ensures.order c.descend.ensures.stack;
    }

pub returns-in-Grey : goal.returns-in-Grey
returns-in-Grey c =
    let colours = c.args.search.now.colours.items in
    let kid = c.in-Some.kid in
    let has = sym c.kid_at.ensures.value ∙ c.in-Some.is in
    let below = kid_within c.args.starts.now c.args.kids.now c.requires.formed c.args.top.point c.args.top.place kid has in
    record {
      step = step-closed (graph c.args.starts.now c.args.kids.now) colours c.args.search.now.order.items c.args.stack.now.items c.args.top c.requires.under_way c.close.new.stack.items kid c.in-Grey.depth c.close.result
          has (colour-read colours kid c.index.result.now (Grey c.in-Grey.depth) (omega (arith, below, c.requires.under_way.long)) c.index.ensures c.in-Grey.is) c.close.ensures.found c.close.ensures.stack;
    }

pub returns-in-Black : goal.returns-in-Black
returns-in-Black c =
    let colours = c.args.search.now.colours.items in
    let kid = c.in-Some.kid in
    let has = sym c.kid_at.ensures.value ∙ c.in-Some.is in
    let below = kid_within c.args.starts.now c.args.kids.now c.requires.formed c.args.top.point c.args.top.place kid has in
    record {
      step = step-passed (graph c.args.starts.now c.args.kids.now) colours c.args.search.now.order.items c.args.stack.now.items c.args.top c.requires.under_way c.pass.new.stack.items kid c.pass.result
          has (colour-read colours kid c.index.result.now Black (omega (arith, below, c.requires.under_way.long)) c.index.ensures c.in-Black.is) c.pass.ensures.found c.pass.ensures.stack;
    }
