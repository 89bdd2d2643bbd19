use Rattle.ct_log.specs.Equations.{equation}
use Rattle.ct_log.proofs.LookLemmas.{none_gives, not_told}
use Rattle.ct_log.proofs.StepLemmas.{Negated, negated-none, negated-other, negated-true, negated-false}
use Rattle.ct_log.proofs.steps.negation.Goals as goal

pub returns-in-None : goal.returns-in-None
returns-in-None c = record {
  gives = λ x y. none_gives (Negated c.args.table.now c.args.given.now c.args.t c.args.i x y) (equation x y) (negated-none c.args.table.now c.args.given.now c.args.t c.args.i x y c.in-None.ensures.negated);
}

pub returns-then-gave : goal.returns-then-gave
returns-then-gave c =
    let has = (c.negated.ensures.negated c.in-Some.a).1 c.in-Some.is in
    record { gives = negated-true c.args.table.now c.args.given.now c.args.t c.args.i c.in-Some.a has (c.gave.ensures.gave.0 c.if-gave.true) }

pub returns-then-gave-2 : goal.returns-then-gave-2
returns-then-gave-2 c =
    let has = (c.negated.ensures.negated c.in-Some.a).1 c.in-Some.is in
    record { gives = negated-false c.args.table.now c.args.given.now c.args.t c.args.i c.in-Some.a has (c.gave-in-Some.ensures.gave.0 c.if-gave-2.true) }

pub returns-else-gave-2 : goal.returns-else-gave-2
returns-else-gave-2 c =
    let has = (c.negated.ensures.negated c.in-Some.a).1 c.in-Some.is in
    record {
      gives = λ x y. none_gives (Negated c.args.table.now c.args.given.now c.args.t c.args.i x y) (equation x y)
          (negated-other c.args.table.now c.args.given.now c.args.t c.args.i c.in-Some.a x y has (not_told c.gave.result _ c.gave.ensures.gave c.if-gave.false) (not_told c.gave-in-Some.result _ c.gave-in-Some.ensures.gave c.if-gave-2.false));
    }
