use Rattle.ct_log.specs.Equations.{equation}
use Rattle.ct_log.proofs.LookLemmas.{none_gives, not_told}
use Rattle.ct_log.proofs.StepLemmas.{Equated, equated-none, equated-other, equated-found}
use Rattle.ct_log.proofs.steps.equated.Goals as goal

pub returns-in-None : goal.returns-in-None
returns-in-None c = record {
  gives = λ x y. none_gives (Equated c.args.table.now c.args.given.now c.args.t c.args.i x y) (equation x y) (equated-none c.args.table.now c.args.given.now c.args.t c.args.i x y c.in-None.ensures.equality);
}

pub returns-then-not-gave : goal.returns-then-not-gave
returns-then-not-gave c =
    let has = (c.equality.ensures.equality c.in-Some.e.left c.in-Some.e.right).1 c.in-Some.is in
    record {
      gives = λ x y. none_gives (Equated c.args.table.now c.args.given.now c.args.t c.args.i x y) (equation x y)
          (equated-other c.args.table.now c.args.given.now c.args.t c.args.i c.in-Some.e x y has (not_told c.gave.result _ c.gave.ensures.gave c.if-not-gave.true));
    }

pub returns-else-not-gave : goal.returns-else-not-gave
returns-else-not-gave c =
    let has = (c.equality.ensures.equality c.in-Some.e.left c.in-Some.e.right).1 c.in-Some.is in
    record { gives = equated-found c.args.table.now c.args.given.now c.args.t c.args.i c.in-Some.e has (c.gave.ensures.gave.0 c.if-not-gave.false) }
