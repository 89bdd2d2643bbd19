use Rattle.std.proofs.Common.{sym, ◌∙◌}
use Rattle.std.proofs.lemmas.Option.{none-some}
use Rattle.ct_log.specs.Equations.{equation}
use Rattle.ct_log.proofs.LookLemmas.{none_gives, same_id, other_id}
use Rattle.ct_log.proofs.StepLemmas.{Tested, tested-other, tested-none, tested-found}
use Rattle.ct_log.proofs.steps.tested.Goals as goal

pub returns-in-None : goal.returns-in-None
returns-in-None c = record {
  gives = λ x y. none_gives (Tested c.args.table.now c.args.given.now c.args.t c.args.i x y) (equation x y)
      (λ h. absurd (none-some (h.1.tested, h.1.argument) ((c.in-None.ensures.test h.1.tested h.1.argument).0 h.1.stands)));
}

pub returns-then-ne : goal.returns-then-ne
returns-then-ne c =
    let has = (c.test.ensures.test c.in-Some.c c.in-Some.u).1 c.in-Some.is in
    let at = sym c.given_at.ensures.value ∙ c.in-Some-given_at.is in
    record {
      gives = λ x y. none_gives (Tested c.args.table.now c.args.given.now c.args.t c.args.i x y) (equation x y)
          (tested-other c.args.table.now c.args.given.now c.args.t c.args.i c.in-Some.c c.in-Some.u c.in-Some-given_at.e x y has at (other_id c.in-Some-given_at.e.left c.in-Some.u (sym c.ne.ensures ∙ c.if-ne.true)));
    }

pub returns-in-None-constructor : goal.returns-in-None-constructor
returns-in-None-constructor c =
    let has = (c.test.ensures.test c.in-Some.c c.in-Some.u).1 c.in-Some.is in
    let at = sym c.given_at.ensures.value ∙ c.in-Some-given_at.is in
    record {
      gives = λ x y. none_gives (Tested c.args.table.now c.args.given.now c.args.t c.args.i x y) (equation x y)
          (tested-none c.args.table.now c.args.given.now c.args.t c.args.i c.in-Some.c c.in-Some.u c.in-Some-given_at.e x y has at c.in-None-constructor.ensures.built);
    }

pub returns-in-Some-constructor : goal.returns-in-Some-constructor
returns-in-Some-constructor c =
    let has = (c.test.ensures.test c.in-Some.c c.in-Some.u).1 c.in-Some.is in
    let at = sym c.given_at.ensures.value ∙ c.in-Some-given_at.is in
    let built = (c.constructor.ensures.built c.in-Some-constructor.d).1 c.in-Some-constructor.is in
    record {
      gives = rw c.truth.ensures.value
          (tested-found c.args.table.now c.args.given.now c.args.t c.args.i c.in-Some.c c.in-Some-constructor.d c.in-Some.u c.in-Some-given_at.e c.eq.result has at (same_id c.in-Some-given_at.e.left c.in-Some.u (sym c.ne.ensures ∙ c.if-ne.false)) built c.eq.ensures);
    }
