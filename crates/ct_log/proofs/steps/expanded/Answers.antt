use Rattle.std.proofs.Common.{sym, ◌∙◌}
use Rattle.ct_log.specs.Equations.{equation}
use Rattle.ct_log.proofs.LookLemmas.{none_gives, same_id, not_told}
use Rattle.ct_log.proofs.StepLemmas.{Expanded, expanded-none, expanded-other, expanded-found}
use Rattle.ct_log.proofs.steps.expanded.Goals as goal

pub returns-in-None-test : goal.returns-in-None-test
returns-in-None-test c = record {
  gives = λ x y. none_gives (Expanded c.args.sig.now c.args.table.now c.args.given.now c.args.i c.args.con x y) (equation x y)
      (expanded-none c.args.sig.now c.args.table.now c.args.given.now c.args.i c.args.con c.in-Some.e x y (sym c.given_at.ensures.value ∙ c.in-Some.is) c.in-None-test.ensures.test);
}

pub returns-then-not-is_construction : goal.returns-then-not-is_construction
returns-then-not-is_construction c =
    let has = (c.test.ensures.test c.in-Some-test.c c.in-Some-test.u).1 c.in-Some-test.is in
    let at = sym c.given_at.ensures.value ∙ c.in-Some.is in
    record {
      gives = λ x y. none_gives (Expanded c.args.sig.now c.args.table.now c.args.given.now c.args.i c.args.con x y) (equation x y)
          (expanded-other c.args.sig.now c.args.table.now c.args.given.now c.args.i c.args.con c.in-Some.e c.in-Some-test.c c.in-Some-test.u x y at has (not_told c.is_construction.result _ c.is_construction.ensures.construction c.if-not-is_construction.true));
    }

pub returns-else-not-is_construction : goal.returns-else-not-is_construction
returns-else-not-is_construction c =
    let has = (c.test.ensures.test c.in-Some-test.c c.in-Some-test.u).1 c.in-Some-test.is in
    let at = sym c.given_at.ensures.value ∙ c.in-Some.is in
    record {
      gives = expanded-found c.args.sig.now c.args.table.now c.args.given.now c.args.i c.args.con c.in-Some.e c.in-Some-test.c c.in-Some-test.u at (same_id c.in-Some.e.right (record { 0 = 0 }) (sym c.ne.ensures ∙ c.if-ne.false)) has (c.is_construction.ensures.construction.0 c.if-not-is_construction.false);
    }
