use Rattle.std.proofs.Common.{sym, ◌∙◌}
use Rattle.ct_log.proofs.LookLemmas.{same_id}
use Rattle.ct_log.proofs.StepLemmas.{equal_sides-told}
use Rattle.ct_log.proofs.steps.equal_sides.Goals as goal

pub returns-else-ne : goal.returns-else-ne
returns-else-ne c = record {
  gives = equal_sides-told c.args.table.now c.args.given.now c.args.i c.in-Some.e c.equality.result (sym c.given_at.ensures.value ∙ c.in-Some.is) (same_id c.in-Some.e.right (record { 0 = 0 }) (sym c.ne.ensures ∙ c.if-ne.false)) c.equality.ensures.equality;
}
