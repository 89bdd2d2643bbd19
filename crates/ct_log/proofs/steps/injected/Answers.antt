use Rattle.std.proofs.Common.{sym, ◌∙◌}
use Rattle.ct_log.proofs.StepLemmas.{injected-told}
use Rattle.ct_log.proofs.steps.injected.Goals as goal

pub returns-in-Some : goal.returns-in-Some
returns-in-Some c = record {
  gives = injected-told c.args.table.now c.args.given.now c.args.i c.args.place c.in-Some.e c.arguments.result (sym c.given_at.ensures.value ∙ c.in-Some.is) c.arguments.ensures.arguments;
}
