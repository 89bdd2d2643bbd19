use Rattle.std.proofs.Common.{sym, ◌∙◌}
use Rattle.ct_log.proofs.LookLemmas.{IsClash-told}
use Rattle.ct_log.proofs.closing.is_clash.Goals as goal

pub returns-in-Some : goal.returns-in-Some
returns-in-Some c = record {
  clash = IsClash-told c.args.table.now c.args.given.now c.args.step c.in-Some.e c.differ.result (sym c.given_at.ensures.value ∙ c.in-Some.is) c.differ.ensures.differ;
}
