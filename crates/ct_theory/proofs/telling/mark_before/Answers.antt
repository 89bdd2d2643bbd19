use Rattle.std.proofs.Common.{◌-◌}
use Rattle.ct_theory.proofs.ReadyLemmas.{kept_if}
use Rattle.ct_theory.proofs.telling.mark_before.Goals as goal

pub returns : goal.returns
returns c = record { kept = kept_if c.marks.result.now c.args.classes.now.marks (c.args.count - 1) c.marks.ensures.value c.mark_at.result c.mark_at.ensures.value }
