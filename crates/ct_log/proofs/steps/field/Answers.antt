use Rattle.ct_log.proofs.StepLemmas.{field-told}
use Rattle.ct_log.proofs.steps.field.Goals as goal

pub returns : goal.returns
returns c = record {
  field = field-told c.args.sig.now c.args.table.now c.args.s c.args.con c.sel_ctor.result c.sel_place.result c.argument.result c.sel_ctor.ensures.value c.sel_place.ensures.value c.argument.ensures.argument;
}
