use Rattle.ct_names.proofs.FormLemmas.{are_attributes-some}
use Rattle.ct_names.proofs.forms.are_attributes.Goals as goal

pub loop-left-init : goal.loop-left-init
loop-left-init c = λ d. are_attributes-some d c.args.exprs.now c.is_empty.result c.is_empty.ensures c.if-is_empty.false
