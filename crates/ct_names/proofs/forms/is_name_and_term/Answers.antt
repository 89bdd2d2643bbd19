use Rattle.std.proofs.Common.{◌∙◌, arith}
use Rattle.ct_names.proofs.FormLemmas.{is_binding-fewer, is_binding-two, is_binding-more}
use Rattle.ct_names.proofs.forms.is_name_and_term.Goals as goal

pub returns-in-empty : goal.returns-in-empty
returns-in-empty c = record { value = λ d m. is_binding-fewer d m c.args.items.now (omega arith) }

pub returns-in-len2 : goal.returns-in-len2
returns-in-len2 c = record { value = λ d m. c.is_name.ensures.value d ∙ is_binding-two d m c.args.items.now c.name-item.result (omega arith) (omega arith) c.name-item.is }

pub returns-in-len3-up : goal.returns-in-len3-up
returns-in-len3-up c = record { value = λ d m. is_binding-more d m c.args.items.now (omega arith) }
