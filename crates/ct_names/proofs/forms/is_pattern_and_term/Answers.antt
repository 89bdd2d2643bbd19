use Rattle.std.proofs.Common.{◌∙◌, arith}
use Rattle.ct_names.proofs.FormLemmas.{is_case-fewer, is_case-two, is_case-more}
use Rattle.ct_names.proofs.forms.is_pattern_and_term.Goals as goal

pub returns-in-empty : goal.returns-in-empty
returns-in-empty c = record { value = λ d m. is_case-fewer d m c.args.items.now (omega arith) }

pub returns-in-len2 : goal.returns-in-len2
returns-in-len2 c = record { value = λ d m. c.is_pattern.ensures.value d ∙ is_case-two d m c.args.items.now c.pattern-item.result (omega arith) (omega arith) c.pattern-item.is }

pub returns-in-len3-up : goal.returns-in-len3-up
returns-in-len3-up c = record { value = λ d m. is_case-more d m c.args.items.now (omega arith) }
