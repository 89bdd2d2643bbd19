use Rattle.std.proofs.Common.{◌∙◌}
use Rattle.ct_generics.proofs.SpineLemmas.{top_head, top_param}
use Rattle.ct_generics.proofs.spine.top.Goals as goal

pub returns-in-Head : goal.returns-in-Head
returns-in-Head c = record { top = λ nodes n e at none stands. top_head nodes n c.in-Head.h e (at ∙ cc) stands }

pub returns-in-Param : goal.returns-in-Param
returns-in-Param c = record { top = λ nodes n e at none stands. top_param nodes n c.in-Param.field-0 e (at ∙ cc) stands }
