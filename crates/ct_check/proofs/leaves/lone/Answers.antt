use Rattle.std.proofs.Common.{sym, ap, ◌∙◌}
use Rattle.ct_names.specs.Elaboration.{lone, lone_name}
use Rattle.ct_names.proofs.AnswerLemmas.{stops_along}
use Rattle.ct_check.specs.Trees.{sorted_of}
use Rattle.ct_check.proofs.leaves.lone.Goals as goal

pub returns-in-None : goal.returns-in-None
returns-in-None c =
    let d = c.args.sig.now in
    record { value = λ needs. stops_along needs d sorted_of _ _ c.lone_global.result (ap (λ o. lone d c.args.variables.now o) (c.in-Some.ensures.name d) ∙ ap (λ o. lone_name d c.in-Some.name.now o) (sym c.in-None.ensures.found)) (c.lone_global.ensures.value needs) }
