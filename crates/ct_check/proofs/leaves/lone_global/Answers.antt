use Rattle.std.proofs.Common.{sym, ap}
use Rattle.ct_names.specs.Elaboration.{lone_global}
use Rattle.ct_names.proofs.AnswerLemmas.{stops_along}
use Rattle.ct_check.specs.Trees.{sorted_of}
use Rattle.ct_check.proofs.leaves.lone_global.Goals as goal

pub returns-in-Some : goal.returns-in-Some
returns-in-Some c =
    let d = c.args.sig.now in
    record { value = λ needs. stops_along needs d sorted_of _ _ c.lone_symbol.result (ap (λ o. lone_global d c.args.name.now o) (sym c.in-Some.ensures.value)) (c.lone_symbol.ensures.value needs) }
