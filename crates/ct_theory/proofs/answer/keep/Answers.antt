use Rattle.std.proofs.Common.{[], ◌∷◌, ◌++◌, sym, subst}
use Rattle.ct_congr.specs.State.{State, marked_now}
use Rattle.ct_theory.specs.Consulting.{KeepsForests}
use Rattle.ct_theory.proofs.MarkedLemmas.{IsSaturation-marked}
use Rattle.ct_theory.proofs.answer.keep.Goals as goal

pub returns-clause-saturation : goal.returns-clause-saturation
returns-clause-saturation c =
    let old = c.args.classes.now in
    IsSaturation-marked old c.mark.new.self (old.marks ++ marked_now old ∷ []) c.in_ok-mark.ensures.marked

pub returns-clause-forests : goal.returns-clause-forests
returns-clause-forests c =
    let old = c.args.classes.now in
    subst (λ (s : State). KeepsForests old s) (sym c.in_ok-mark.ensures.marked) (λ planted is. record { within = is.within; forest = is.forest; long = is.long })
