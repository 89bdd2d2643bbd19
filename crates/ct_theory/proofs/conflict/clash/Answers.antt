use Rattle.std.proofs.Common.{List, [], subst}
use Rattle.ct_log.specs.declared.rules.EqStep.{EqStep}
use Rattle.ct_log.specs.Equations.{Gave}
use Rattle.ct_log.specs.Closing.{IsClash}
use Rattle.ct_explain.specs.Explained.{IsExplained}
use Rattle.ct_theory.proofs.StepLemmas.{Adds-via, Adds-explained, Closes-clash}
use Rattle.ct_theory.proofs.conflict.clash.Goals as goal

pub conflict_of-requires-clause-adds : goal.conflict_of-requires-clause-adds
conflict_of-requires-clause-adds c =
    let state = c.args.classes.now in
    let a = c.args.a in
    let b = c.args.b in
    let n = c.in_ok-step.step in
    let steps = c.explain.new.into.steps.items in
    let explained : IsExplained state [] steps n a b = subst (λ (old : List EqStep). IsExplained state old steps n a b) c.new.ensures.items c.in_ok-step.ensures.explained in
    Adds-via state [] steps (λ given. Gave given n a b) (λ given. IsClash state.terms given n) (λ given gave. Closes-clash state n a b c.requires.clash given gave) (Adds-explained state [] steps n a b explained)
