use Rattle.std.proofs.Common.{◌≤◌, List, length, refl, sym, subst, arith}
use Rattle.ct_sorts.specs.Grown.{Begins}
use Rattle.ct_terms.specs.declared.ids.Lit.{Lit}
use Rattle.ct_theory.proofs.ReadyLemmas.{begins_itself}
use Rattle.ct_theory.proofs.telling.renew.Goals as goal

pub returns-in_ok-begin_anew-clause-begins : goal.returns-in_ok-begin_anew-clause-begins
returns-in_ok-begin_anew-clause-begins c =
    let hyps = c.args.classes.now.hypotheses in
    subst (λ (ls : List Lit). Begins ls hyps) (sym c.in_ok-begin_anew.ensures.hypotheses) (hyps, refl)

pub returns-in_ok-begin_anew-clause-few : goal.returns-in_ok-begin_anew-clause-few
returns-in_ok-begin_anew-clause-few c =
    subst (λ (ls : List Lit). length ls ≤ c.args.most) (sym c.in_ok-begin_anew.ensures.hypotheses) (omega arith)

pub returns-else-hypotheses-most-clause-begins : goal.returns-else-hypotheses-most-clause-begins
returns-else-hypotheses-most-clause-begins c = begins_itself c.args.classes.now.hypotheses
