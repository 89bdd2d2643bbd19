use Rattle.std.proofs.Common.{List, [], sym, subst}
use Rattle.ct_log.specs.declared.rules.Hop.{Hop}
use Rattle.ct_log.specs.Closing.{IsCycleBy}
use Rattle.ct_theory.specs.Steps.{Adds}
use Rattle.ct_theory.proofs.cycle.cycle.Goals as goal

pub conflict_of-requires-clause-adds : goal.conflict_of-requires-clause-adds
conflict_of-requires-clause-adds c =
    let state = c.args.classes.now in
    subst (λ (hops : List Hop). Adds state [] c.explain_hops.new.proof.steps.items (λ given. IsCycleBy state.declarations state.terms given hops)) (sym c.new-2.ensures.value) c.in_ok-explained.ensures.explained
