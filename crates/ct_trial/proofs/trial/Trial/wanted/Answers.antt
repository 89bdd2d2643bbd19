use Rattle.std.proofs.Common.{◌≡◌, ℕ, length, vec_len, subst, ◌∙◌, arith}
use Rattle.ct_trial.specs.Trial.{IsOver}
use Rattle.ct_trial.proofs.TrialLemmas.{over_by}
use Rattle.ct_trial.proofs.trial.Trial.wanted.Goals as goal

pub value-requires-clause-below : goal.value-requires-clause-below
value-requires-clause-below c =
    let nodes = c.args.self.now.nodes in
    let count : vec_len nodes ≡ length nodes.items = omega (arith, nodes.ok.0) in
    subst (λ (n : ℕ). IsOver c.args.table.now n c.in-Some.u) (c.len-known.ensures ∙ count)
    (over_by c.args.table.now c.in-Some.u c.core.result.now c.len-known.result c.core.ensures.value (c.if-not-is_over.ensures.below cc))
