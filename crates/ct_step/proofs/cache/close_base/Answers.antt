use Rattle.std.proofs.Common.{ap}
use Rattle.ct_stack.specs.Stack.{Context}
use Rattle.ct_step.proofs.CheckLemmas.{exact}
use Rattle.ct_step.proofs.cache.close_base.Goals as goal

pub close_over-requires-clause-exact : goal.close_over-requires-clause-exact
close_over-requires-clause-exact c =
    exact c.args.stack.now c.scope.result.now.sig c.core_terms.result.0.now c.core_terms.result.1.now (ap (λ (x : Context). x.declarations) c.scope.ensures.value) c.core_terms.ensures.held
