-- What a check with assumptions comes to over the assertion stack.
use Rattle.std.specs.Prelude.{ℕ, List, All}
use Rattle.ct_sexpr.specs.Expression.{Expression}
use Rattle.ct_engine.specs.declared.verdict.Verdict.{Verdict}
use Rattle.ct_stack.specs.declared.assuming.Assumption.{Assumption as Assumed}
use Rattle.ct_stack.specs.Assuming.{Assumes, assuming, assumptions_seen, IsTruth}
use Rattle.ct_stack.specs.Stack.{Stack}
use Rattle.ct_step.specs.Refusal.{IsTooLarge}
use Rattle.ct_step.specs.Verdict.{ComesTo}

-- the terms assume this over the new stack, which has the sorts that they need, and this is the verdict on the assertions in force with
-- that, where so many decisions are allowed
pub record IsDecidedAssuming (old : Stack) (ts : List Expression) (budget : ℕ) (new : Stack) (assumed : List Assumed) (v : Verdict) : Type 0 where
  pub assumes : Assumes old ts old new (assumptions_seen assumed)
  pub sorted : All (IsTruth new.top.context.declarations) assumed
  pub right : ComesTo new.top.context (assuming new (assumptions_seen assumed)) budget v
  pub fits : (n : ℕ) → IsTooLarge new (assumptions_seen assumed) n → ⊥
