use Rattle.ct_sorts.specs.Grown.{Extends}
use Rattle.ct_cases.proofs.declarations.declare_all.Given as goal

-- what was declared so far extends what was there
abbrev pub invariant-loop-step : goal.invariant-loop-step
invariant-loop-step l = Extends l.sig l.fn.sig
