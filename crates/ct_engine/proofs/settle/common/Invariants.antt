use Rattle.std.proofs.Common.{◌-◌, length}
use Rattle.ct_theory.specs.Consulting.{HaveInCommon}
use Rattle.ct_engine.proofs.settle.common.Given as goal

abbrev pub invariant-literals : goal.invariant-literals
invariant-literals l = HaveInCommon l.count l.told l.trail

abbrev pub decreases-literals : goal.decreases-literals
decreases-literals l = length l.told - l.count
