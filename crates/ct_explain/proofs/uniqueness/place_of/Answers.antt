use Rattle.std.proofs.Common.{arith}
use Rattle.ct_rules.specs.declared.equation.Equation.{Equation}
use Rattle.ct_explain.proofs.ListLemmas.{not_found-next, not_found}
use Rattle.ct_explain.proofs.uniqueness.place_of.Goals as goal

abbrev zeroth : Equation
zeroth = record { left = record { 0 = 0 }; right = record { 0 = 0 } }

pub loop-k-preserved : goal.loop-k-preserved
loop-k-preserved c =
    not_found-next c.args.equations.now c.loop-k.k (record { left = c.args.left; right = c.args.right }) zeroth c.loop-k-test.true c.if-is_of.ensures.other c.loop-k.invariant

pub returns-clause-none : goal.returns-clause-none
returns-clause-none c =
    not_found c.args.equations.now c.loop-k.k (record { left = c.args.left; right = c.args.right }) (λ h. omega (arith, h, c.loop-k-test.false)) c.loop-k.invariant
