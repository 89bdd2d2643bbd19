use Rattle.std.proofs.Common.{arith}
use Rattle.ct_sat.proofs.VariableLemmas.{AreVariablesBelow-skip, AreVariablesBelow-push, AreVariables-all}
use Rattle.ct_sat.proofs.search.variables_of.Goals as goal
use Rattle.ct_sat.proofs.search.variables_of.Goals.{then-is_variable+in_ok-push, else-is_variable}

pub loop-number-preserved : goal.loop-number-preserved
loop-number-preserved c = elim c.if-is_variable.branch [
  | then-is_variable+in_ok-push w ↦ rw (w.variables-is, w.in_ok-push.ensures.items) (AreVariablesBelow-push c.args.table.now c.loop-number.number c.loop-number.variables.items c.loop-number.invariant (rw w.if-is_variable.true at c.is_variable.ensures.value))
  | else-is_variable w ↦ rw w.variables-is (AreVariablesBelow-skip c.args.table.now c.loop-number.number c.loop-number.variables.items c.loop-number.invariant (rw w.if-is_variable.false at c.is_variable.ensures.value))
]

pub returns : goal.returns
returns c = record { variables = AreVariables-all c.args.table.now c.loop-number.number c.loop-number.variables.items (omega (arith, c.len-number-end.ensures.count)) c.loop-number.invariant }
