use Rattle.std.proofs.Common.{take}
use Rattle.ct_clauses.specs.Initial.{gates_from}
use Rattle.ct_clauses.specs.Growth.{HaveGates}
use Rattle.ct_clauses.proofs.gates.push_terms.Given as goal

abbrev pub invariant-loop-n : goal.invariant-loop-n
invariant-loop-n l = HaveGates l.table l.fn.lines.items l.lines.items (gates_from 0 (take l.n l.table))
