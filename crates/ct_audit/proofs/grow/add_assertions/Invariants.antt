use Rattle.std.proofs.Common.{map, length}
use Rattle.ct_formulas.specs.TreeFormula.{formula_of}
use Rattle.ct_stack.specs.Held.{context_in}
use Rattle.ct_audit.specs.Growing.{IsGrowing, AreBoolean}
use Rattle.ct_audit.proofs.grow.add_assertions.Given as goal

abbrev pub invariant-loop-rest : goal.invariant-loop-rest
invariant-loop-rest l = record {
  growing : IsGrowing (context_in l.scope) (map formula_of l.asserts) (map formula_of l.rest) l.initial.table l.table l.numbers.items;
  booleans : AreBoolean (context_in l.scope) (map formula_of l.rest);
}

abbrev pub decreases-loop-rest : goal.decreases-loop-rest
decreases-loop-rest l = length l.rest
