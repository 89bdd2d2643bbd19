use Rattle.std.proofs.Common.{◌≡◌, length, map, take}
use Rattle.ct_sorts.specs.Declarations.{Declarations}
use Rattle.ct_log.specs.declared.line.Step.TheVariants as step
use Rattle.ct_clauses.specs.Initial.{firsts}
use Rattle.ct_clauses.specs.Growth.{HaveGrown, AreSeen}
use Rattle.ct_clauses.proofs.inputs.push_inputs.Given as goal

abbrev pub invariant-loop-t : goal.invariant-loop-t
invariant-loop-t l = record {
  long : length l.marks.items ≡ length l.table;
  seen : AreSeen l.marks.items (take l.t-index l.asserts);
  grown : (d : Declarations) → HaveGrown d l.table l.asserts l.fn.lines.items l.lines.items (map step.Input (firsts (take l.t-index l.asserts)));
}
