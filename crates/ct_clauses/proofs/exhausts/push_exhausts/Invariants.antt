use Rattle.std.proofs.Common.{List, map, take}
use Rattle.ct_terms.specs.declared.ids.TermId.{TermId}
use Rattle.ct_log.specs.declared.line.Step.TheVariants as step
use Rattle.ct_clauses.specs.Growth.{HaveGrown}
use Rattle.ct_clauses.proofs.exhausts.push_exhausts.Given as goal

abbrev pub invariant-loop-t : goal.invariant-loop-t
invariant-loop-t l = (asserts : List TermId) → HaveGrown l.sig l.table asserts l.fn.lines.items l.lines.items (map step.Exhaust (take l.t-index l.split))
