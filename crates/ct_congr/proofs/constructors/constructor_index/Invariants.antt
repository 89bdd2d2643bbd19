use Rattle.ct_congr.specs.Index.{IsConIndex}
use Rattle.ct_congr.proofs.constructors.constructor_index.Given as goal

abbrev pub invariant-loop-t : goal.invariant-loop-t
invariant-loop-t l = IsConIndex l.table l.reps l.t l.index
