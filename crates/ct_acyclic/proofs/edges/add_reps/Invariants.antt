use Rattle.std.proofs.Common.{take}
use Rattle.ct_acyclic.specs.Edges.{AddsReps}
use Rattle.ct_acyclic.proofs.edges.add_reps.Given as goal

abbrev pub invariant-loop-t : goal.invariant-loop-t
invariant-loop-t l = AddsReps l.classes.reps (take l.t-index l.terms) l.initial.kids.items l.kids.items
