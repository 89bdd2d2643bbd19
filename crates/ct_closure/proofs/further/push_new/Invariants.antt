use Rattle.ct_sorts.specs.Grown.{Begins}
use Rattle.ct_closure.proofs.FurtherLemmas.{ArePushed}
use Rattle.ct_closure.proofs.further.push_new.Given as goal

abbrev pub invariant-loop-t : goal.invariant-loop-t
invariant-loop-t l = record { grown : Begins l.fn.list.items l.list.items; pushed : ArePushed l.before l.terms l.fn.list.items l.list.items l.t-index }
