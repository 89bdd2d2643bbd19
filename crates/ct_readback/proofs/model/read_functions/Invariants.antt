use Rattle.ct_sexpr.specs.View.{expressions_of}
use Rattle.ct_sorts.specs.Grown.{Begins}
use Rattle.ct_values.specs.WellFormed.{IsWellFormedGraph}
use Rattle.ct_readback.specs.ModelReads.{items_of}
use Rattle.ct_readback.specs.Progress.{AreFunctions}
use Rattle.ct_readback.proofs.model.read_functions.Given as goal

abbrev pub invariant-loop-f : goal.invariant-loop-f
invariant-loop-f l = Begins l.fn.graph l.graph × IsWellFormedGraph l.sig l.graph × AreFunctions l.sig l.graph (items_of (expressions_of l.items)) l.f l.tables.items
