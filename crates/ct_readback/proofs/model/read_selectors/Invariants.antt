use Rattle.std.proofs.Common.{◌≡◌, ◌+◌, length}
use Rattle.ct_sexpr.specs.View.{expressions_of}
use Rattle.ct_sorts.specs.Grown.{Begins}
use Rattle.ct_values.specs.WellFormed.{IsWellFormedGraph}
use Rattle.ct_readback.specs.ModelReads.{items_of}
use Rattle.ct_readback.specs.Progress.{AreSelectors, AreDefaults, first_offs}
use Rattle.ct_readback.proofs.model.read_selectors.Given as goal

abbrev pub invariant-loop-s : goal.invariant-loop-s
invariant-loop-s l =
    Begins l.fn.graph l.graph × IsWellFormedGraph l.sig l.graph × (l.place ≡ length l.sig.functions + length (first_offs l.sig l.s)) × AreDefaults l.sig l.sizes l.graph l.defaults.nodes.items
    × AreSelectors l.sig l.sizes l.graph (items_of (expressions_of l.items)) (length l.sig.functions) l.s l.tables.items
