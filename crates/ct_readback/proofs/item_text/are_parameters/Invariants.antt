use Rattle.std.proofs.Common.{◌≡◌, drop}
use Rattle.ct_sexpr.specs.View.{expressions_of}
use Rattle.ct_readback.specs.ItemText.{are_parameters}
use Rattle.ct_readback.proofs.item_text.are_parameters.Given as goal

abbrev pub invariant-loop-index : goal.invariant-loop-index
invariant-loop-index l = are_parameters l.index (expressions_of (drop l.index l.parameters)) ≡ are_parameters 0 (expressions_of l.parameters)
