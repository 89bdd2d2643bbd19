use Rattle.std.proofs.Common.{◌≡◌, drop}
use Rattle.ct_sexpr.specs.View.{expressions_of}
use Rattle.ct_readback.specs.ItemText.{say_parameters}
use Rattle.ct_readback.proofs.item_text.say_parameters.Given as goal

abbrev pub invariant-loop-index : goal.invariant-loop-index
invariant-loop-index l = say_parameters l.sig l.index (drop l.index l.args) (expressions_of (drop l.index l.parameters)) ≡ say_parameters l.sig 0 l.args (expressions_of l.parameters)
