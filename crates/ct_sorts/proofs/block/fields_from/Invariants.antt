use Rattle.std.proofs.Common.{◌≡◌}
use Rattle.ct_generics.specs.Denoted.{declared_of}
use Rattle.ct_sorts.proofs.OwnPushLemmas.{AreFieldsFrom}
use Rattle.ct_sorts.proofs.block.fields_from.Given as goal

abbrev pub invariant-loop-i : goal.invariant-loop-i
invariant-loop-i l = AreFieldsFrom (declared_of l.generics).heads l.fn.table l.table l.fn.first l.i l.fields.items
