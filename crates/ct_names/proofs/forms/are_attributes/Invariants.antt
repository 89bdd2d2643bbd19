use Rattle.std.proofs.Common.{◌≡◌, length}
use Rattle.ct_sexpr.specs.View.{expressions_of}
use Rattle.ct_sorts.specs.Declarations.{Declarations}
use Rattle.ct_names.specs.Forms.{are_attributes, are_attributes_from}
use Rattle.ct_names.specs.Elaboration.{parts_of}
use Rattle.ct_names.proofs.forms.are_attributes.Given as goal

abbrev pub invariant-loop-left : goal.invariant-loop-left
invariant-loop-left l = (d : Declarations) → are_attributes_from l.takes_value (parts_of d (expressions_of l.left)) ≡ are_attributes (parts_of d (expressions_of l.exprs))

abbrev pub decreases-loop-left : goal.decreases-loop-left
decreases-loop-left l = length l.left
