use Rattle.std.proofs.Common.{◌≡◌, length}
use Rattle.ct_sexpr.specs.View.{expressions_of}
use Rattle.ct_sorts.specs.Declarations.{Declarations}
use Rattle.ct_names.specs.Forms.{are_bindings}
use Rattle.ct_names.specs.Elaboration.{parts_of}
use Rattle.ct_names.proofs.forms.are_bindings.Given as goal

abbrev pub invariant-loop-left : goal.invariant-loop-left
invariant-loop-left l = (d : Declarations) → are_bindings (parts_of d (expressions_of l.left)) ≡ are_bindings (parts_of d (expressions_of l.exprs))

abbrev pub decreases-loop-left : goal.decreases-loop-left
decreases-loop-left l = length l.left
