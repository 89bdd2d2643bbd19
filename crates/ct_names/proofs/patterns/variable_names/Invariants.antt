use Rattle.std.proofs.Common.{◌≡◌, map, take}
use Rattle.ct_sexpr.specs.View.{expressions_of}
use Rattle.ct_sorts.specs.Declarations.{Declarations}
use Rattle.ct_names.specs.Patterns.{variable_names}
use Rattle.ct_names.specs.Elaboration.{parts_of}
use Rattle.ct_names.specs.Bounds.{held_name}
use Rattle.ct_names.proofs.patterns.variable_names.Given as goal

abbrev pub invariant-loop-expr : goal.invariant-loop-expr
invariant-loop-expr l = (d : Declarations) → map held_name l.names.items ≡ variable_names (parts_of d (expressions_of (take l.expr-index l.exprs)))
