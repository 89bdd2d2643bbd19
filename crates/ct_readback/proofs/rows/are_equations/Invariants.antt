use Rattle.std.proofs.Common.{◌≡◌, drop}
use Rattle.ct_sexpr.specs.View.{expressions_of}
use Rattle.ct_readback.specs.Rows.{are_equations}
use Rattle.ct_readback.proofs.rows.are_equations.Given as goal

abbrev pub invariant-loop-index : goal.invariant-loop-index
invariant-loop-index l = are_equations l.index (expressions_of (drop l.index l.equations)) ≡ are_equations 0 (expressions_of l.equations)
