use Rattle.std.proofs.Common.{◌≡◌, drop}
use Rattle.ct_sexpr.specs.View.{expressions_of}
use Rattle.ct_readback.specs.Rows.{are_all_tests}
use Rattle.ct_readback.proofs.rows.are_all_tests.Given as goal

abbrev pub invariant-loop-index : goal.invariant-loop-index
invariant-loop-index l = are_all_tests l.parameters (expressions_of (drop l.index l.tests)) ≡ are_all_tests l.parameters (expressions_of l.tests)
