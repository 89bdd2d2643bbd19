use Rattle.ct_terms.specs.Terms.{AreSorted}
use Rattle.test_engine.proofs.keep.show_checks.Given as goal

abbrev pub invariant-lists : goal.invariant-lists
invariant-lists l = AreSorted l.scope.sig l.kept.value.table
