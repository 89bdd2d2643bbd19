use Rattle.ct_terms.specs.Terms.{AreSorted}
use Rattle.test_classes.proofs.table.table_of.Given as goal

abbrev pub invariant-loop-part : goal.invariant-loop-part
invariant-loop-part l = AreSorted l.sig l.table.value
