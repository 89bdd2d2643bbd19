use Rattle.std.proofs.Common.{◌≡◌, ◌++◌, map, take}
use Rattle.ct_sexpr.specs.Written.{written_after}
use Rattle.ct_values.specs.Value.{reference, values_of}
use Rattle.ct_value_text.specs.ValueText.{expressions}
use Rattle.ct_value_text.proofs.graph_text.write_constructor.Given as goal

abbrev pub invariant-loop-child : goal.invariant-loop-child
invariant-loop-child l =
    l.out.items ≡ l.initial.out.items ++ written_after (expressions l.sig (values_of (map reference (take l.child-index l.children))))
