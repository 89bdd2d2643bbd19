use Rattle.std.proofs.Common.{◌≡◌, ◌++◌, map, reverse}
use Rattle.ct_value_text.specs.declared.tree_text.Item.TheVariants.{Node}
use Rattle.ct_value_text.proofs.tree_text.push_all.Given as goal

abbrev pub invariant-loop-n : goal.invariant-loop-n
invariant-loop-n l = map Node l.n-iterator.iter.rest.now ++ reverse l.stack.items ≡ map Node l.nodes ++ reverse l.initial.stack.items
