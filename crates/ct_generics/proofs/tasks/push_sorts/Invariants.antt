use Rattle.std.proofs.Common.{◌≡◌, ◌++◌, map, reverse}
use Rattle.ct_generics.specs.declared.tasks.Task.TheVariants.{Add}
use Rattle.ct_generics.proofs.tasks.push_sorts.Given as goal

abbrev pub invariant-loop-id : goal.invariant-loop-id
invariant-loop-id l = map Add l.id-iterator.iter.rest.now ++ reverse l.tasks.items ≡ map Add l.ids ++ reverse l.initial.tasks.items
