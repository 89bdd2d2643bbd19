use Rattle.std.proofs.Common.{◌≡◌, map, take}
use Rattle.ct_values.specs.Quotient.{numbered_child}
use Rattle.ct_values.proofs.minimising.numbers_of.Given as goal

abbrev pub invariant-loop-n : goal.invariant-loop-n
invariant-loop-n l = l.list.items ≡ map (numbered_child l.numbers) (take l.n-index l.nodes)
