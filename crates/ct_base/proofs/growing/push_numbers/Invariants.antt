use Rattle.std.proofs.Common.{◌≡◌, ◌++◌, map, take}
use Rattle.ct_restriction.specs.Renamed.{number_in}
use Rattle.ct_base.proofs.growing.push_numbers.Given as goal

abbrev pub invariant-loop-t : goal.invariant-loop-t
invariant-loop-t l = l.list.items ≡ l.fn.list.items ++ map (number_in l.made.numbers) (take l.t-index l.terms)
