use Rattle.std.proofs.Common.{◌≡◌, map, take}
use Rattle.ct_restriction.specs.Renamed.{number_in}
use Rattle.ct_restriction.proofs.renaming.renamed_args.Given as goal

abbrev pub invariant-loop-t : goal.invariant-loop-t
invariant-loop-t l = l.made ≡ map (number_in l.numbers) (take l.t-index l.args)
