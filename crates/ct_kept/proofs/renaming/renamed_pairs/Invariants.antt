use Rattle.std.proofs.Common.{◌≡◌, map, take}
use Rattle.ct_restriction.specs.Renamed.{number_in}
use Rattle.ct_kept.specs.Lemmas.{renamed_pair}
use Rattle.ct_kept.proofs.renaming.renamed_pairs.Given as goal

abbrev pub invariant-loop-pair : goal.invariant-loop-pair
invariant-loop-pair l = l.made.items ≡ map (renamed_pair (number_in l.numbers.numbers)) (take l.pair-index l.pairs)
