use Rattle.std.proofs.Common.{◌≡◌, map, take}
use Rattle.ct_restriction.specs.Renamed.{number_in}
use Rattle.ct_kept.specs.Lemmas.{renamed_hop}
use Rattle.ct_kept.proofs.renaming.renamed_hops.Given as goal

abbrev pub invariant-loop-hop : goal.invariant-loop-hop
invariant-loop-hop l = l.made.items ≡ map (renamed_hop (number_in l.numbers.numbers)) (take l.hop-index l.hops)
