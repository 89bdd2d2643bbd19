use Rattle.std.proofs.Common.{◌≡◌, ◌++◌, take}
use Rattle.std.specs.List.{flat_map}
use Rattle.ct_kept.specs.Lemmas.{pair_terms}
use Rattle.ct_kept.proofs.terms.push_pairs.Given as goal

abbrev pub invariant-loop-pair : goal.invariant-loop-pair
invariant-loop-pair l = l.terms.items ≡ l.initial.terms.items ++ flat_map pair_terms (take l.pair-index l.pairs)
