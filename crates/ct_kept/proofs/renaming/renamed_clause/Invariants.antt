use Rattle.std.proofs.Common.{◌≡◌, map, take}
use Rattle.ct_restriction.specs.Renamed.{number_in}
use Rattle.ct_kept.specs.Lemmas.{renamed_literal}
use Rattle.ct_kept.proofs.renaming.renamed_clause.Given as goal

abbrev pub invariant-loop-literal : goal.invariant-loop-literal
invariant-loop-literal l = l.made.items ≡ map (renamed_literal (number_in l.numbers.numbers)) (take l.literal-index l.clause)
