use Rattle.std.proofs.Common.{◌≡◌, take}
use Rattle.ct_generics.proofs.copying.copy_synonyms.Given as goal

abbrev pub invariant-loop-synonym : goal.invariant-loop-synonym
invariant-loop-synonym l = l.copied.items ≡ take l.synonym-index l.synonyms
