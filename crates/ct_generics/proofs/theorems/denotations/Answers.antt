use Rattle.ct_generics.proofs.DenotedLemmas.{expression_at-is, declared_of-is, sorts_of-is, AreSorts-stay}
use Rattle.ct_generics.proofs.OccurrenceLemmas.{rows_stand}
use Rattle.ct_generics.proofs.theorems.denotations.Goals as goal

pub returns : goal.returns
returns c = record { expression = expression_at-is; declared = declared_of-is; sorts = sorts_of-is; rows = rows_stand; stay = AreSorts-stay }
