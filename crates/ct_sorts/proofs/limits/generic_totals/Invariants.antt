use Rattle.ct_generics.specs.Denoted.{declared_of}
use Rattle.ct_sorts.proofs.TotalLemmas.{AreTotals}
use Rattle.ct_sorts.proofs.limits.generic_totals.Given as goal

abbrev pub invariant-loop-h : goal.invariant-loop-h
invariant-loop-h l = AreTotals (declared_of l.generics).heads l.spellings l.totals l.h
