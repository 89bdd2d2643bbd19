use Rattle.std.proofs.Common.{◌≡◌, ◌||◌, ◌==◌, length, reverse}
use Rattle.std.specs.List.{list_all}
use Rattle.ct_formulas.specs.Compiled.{is_among}
use Rattle.ct_occurrence.proofs.fitting.are_covered.Given as goal

abbrev pub invariant-loop-rest : goal.invariant-loop-rest
invariant-loop-rest l = list_all (λ k. (k.0 == l.c.0) || is_among (reverse l.earlier) k) l.all ≡ list_all (λ k. (k.0 == l.c.0) || is_among (reverse l.earlier) k) l.rest

abbrev pub decreases-loop-rest : goal.decreases-loop-rest
decreases-loop-rest l = length l.rest
