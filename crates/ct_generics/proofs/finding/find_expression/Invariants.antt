use Rattle.std.proofs.Common.{◌≡◌, length}
use Rattle.ct_generics.specs.Found.{AreFoundAs}
use Rattle.ct_generics.proofs.finding.find_expression.Given as goal

abbrev pub invariant-loop-k : goal.invariant-loop-k
invariant-loop-k l = record { long : length l.found.items ≡ l.k; found : AreFoundAs l.target l.source l.found.items }
