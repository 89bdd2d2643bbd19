use Rattle.std.proofs.Common.{◌≡◌, ◌≤◌, ◌++◌, ℕ, List, Option, length, vec_capacity}
use Rattle.ct_terms.specs.declared.ids.Lit.{Lit}
use Rattle.ct_sat.specs.Trail.{AreIndexed}
use Rattle.ct_sat.proofs.trail.cut.Given as goal

abbrev pub invariant-loop-literals : goal.invariant-loop-literals
invariant-loop-literals l = record {
  indexed : AreIndexed l.literals.items l.reasons.items l.indices.items;
  literals : (rest : List Lit) × (l.initial.literals.items ≡ l.literals.items ++ rest);
  reasons : (rest : List (Option ℕ)) × (l.initial.reasons.items ≡ l.reasons.items ++ rest);
  within : l.index ≤ length l.literals.items;
  room : length l.indices.items ≡ length l.initial.indices.items;
  literals_capacity : vec_capacity l.literals ≡ vec_capacity l.initial.literals;
  reasons_capacity : vec_capacity l.reasons ≡ vec_capacity l.initial.reasons;
}

abbrev pub decreases-loop-literals : goal.decreases-loop-literals
decreases-loop-literals l = length l.literals.items
