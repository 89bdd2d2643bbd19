-- What every value of congruence classes keeps.
use Rattle.std.specs.Prelude.{Bool, List, Option, Contains}
use Rattle.ct_sorts.specs.Declarations.{Declarations}
use Rattle.ct_terms.specs.declared.ids.TermId.{TermId}
use Rattle.ct_terms.specs.declared.ids.Lit.{Lit}
use Rattle.ct_terms.specs.Terms.{Terms, AreSorted}
use Rattle.ct_terms.specs.Literal.{IsStripped}
use Rattle.ct_rules.specs.declared.equation.Equation.{Equation}
use Rattle.ct_rules.specs.Derivation.{AreAmong, IsHypothesis}
use Rattle.ct_congr.specs.declared.merge.Merge.{Merge}
use Rattle.ct_congr.specs.Partition.{InOneClass}
use Rattle.ct_congr.specs.Rules.{AreSingleSorts}
use Rattle.ct_congr.specs.Sound.{IsSound}

-- the classes are sound, over a well-sorted table; the hypotheses are over stripped Boolean terms; what they
-- state and what was given holds in them
pub record AreHeld (d : Declarations) (terms : Terms) (single : List Bool) (hyps : List Lit) (given : List Equation) (reps : List TermId) (cons : List (Option TermId)) (merges : List Merge) : Type 0 where
  pub sound : IsSound d terms hyps given reps cons merges
  pub sorted : AreSorted d terms
  pub sorts : AreSingleSorts d single
  pub stripped : (l : Lit) → Contains hyps l → IsStripped terms l.term
  pub states : (x y : TermId) → IsHypothesis hyps x y → InOneClass reps x y
  pub gives : (x y : TermId) → AreAmong given x y → InOneClass reps x y
