-- What always holds of congruence classes, and how one more merge changes them.
use Rattle.std.specs.Prelude.{◌≡◌, ℕ, suc, ◌+◌, ◌<◌, ◌≤◌, ◌⊎◌, ◌==◌, List, [], ◌∷◌, length, Option, Some, None, slice_get, Contains, if◌then◌else◌}
use Rattle.ct_sorts.specs.Declarations.{Declarations}
use Rattle.ct_terms.specs.declared.ids.TermId.{TermId}
use Rattle.ct_terms.specs.declared.ids.Lit.{Lit}
use Rattle.ct_terms.specs.Terms.{Terms}
use Rattle.ct_rules.specs.declared.equation.Equation.{Equation}
use Rattle.ct_rules.specs.Derivation.{Derives}
use Rattle.ct_congr.specs.declared.merge.Merge.{Merge}
use Rattle.ct_congr.specs.Partition.{InOneClass}
use Rattle.ct_congr.specs.Merges.{AreConnected, AreJustified}
use Rattle.ct_congr.specs.State.{IsConstructorTerm}

-- how many terms from a number on are their own representatives
abbrev pub roots_from : ℕ → List TermId → ℕ
roots_from n [] = 0
roots_from n (r ∷ rs) = (if r.0 == n then 1 else 0) + roots_from (suc n) rs

-- how many classes there are
unfoldable pub roots : List TermId → ℕ
roots reps = roots_from 0 reps

-- the constructor term that is stored for a class, or that there is none
abbrev pub IsConOf : Terms → List TermId → TermId → Option TermId → Type 0
IsConOf terms reps r None = (t : TermId) → slice_get reps t.0 ≡ Some r → IsConstructorTerm terms t → ⊥
IsConOf terms reps r (Some c) = (slice_get reps c.0 ≡ Some r) × IsConstructorTerm terms c

-- at each representative stands a constructor term of its class, if there is any
abbrev pub AreCons : Terms → List TermId → List (Option TermId) → Type 0
AreCons terms reps cons = (r : TermId) (c : Option TermId) → slice_get reps r.0 ≡ Some r → slice_get cons r.0 ≡ Some c → IsConOf terms reps r c

-- the classes of the two terms are one now, and nothing else changed
pub record IsJoined (old new : List TermId) (a b : TermId) : Type 0 where
  pub long : length new ≡ length old
  pub keeps : (x y : TermId) → InOneClass old x y → InOneClass new x y
  pub joins : InOneClass new a b
  pub cases : (x y : TermId) → InOneClass new x y → InOneClass old x y ⊎ ((InOneClass old x a × InOneClass old b y) ⊎ (InOneClass old x b × InOneClass old a y))
  pub no_more : roots new ≤ roots old
  pub fewer : (InOneClass old a b → ⊥) → roots new < roots old

-- what merges have made of classes: each is justified and derives, and the classes are the least equivalence that holds them
pub record IsSound (d : Declarations) (terms : Terms) (hyps : List Lit) (given : List Equation) (reps : List TermId) (cons : List (Option TermId)) (merges : List Merge) : Type 0 where
  pub long : length reps ≡ length terms
  pub cons_long : length cons ≡ length terms
  pub stored : AreCons terms reps cons
  pub connected : (x y : TermId) → InOneClass reps x y → AreConnected merges x y
  pub held : (m : Merge) → Contains merges m → InOneClass reps m.left m.right
  pub justified : AreJustified d terms hyps merges
  pub derives : (m : Merge) → Contains merges m → Derives d terms hyps given m.left m.right
