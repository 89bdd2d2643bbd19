-- How the literals made true are stored: where each term stands, and which of them were decided.
use Rattle.std.specs.Prelude.{◌≡◌, ℕ, suc, ◌+◌, ◌<◌, ◌≤◌, ◌^◌, List, [], ◌∷◌, length, Option, None, Some, slice_get, Contains}
use Rattle.ct_terms.specs.declared.ids.Lit.{Lit}
use Rattle.ct_terms.specs.Literal.{opposite}
use Rattle.ct_sat.specs.declared.decided.Decided.{Decided}
use Rattle.ct_sat.specs.Assigned.{Assigned}
use Rattle.ct_sat.specs.State.{IsConsistent}
use Rattle.ct_sat.specs.declared.value.Value.{Value}
use Rattle.ct_sat.specs.declared.value.Value.TheVariants.{True, False, Unset}

-- how many terms stand nowhere
abbrev pub unset_count : List (Option ℕ) → ℕ
unset_count [] = 0
unset_count (None ∷ indices) = suc (unset_count indices)
unset_count (Some i ∷ indices) = unset_count indices

-- each literal has a reason or none beside it, and each term its index in the list
pub record AreIndexed (literals : List Lit) (reasons : List (Option ℕ)) (indices : List (Option ℕ)) : Type 0 where
  pub one_each : length reasons ≡ length literals
  pub indexed : (i : ℕ) (l : Lit) → slice_get literals i ≡ Some l → slice_get indices l.term.0 ≡ Some (Some i)
  pub found : (t i : ℕ) → slice_get indices t ≡ Some (Some i) → (l : Lit) × (slice_get literals i ≡ Some l) × (l.term.0 ≡ t)
  pub room : length literals + unset_count indices ≡ length indices
  pub few : length indices < 2 ^ 32

-- the decided ones are those without a reason, in order
pub record AreDecisions (literals : List Lit) (reasons : List (Option ℕ)) (decided : List Decided) : Type 0 where
  pub stand : (j : ℕ) (d : Decided) → slice_get decided j ≡ Some d → slice_get literals d.index ≡ Some d.literal
  pub in_order : (i j : ℕ) (d e : Decided) → i < j → slice_get decided i ≡ Some d → slice_get decided j ≡ Some e → d.index < e.index
  pub counted : (j : ℕ) (d : Decided) → slice_get decided j ≡ Some d → j ≤ d.index
  pub each : (i : ℕ) → slice_get reasons i ≡ Some None → (j : ℕ) × (d : Decided) × (slice_get decided j ≡ Some d) × (d.index ≡ i)

-- what always holds of a trail
pub record IsWhole (a : Assigned) : Type 0 where
  pub fits : length a.literals ≤ a.room
  pub few : a.room < 2 ^ 32
  pub consistent : IsConsistent a.literals
  pub decisions : AreDecisions a.literals a.reasons a.decided
  pub below : (i : ℕ) (l : Lit) → slice_get a.literals i ≡ Some l → l.term.0 < a.room

-- what is told of a literal is so where those of the list are true
abbrev pub IsValue : List Lit → Lit → Value → Type 0
IsValue set l True = Contains set l
IsValue set l False = Contains set (opposite l)
IsValue set l Unset = (Contains set l → ⊥) × (Contains set (opposite l) → ⊥)
