-- Marks of classes: how much stood when each was set, what held then, and going back to one.
use Rattle.std.specs.Prelude.{◌≡◌, ℕ, ◌+◌, ◌≤◌, Bool, List, [], ◌∷◌, ◌++◌, take, map, reverse, length, get_or, Some, slice_get}
use Rattle.ct_sorts.specs.Declarations.{Declarations}
use Rattle.ct_terms.specs.declared.ids.TermId.{TermId}
use Rattle.ct_terms.specs.declared.ids.Lit.{Lit}
use Rattle.ct_terms.specs.Terms.{Terms}
use Rattle.ct_rules.specs.declared.equation.Equation.{Equation}
use Rattle.ct_equivalence.specs.Grouping.{Grouping, Groupings}
use Rattle.ct_congr.specs.declared.merge.Merge.{Merge}
use Rattle.ct_congr.specs.declared.merge.ClassMark.{ClassMark}
use Rattle.ct_congr.specs.declared.level.Level.{Level}
use Rattle.ct_congr.specs.Partition.{InOneClass}
use Rattle.ct_congr.specs.Rules.{AreRulesClosed}
use Rattle.ct_congr.specs.State.{Marked, IsClashOf}
use Rattle.ct_congr.specs.Held.{AreHeld}
use Rattle.ct_congr.specs.Joined.{AreJoined}
use Rattle.ct_congr.specs.Covered.{Keys, AreKeys, IsCovered}

-- what users see of a level
abbrev pub mark_of : Level → ClassMark
mark_of level = record { merges = level.merges }

-- the groupings before each merge and after the last one, the first one first: what stands at a number is the grouping of so
-- many merges
abbrev pub history : Groupings → List Grouping
history parts = reverse (parts.now ∷ parts.past)

-- the grouping of so many merges
abbrev pub grouping_at : Groupings → ℕ → Grouping
grouping_at parts merges = get_or (history parts) merges parts.now

-- what stood at the level
unfoldable pub marked_at : List Lit → List Equation → List Merge → Groupings → Level → Marked
marked_at hyps given merges parts level = record {
  hypotheses = take level.hypotheses hyps;
  given = take level.given given;
  merges = take level.merges merges;
  reps = (grouping_at parts level.merges).reps;
  cons = (grouping_at parts level.merges).cons;
}

-- what stood at each level
unfoldable pub marks_of : List Lit → List Equation → List Merge → Groupings → List Level → List Marked
marks_of hyps given merges parts levels = map (marked_at hyps given merges parts) levels

-- no rule applies to the classes, and no class has two terms of different constructors
pub record AreQuiet (d : Declarations) (terms : Terms) (reps : List TermId) : Type 0 where
  pub closed : AreRulesClosed d terms (InOneClass reps)
  pub one : (a b : TermId) → IsClashOf terms reps a b → ⊥

-- at the level the classes were sound and quiet, the rules were covered and nothing waited; all that there was then still
-- stands
pub record IsMarked (d : Declarations) (terms : Terms) (single : List Bool) (hyps : List Lit) (given : List Equation) (merges : List Merge) (keys : Keys) (groupings : List Grouping) (level : Level) : Type 0 where
  pub few_merges : level.merges ≤ length merges
  pub few_hypotheses : level.hypotheses ≤ length hyps
  pub few_given : level.given ≤ length given
  pub few_keys : level.keys ≤ length keys
  pub grouping : Grouping
  pub stands : slice_get groupings level.merges ≡ Some grouping
  pub held : AreHeld d terms single (take level.hypotheses hyps) (take level.given given) grouping.reps grouping.cons (take level.merges merges)
  pub keyed : AreKeys grouping.reps (take level.keys keys)
  pub covered : IsCovered d terms grouping.reps grouping.cons (take level.keys keys) (AreJoined grouping.reps [])
  pub quiet : AreQuiet d terms grouping.reps

-- no more stood at the earlier level than at the later one
pub record IsWithin (earlier later : Level) : Type 0 where
  pub merges : earlier.merges ≤ later.merges
  pub hypotheses : earlier.hypotheses ≤ later.hypotheses
  pub given : earlier.given ≤ later.given
  pub keys : earlier.keys ≤ later.keys

-- the levels do not fall
abbrev pub AreRising : List Level → Type 0
AreRising levels = (j k : ℕ) (earlier later : Level) → slice_get levels j ≡ Some earlier → slice_get levels k ≡ Some later → j ≤ k → IsWithin earlier later

-- each level is marked, and there is a grouping before each merge
pub record AreMarked (d : Declarations) (terms : Terms) (single : List Bool) (hyps : List Lit) (given : List Equation) (merges : List Merge) (keys : Keys) (parts : Groupings) (levels : List Level) : Type 0 where
  pub long : length parts.past ≡ length merges
  pub rising : AreRising levels
  pub each : (k : ℕ) (level : Level) → slice_get levels k ≡ Some level → IsMarked d terms single hyps given merges keys (history parts) level

-- the level is the first one after so many merges, with this number
pub record IsFirstLevel (levels : List Level) (merges : ℕ) (k : ℕ) (level : Level) : Type 0 where
  pub stands : slice_get levels k ≡ Some level
  pub long : level.merges ≡ merges
  pub first : (j : ℕ) (other : Level) → slice_get levels j ≡ Some other → other.merges ≡ merges → k ≤ j

-- the groupings are those that there were, without those of the last unions, and so many unions are left
pub record IsUndone (old new : Groupings) (unions : ℕ) : Type 0 where
  pub gone : List Grouping
  pub groupings_are : (old.now ∷ old.past) ≡ gone ++ (new.now ∷ new.past)
  pub long : length new.past ≡ unions

-- all is cut back to the level with this number
pub record IsBack (hyps hyps_left : List Lit) (given given_left : List Equation) (merges merges_left : List Merge) (keys keys_left : Keys) (parts parts_left : Groupings) (levels levels_left : List Level) (k : ℕ) (level : Level) : Type 0 where
  pub stands : slice_get levels k ≡ Some level
  pub hypotheses_are : hyps_left ≡ take level.hypotheses hyps
  pub given_are : given_left ≡ take level.given given
  pub merges_are : merges_left ≡ take level.merges merges
  pub keys_are : keys_left ≡ take level.keys keys
  pub undone : IsUndone parts parts_left level.merges
  pub levels_are : levels_left ≡ take (k + 1) levels
