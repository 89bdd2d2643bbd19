-- How far a derivation by rules has come.
use Rattle.std.specs.Prelude.{◌≡◌, ℕ, zero, suc, ◌<◌, ◌≤◌, List, [], ◌∷◌, length, Some, slice_get, get_or}
use Rattle.ct_card.specs.declared.chain.Rule.{Rule}
use Rattle.ct_card.specs.Rules.{AreGrounded, HaveStayed, IsOrder}

-- the head of each rule is below the count
abbrev pub AreHeadsBelow : ℕ → List Rule → Type 0
AreHeadsBelow count rules = (k : ℕ) (rule : Rule) → slice_get rules k ≡ Some rule → rule.head < count

-- and not below the first number
abbrev pub AreHeadsWithin : ℕ → ℕ → List Rule → Type 0
AreHeadsWithin first count rules = (k : ℕ) (rule : Rule) → slice_get rules k ≡ Some rule → (first ≤ rule.head) × (rule.head < count)

-- the ranks so far, and the order in which they were given: earlier ranks stay, each of the others is grounded, and none is
-- greater than what the order is long
pub record IsUnderWay (old : List ℕ) (rules : List Rule) (ranks order : List ℕ) : Type 0 where
  pub heads : (k : ℕ) (rule : Rule) → slice_get rules k ≡ Some rule → length old ≤ rule.head
  pub stayed : HaveStayed old ranks
  pub grounded : AreGrounded (length old) rules ranks
  pub bounded : (n : ℕ) → get_or ranks n 0 ≤ length order
  pub ordered : IsOrder ranks order

-- how many are not derived
abbrev pub missing_ranks : List ℕ → ℕ
missing_ranks [] = 0
missing_ranks (zero ∷ ranks) = suc (missing_ranks ranks)
missing_ranks (suc rank ∷ ranks) = missing_ranks ranks
