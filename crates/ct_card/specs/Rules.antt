-- Rules over numbers: where all numbers of its body are derived, so is its head. What can be derived, and in which order.
use Rattle.std.specs.Prelude.{◌≡◌, ℕ, suc, ◌<◌, ◌≤◌, List, length, Some, slice_get, get_or}
use Rattle.ct_card.specs.declared.chain.Rule.{Rule}

-- the number is derived: its rank is not 0
abbrev pub IsDerived : List ℕ → ℕ → Type 0
IsDerived ranks n = 0 < get_or ranks n 0

-- each number of the body is derived
abbrev pub IsReady : List ℕ → Rule → Type 0
IsReady ranks rule = (i b : ℕ) → slice_get rule.body.items i ≡ Some b → IsDerived ranks b

-- no rule derives more
abbrev pub IsComplete : List Rule → List ℕ → Type 0
IsComplete rules ranks = (k : ℕ) (rule : Rule) → slice_get rules k ≡ Some rule → IsReady ranks rule → IsDerived ranks rule.head

-- a rule with this head, whose body was derived with lower ranks
pub record IsGrounded (rules : List Rule) (ranks : List ℕ) (n : ℕ) : Type 0 where
  pub rule : Rule
  pub cause : ℕ
  pub stated : slice_get rules cause ≡ Some rule
  pub head : rule.head ≡ n
  pub ready : IsReady ranks rule
  pub lower : (i b : ℕ) → slice_get rule.body.items i ≡ Some b → get_or ranks b 0 < get_or ranks n 0

-- each derived number from the first on was derived by such a rule
abbrev pub AreGrounded : ℕ → List Rule → List ℕ → Type 0
AreGrounded first rules ranks = (n : ℕ) → first ≤ n → IsDerived ranks n → IsGrounded rules ranks n

-- the numbers that have a rank in the first list have it in the second
abbrev pub HaveStayed : List ℕ → List ℕ → Type 0
HaveStayed old ranks = (n : ℕ) → n < length old → get_or ranks n 0 ≡ get_or old n 0

-- the ranks of all that the rules derive from earlier ranks, which stay
pub record AreRanks (rules : List Rule) (old ranks : List ℕ) (count : ℕ) : Type 0 where
  pub long : length ranks ≡ count
  pub stayed : HaveStayed old ranks
  pub complete : IsComplete rules ranks
  pub grounded : AreGrounded (length old) rules ranks

-- the numbers in the order of their ranks, which count from 1
pub record IsOrder (ranks order : List ℕ) : Type 0 where
  pub at : (i n : ℕ) → slice_get order i ≡ Some n → get_or ranks n 0 ≡ suc i
  pub of : (i n : ℕ) → get_or ranks n 0 ≡ suc i → slice_get order i ≡ Some n
