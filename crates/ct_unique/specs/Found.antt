-- Pairs of constructor terms that are to be equal, and how they grow.
use Rattle.std.specs.Prelude.{◌≡◌, ℕ, zero, suc, ◌+◌, ◌<◌, ◌≤◌, ◌⊎◌, Bool, List, ◌++◌, length, Some, slice_get, is_some, if◌then◌else◌}
use Rattle.indexmap.specs.IndexMap.{IndexMap, get}
use Rattle.ct_terms.specs.declared.ids.TermId.{TermId}
use Rattle.ct_rules.specs.declared.equation.Equation.{Equation}
use Rattle.ct_rules.specs.Uniqueness.{IsPairMatched}
use Rattle.ct_congr.specs.State.{State, AreEqual, IsConstructorTerm}
use Rattle.ct_unique.specs.declared.found.Key.{Key}
use Rattle.ct_unique.specs.contracts.found.KeyPartialEq.TheImpl as derived
use Rattle.ct_unique.specs.Nodes.{term}
use Rattle.ct_unique.specs.Partition.{block_of}
use Rattle.ct_unique.specs.Reached.{IsReached}

-- the derived test of two keys
abbrev pub same_key : Key → Key → Bool
same_key = derived.eq-value.it

-- two terms as a key
abbrev pub key_of : ℕ → ℕ → Key
key_of left right = record { left = term left; right = term right }

-- at the index of a key stands a pair of terms of its classes, and each pair stands at the index of its classes
pub record IsIndexed {S : Type 0} (state : State) (places : IndexMap Key ℕ S) (pairs : List Equation) : Type 0 where
  pub stored : (key : Key) (place : ℕ) → get same_key places key ≡ Some place → (pair : Equation) × (slice_get pairs place ≡ Some pair) × (slice_get state.reps pair.left.0 ≡ Some key.left) × (slice_get state.reps pair.right.0 ≡ Some key.right)
  pub listed : (place : ℕ) (pair : Equation) (key : Key) → slice_get pairs place ≡ Some pair → slice_get state.reps pair.left.0 ≡ Some key.left → slice_get state.reps pair.right.0 ≡ Some key.right → get same_key places key ≡ Some place

-- no two of the pairs are of the same classes, left with left and right with right
abbrev pub AreOnce : State → List Equation → Type 0
AreOnce state pairs = (i j : ℕ) (e f : Equation) → slice_get pairs i ≡ Some e → slice_get pairs j ≡ Some f → AreEqual state e.left f.left → AreEqual state e.right f.right → i ≡ j

-- how many numbers below this one do not pass the test
abbrev pub missing : (ℕ → Bool) → ℕ → ℕ
missing test zero = 0
missing test (suc n) = (if test n then 0 else 1) + missing test n

-- how many pairs, of a number below the second and one below the first, do not pass the test
abbrev pub missing_pairs : (ℕ → ℕ → Bool) → ℕ → ℕ → ℕ
missing_pairs test n zero = 0
missing_pairs test n (suc m) = missing (test m) n + missing_pairs test n m

-- how many pairs of terms have no index
abbrev pub room : {S : Type 0} → State → IndexMap Key ℕ S → ℕ
room state places = missing_pairs (λ l r. is_some (get same_key places (key_of l r))) (length state.terms) (length state.terms)

-- a pair of the classes of these terms stands in the list
pub record StandsFor (state : State) (pairs : List Equation) (x y : TermId) : Type 0 where
  pub pair : Equation
  pub place : ℕ
  pub at : slice_get pairs place ≡ Some pair
  pub left : AreEqual state x pair.left
  pub right : AreEqual state pair.right y

-- the pair was added at the end, or one of its classes was there
pub record IsAdded {S T : Type 0} (state : State) (old : IndexMap Key ℕ S) (before : List Equation) (new : IndexMap Key ℕ T) (after : List Equation) (pair : Equation) : Type 0 where
  pub rest : List Equation
  pub grown : after ≡ before ++ rest
  pub only : (k : ℕ) (e : Equation) → slice_get after k ≡ Some e → (slice_get before k ≡ Some e) ⊎ (e ≡ pair)
  pub stands : StandsFor state after pair.left pair.right
  pub indexed : IsIndexed state new after
  pub spent : room state new + length after ≤ room state old + length before

-- two constructor terms of one block
pub record IsOpen (state : State) (blocks : List ℕ) (pair : Equation) : Type 0 where
  pub left : IsConstructorTerm state.terms pair.left
  pub right : IsConstructorTerm state.terms pair.right
  pub same : block_of blocks pair.left ≡ block_of blocks pair.right

-- pairs of constructor terms of one block, each of which is needed, were added at the end
pub record IsMore {S T : Type 0} (state : State) (blocks : List ℕ) (IsNeeded : Equation → Type 0) (old : IndexMap Key ℕ S) (before : List Equation) (new : IndexMap Key ℕ T) (after : List Equation) : Type 0 where
  pub rest : List Equation
  pub grown : after ≡ before ++ rest
  pub only : (k : ℕ) (e : Equation) → slice_get after k ≡ Some e → (slice_get before k ≡ Some e) ⊎ (IsOpen state blocks e × IsNeeded e)
  pub indexed : IsIndexed state new after
  pub spent : room state new + length after ≤ room state old + length before

-- the asked pair comes first, each is reached from it, and of those before an index the arguments are matched
pub record IsUnderWay {S : Type 0} (state : State) (blocks : List ℕ) (asked : Equation) (places : IndexMap Key ℕ S) (pairs : List Equation) (next : ℕ) : Type 0 where
  pub indexed : IsIndexed state places pairs
  pub first : slice_get pairs 0 ≡ Some asked
  pub opens : (k : ℕ) (e : Equation) → slice_get pairs k ≡ Some e → IsOpen state blocks e
  pub reached : (k : ℕ) (e : Equation) → slice_get pairs k ≡ Some e → IsReached state asked e
  pub done : (k : ℕ) (e : Equation) → k < next → slice_get pairs k ≡ Some e → IsPairMatched state.terms (AreEqual state) pairs e.left e.right
  pub within : next ≤ length pairs
