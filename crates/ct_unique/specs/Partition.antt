-- The coarsest partition of classes that may be equal by uniqueness (Reynolds and Blanchette 2015, section 4).
use Rattle.std.specs.Prelude.{◌≡◌, ℕ, ◌<◌, ◌⊎◌, Bool, true, ◌&&◌, List, length, slice_index, nat_eq, nat_lt}
use Rattle.ct_terms.specs.declared.ids.TermId.{TermId}
use Rattle.ct_rules.specs.Uniqueness.{IsBisimulation}
use Rattle.ct_congr.specs.State.{State, AreEqual, IsConstructorTerm}

-- the number of the term's block
abbrev pub block_of : List ℕ → TermId → ℕ
block_of blocks t = slice_index blocks t.0

-- both are terms, of one block
abbrev pub in_one_block : List ℕ → TermId → TermId → Bool
in_one_block blocks x y = nat_lt x.0 (length blocks) && (nat_lt y.0 (length blocks) && nat_eq (block_of blocks x) (block_of blocks y))

-- some bisimulation relates the two
pub record AreBisimilar (state : State) (x y : TermId) : Type 0 where
  pub related : TermId → TermId → Bool
  pub bisimulation : IsBisimulation state.terms (AreEqual state) related
  pub holds : related x y ≡ true

-- they are of one class, or some bisimulation relates them
abbrev pub AreAlike : State → TermId → TermId → Type 0
AreAlike state x y = AreEqual state x y ⊎ AreBisimilar state x y

-- bisimilar classes are one class: the classes are strongly extensional (Aczel 1988, Non-Well-Founded Sets)
abbrev pub IsStronglyExtensional : State → Type 0
IsStronglyExtensional state = (x y : TermId) → AreBisimilar state x y → AreEqual state x y

-- the blocks of the terms: to be in one block is a bisimulation, classes are within blocks, and so are the terms that any
-- bisimulation relates; the number of a block is that of a term in it
pub record IsCoarsest (state : State) (blocks : List ℕ) : Type 0 where
  pub long : length blocks ≡ length state.terms
  pub stable : IsBisimulation state.terms (AreEqual state) (in_one_block blocks)
  pub equal : (x y : TermId) → AreEqual state x y → block_of blocks x ≡ block_of blocks y
  pub related : (x y : TermId) → x.0 < length blocks → y.0 < length blocks → AreBisimilar state x y → block_of blocks x ≡ block_of blocks y
  pub inside : (x : TermId) → x.0 < length blocks → block_of blocks x < length blocks
  pub member : (x : TermId) → x.0 < length blocks → slice_index blocks (block_of blocks x) ≡ block_of blocks x

-- two constructor terms of different classes of one block
pub record IsApart (state : State) (blocks : List ℕ) (x y : TermId) : Type 0 where
  pub left : IsConstructorTerm state.terms x
  pub right : IsConstructorTerm state.terms y
  pub same : block_of blocks x ≡ block_of blocks y
  pub apart : AreEqual state x y → ⊥
