-- Definitions under way: each waits for the definitions that its body names.
use Rattle.std.specs.Prelude.{◌≡◌, ◌⊎◌, ℕ, zero, suc, ◌+◌, ◌<◌, List, [], ◌∷◌, length, Contains, Option, Some, None, slice_get, IfSome, IfNone}
use Rattle.ct_sorts.specs.declared.ids.DefId.{DefId}
use Rattle.ct_sorts.specs.Declarations.{Declarations}
use Rattle.ct_formulas.specs.Formula.{Formula}
use Rattle.ct_occurrence.specs.declared.definitions.Worked.{Worked}
use Rattle.ct_occurrence.specs.declared.under_way.Frame.{Frame}
use Rattle.ct_occurrence.specs.Calls.{CallsAre, AreBelow}
use Rattle.ct_occurrence.specs.Marks.{Rows, IsKnown}
use Rattle.ct_occurrence.specs.Working.{AreRight, StayKnown}

-- the definition waits: what its body names is worked out, or is left to look at
pub record IsFrame (bodies : List Formula) (rows : Rows) (f : Frame) : Type 0 where
  pub body : Formula
  pub at : slice_get bodies f.definition.0 ≡ Some body
  pub named : CallsAre (λ j. IsKnown rows j ⊎ Contains f.left.items j) body
  pub before : AreBelow f.definition.0 f.left.items
  pub waits : rows f.definition ≡ None

-- all that the body of the definition names is left to look at
pub record BeginsBody (bodies : List Formula) (k : DefId) (f : Frame) : Type 0 where
  pub definition_is : f.definition ≡ k
  pub body : Formula
  pub at : slice_get bodies k.0 ≡ Some body
  pub named : CallsAre (Contains f.left.items) body
  pub before : AreBelow k.0 f.left.items

-- names are left out that are worked out, up to one that is not
pub record AreLeftOut (rows : Rows) (old new : List DefId) (found : Option DefId) : Type 0 where
  pub kept : (j : DefId) → Contains old j → IsKnown rows j ⊎ Contains new j
  pub within : (j : DefId) → Contains new j → Contains old j
  pub unknown : IfSome found (λ j. (rows j ≡ None) × Contains new j)
  pub finished : IfNone found (new ≡ [])

-- each comes before those that it waits for, whose numbers are smaller
abbrev pub Descend : List Frame → Type 0
Descend [] = Unit {0}
Descend (f ∷ fs) = ((g : Frame) → Contains fs g → g.definition.0 < f.definition.0) × Descend fs

-- the definitions that wait, the last one for none of the others
pub record AreFramesUnderWay (d : Declarations) (bodies : List Formula) (rows : Rows) (stack : List Frame) : Type 0 where
  pub right : AreRight d bodies rows
  pub frames : (f : Frame) → Contains stack f → IsFrame bodies rows f
  pub descend : Descend stack

-- the definition is worked out or waits
abbrev pub IsWorkedOrWaits : Rows → List Frame → DefId → Type 0
IsWorkedOrWaits rows stack k = IsKnown rows k ⊎ ((f : Frame) × Contains stack f × (f.definition ≡ k))

-- a number for a definition that is not worked out
abbrev pub count_unless_worked : ℕ → Option Worked → ℕ
count_unless_worked each None = each
count_unless_worked each (Some w) = 0

-- the same number for each definition below a bound that is not worked out
abbrev pub work_left_below : Rows → ℕ → ℕ → ℕ
work_left_below rows each zero = 0
work_left_below rows each (suc n) = count_unless_worked each (rows (record { 0 = n })) + work_left_below rows each n

-- the number of the last definition that waits, and one more
abbrev pub top : List Frame → ℕ
top [] = 0
top (f ∷ []) = suc f.definition.0
top (f ∷ (g ∷ fs)) = top (g ∷ fs)

-- how much is left to do
abbrev pub left_to_do : ℕ → Rows → List Frame → ℕ
left_to_do n rows stack = work_left_below rows (suc n) n + top stack

-- a step towards the end
pub record IsWorkStep (d : Declarations) (bodies : List Formula) (old new : Rows) (before after : List Frame) : Type 0 where
  pub under_way : AreFramesUnderWay d bodies new after
  pub stay : StayKnown old new
  pub met : (k : DefId) → IsWorkedOrWaits old before k → IsWorkedOrWaits new after k
  pub less : left_to_do (length bodies) new after < left_to_do (length bodies) old before
