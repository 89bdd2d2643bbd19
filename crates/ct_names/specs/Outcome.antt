-- What comes of a step that may be refused: a value, or the number of an error; and what comes of elaboration, which may also need
-- a sort that is not there.
use Rattle.std.specs.Prelude.{ℕ, Bool, ◌==◌, Result, Ok, Err, if◌then◌else◌}
use Rattle.ct_generics.specs.Expression.{Expression}
use Rattle.ct_sorts.specs.declared.ids.SortId.{SortId}
use Rattle.ct_formulas.specs.Formula.{Formula}
use Rattle.ct_names.specs.Refusals.{wrong_sort}

-- a value, or the number of the first error
abbrev pub Outcome : Type 0 → Type 0
Outcome X = Result X ℕ

-- why elaboration goes no further over declarations that stay as they are: it is refused, or it needs this sort next, which is not
-- there
pub data Halt : Type 0 where
  refused : ℕ → Halt
  missing : Expression → Halt

-- a value, or why there is none
abbrev pub Elaborated : Type 0 → Type 0
Elaborated X = Result X Halt

-- a formula with its sort
abbrev pub Sorted : Type 0
Sorted = Formula × SortId

-- what comes next, where there is a value
abbrev pub and_then : {X Y E : Type 0} → Result X E → (X → Result Y E) → Result Y E
and_then (Ok x) next = next x
and_then (Err error) next = Err error

-- what comes next, where the test holds, and else this error
abbrev pub unless_refused : {X : Type 0} → Bool → ℕ → Outcome X → Outcome X
unless_refused holds error next = if holds then next else Err error

-- the same of elaboration
abbrev pub unless_halted : {X : Type 0} → Bool → ℕ → Elaborated X → Elaborated X
unless_halted holds error next = if holds then next else Err (refused error)

-- a step that needs no sort, as one of elaboration
abbrev pub step : {X : Type 0} → Outcome X → Elaborated X
step (Ok x) = Ok x
step (Err error) = Err (refused error)

-- the two sorts are one
abbrev pub is_sort : SortId → SortId → Bool
is_sort s t = s.0 == t.0

-- the formula, where its sort is this one
abbrev pub of_sort : SortId → Elaborated Sorted → Elaborated Formula
of_sort sort outcome = and_then outcome (λ t. unless_halted (is_sort t.1 sort) wrong_sort (Ok t.0))
