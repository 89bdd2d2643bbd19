-- Steps that may be refused, and what follows from them.
use Rattle.std.specs.Prelude.{◌≡◌, ℕ, List, [], ◌∷◌, Result, Ok, Err}
use Rattle.ct_command.specs.declared.error.CommandError.{CommandError}
use Rattle.ct_command.specs.declared.error.CommandError.TheVariants.{Refused, NoMemory}
use Rattle.ct_sorts.specs.Declarations.{Declarations}
use Rattle.ct_names.specs.Outcome.{Outcome, Elaborated, and_then}
use Rattle.ct_names.specs.Needs.{ComesTo}

-- the number is that of the step's error, or is what refuses the value that the step gives
abbrev pub IsErrorOr : {X : Type 0} → Outcome X → (X → ℕ → Type 0) → ℕ → Type 0
IsErrorOr (Err e) later n = n ≡ e
IsErrorOr (Ok x) later n = later x n

-- the step gives a value, of which this holds
abbrev pub Gives : {X : Type 0} → Outcome X → (X → Type 0) → Type 0
Gives (Err e) holds = ⊥
Gives (Ok x) holds = holds x

-- a step that adds the sorts that it needs gives a value over the later declarations, which have these sorts, and this holds
abbrev pub GivesNeeding : {X : Type 0} → (Declarations → Elaborated X) → Declarations → (Declarations → X → Type 0) → Type 0
GivesNeeding {X} step d holds = (later : Declarations) × (x : X) × ComesTo step d later (Ok x) × holds later x

-- the same step for each of these, up to the first error
abbrev pub each_of : {X Y E : Type 0} → (X → Result Y E) → List X → Result (List Y) E
each_of step [] = Ok []
each_of step (x ∷ xs) = and_then (step x) (λ y. and_then (each_of step xs) (λ ys. Ok (y ∷ ys)))

-- what a call that may run out of memory says of a step: the program's value stands for that of the step
abbrev pub Comes : {X Y : Type 0} → (X → Y) → Outcome Y → Result X CommandError → Type 0
Comes seen outcome (Ok x) = outcome ≡ Ok (seen x)
Comes seen outcome (Err (Refused n)) = outcome ≡ Err n
Comes seen outcome (Err NoMemory) = Unit {0}
