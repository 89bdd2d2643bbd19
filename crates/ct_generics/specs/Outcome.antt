-- What comes of a step that may be refused: a value, or the number of an error.
use Rattle.std.specs.Prelude.{ℕ, List, [], ◌∷◌, Result, Ok, Err}

-- a value, or the number of the first error
abbrev pub Outcome : Type 0 → Type 0
Outcome X = Result X ℕ

-- what comes next, where this was not refused
abbrev pub and_then : {X Y : Type 0} → Outcome X → (X → Outcome Y) → Outcome Y
and_then (Ok x) next = next x
and_then (Err error) next = Err error

-- the values of all, or the first error
abbrev pub all_of : {X : Type 0} → List (Outcome X) → Outcome (List X)
all_of [] = Ok []
all_of (x ∷ xs) = and_then x (λ y. and_then (all_of xs) (λ ys. Ok (y ∷ ys)))

-- what comes of each, or the first error
abbrev pub each : {X Y : Type 0} → (X → Outcome Y) → List X → Outcome (List Y)
each step [] = Ok []
each step (x ∷ xs) = and_then (step x) (λ y. and_then (each step xs) (λ ys. Ok (y ∷ ys)))
