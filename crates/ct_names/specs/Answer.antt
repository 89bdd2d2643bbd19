-- What a call that may be refused says of an outcome.
use Rattle.std.specs.Prelude.{◌≡◌, Result, Ok, Err}
use Rattle.ct_names.specs.declared.error.CheckError.{CheckError}
use Rattle.ct_names.specs.declared.error.CheckError.TheVariants.{Refused, NoMemory}
use Rattle.ct_names.specs.declared.stop.Stop.{Stop}
use Rattle.ct_names.specs.declared.stop.Stop.TheVariants as stop
use Rattle.ct_names.specs.declared.needs.Needs.{Needs}
use Rattle.ct_names.specs.Outcome.{Outcome, Elaborated, refused, missing}
use Rattle.ct_names.specs.Needs.{CannotHave}
use Rattle.ct_sorts.specs.Declarations.{Declarations}
use Rattle.ct_generics.specs.Expression.{Expression}

-- the value that the outcome has, seen as what it stands for, or the number of its error; nothing where memory ran out
abbrev pub IsAnswerFor : {X Y : Type 0} → (X → Y) → Outcome Y → Result X CheckError → Type 0
IsAnswerFor view outcome (Ok x) = outcome ≡ Ok (view x)
IsAnswerFor view outcome (Err (Refused n)) = outcome ≡ Err n
IsAnswerFor view outcome (Err NoMemory) = Unit {0}

-- a value that stands for itself
abbrev pub as_it_is : {X : Type 0} → X → X
as_it_is x = x

-- the same of elaboration over these declarations: the value, the number of its error, or a sort that it needs next and cannot have
abbrev pub StopsAt : {X Y : Type 0} → Needs → Declarations → (X → Y) → Elaborated Y → Result X Stop → Type 0
StopsAt needs d view outcome (Ok x) = outcome ≡ Ok (view x)
StopsAt needs d view outcome (Err (stop.Refused n)) = outcome ≡ Err (refused n)
StopsAt needs d view outcome (Err stop.Missing) = (e : Expression) × CannotHave needs d e × (outcome ≡ Err (missing e))
StopsAt needs d view outcome (Err stop.NoMemory) = Unit {0}

-- the same where what follows from a value is what the whole comes to
abbrev pub ContinuesTo : {X Y : Type 0} → Needs → Declarations → Elaborated Y → (X → Elaborated Y) → Result X Stop → Type 0
ContinuesTo needs d outcome next (Ok x) = outcome ≡ next x
ContinuesTo needs d outcome next (Err (stop.Refused n)) = outcome ≡ Err (refused n)
ContinuesTo needs d outcome next (Err stop.Missing) = (e : Expression) × CannotHave needs d e × (outcome ≡ Err (missing e))
ContinuesTo needs d outcome next (Err stop.NoMemory) = Unit {0}

-- what follows from a value is what the whole comes to, or the whole has the error
abbrev pub ContinuesWith : {X Y : Type 0} → Outcome Y → (X → Outcome Y) → Result X CheckError → Type 0
ContinuesWith outcome next (Ok x) = outcome ≡ next x
ContinuesWith outcome next (Err (Refused n)) = outcome ≡ Err n
ContinuesWith outcome next (Err NoMemory) = Unit {0}
