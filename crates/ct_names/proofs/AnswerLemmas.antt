-- What a call says of an outcome, carried to another one.
use Rattle.std.proofs.Common.{◌≡◌, Result, Ok, Err, refl, ◌∙◌, ap}
use Rattle.ct_names.specs.declared.error.CheckError.{CheckError}
use Rattle.ct_names.specs.declared.error.CheckError.TheVariants.{Refused, NoMemory}
use Rattle.ct_sorts.specs.Declarations.{Declarations}
use Rattle.ct_names.specs.declared.needs.Needs.{Needs}
use Rattle.ct_names.specs.declared.stop.Stop.{Stop}
use Rattle.ct_names.specs.declared.stop.Stop.TheVariants as stop
use Rattle.ct_names.specs.Outcome.{Outcome, Elaborated, and_then, step}
use Rattle.ct_names.specs.Answer.{IsAnswerFor, ContinuesWith, StopsAt}
use Rattle.ct_names.specs.Stopped.{stop_of}

pub answers_along : {X Y : Type 0} (view : X → Y) (whole part : Outcome Y) (r : Result X CheckError) → whole ≡ part → IsAnswerFor view part r → IsAnswerFor view whole r
answers_along view whole part (Ok x) e h = e ∙ h
answers_along view whole part (Err (Refused n)) e h = e ∙ h
answers_along view whole part (Err NoMemory) e h = tt

pub leads_along : {X Y : Type 0} (next : X → Outcome Y) (whole part : Outcome Y) (r : Result X CheckError) → whole ≡ part → ContinuesWith part next r → ContinuesWith whole next r
leads_along next whole part (Ok x) e h = e ∙ h
leads_along next whole part (Err (Refused n)) e h = e ∙ h
leads_along next whole part (Err NoMemory) e h = tt

-- an error of a step is one of the whole
pub answers_error : {X Y Z W : Type 0} (view : X → Y) (other : W → Z) (whole : Outcome Z) (first : Outcome Y) (next : Y → Outcome Z) (e : CheckError) → whole ≡ and_then first next → IsAnswerFor view first (Err e) → IsAnswerFor other whole (Err e)
answers_error view other whole first next (Refused n) is h = is ∙ ap (λ o. and_then o next) h
answers_error view other whole first next NoMemory is h = tt

-- an error before what follows is one of the whole
pub leads_error : {X Y W : Type 0} (next : X → Outcome Y) (other : W → Y) (whole : Outcome Y) (e : CheckError) → ContinuesWith whole next (Err e) → IsAnswerFor other whole (Err e)
leads_error next other whole (Refused n) h = h
leads_error next other whole NoMemory h = tt

-- out of memory says nothing
pub answers_memory : {X Y : Type 0} (view : X → Y) (whole : Outcome Y) (e : CheckError) → e ≡ NoMemory → IsAnswerFor view whole (Err e)
answers_memory view whole (Refused n) is = absurd cc
answers_memory view whole NoMemory is = tt

-- a value of a step takes the whole to what follows
pub and_then-ok : {Y Z : Type 0} (first : Outcome Y) (next : Y → Outcome Z) (y : Y) → first ≡ Ok y → and_then first next ≡ next y
and_then-ok first next y e = ap (λ o. and_then o next) e

-- steps one after the other
pub and_then-assoc : {X Y Z : Type 0} (first : Outcome X) (second : X → Outcome Y) (third : Y → Outcome Z) → and_then (and_then first second) third ≡ and_then first (λ x. and_then (second x) third)
and_then-assoc (Ok x) second third = refl
and_then-assoc (Err e) second third = refl

pub and_then-self : {X : Type 0} (first : Outcome X) → and_then first (λ x. Ok x) ≡ first
and_then-self (Ok x) = refl
and_then-self (Err e) = refl

pub leads_memory : {X Y : Type 0} (next : X → Outcome Y) (whole : Outcome Y) (e : CheckError) → e ≡ NoMemory → ContinuesWith whole next (Err e)
leads_memory next whole (Refused n) is = absurd cc
leads_memory next whole NoMemory is = tt

-- ---- the same of elaboration

pub stops_along : {X Y : Type 0} (needs : Needs) (d : Declarations) (view : X → Y) (whole part : Elaborated Y) (r : Result X Stop) → whole ≡ part → StopsAt needs d view part r → StopsAt needs d view whole r
stops_along needs d view whole part (Ok x) e h = e ∙ h
stops_along needs d view whole part (Err (stop.Refused n)) e h = e ∙ h
stops_along needs d view whole part (Err stop.Missing) e h = (h.0, h.1, e ∙ h.2)
stops_along needs d view whole part (Err stop.NoMemory) e h = tt

-- an error of a step is one of the whole
pub stops_error : {X Y Z W : Type 0} (needs : Needs) (d : Declarations) (view : X → Y) (other : W → Z) (whole : Elaborated Z) (first : Elaborated Y) (next : Y → Elaborated Z) (e : Stop) → whole ≡ and_then first next → StopsAt needs d view first (Err e) → StopsAt needs d other whole (Err e)
stops_error needs d view other whole first next (stop.Refused n) is h = is ∙ ap (λ o. and_then o next) h
stops_error needs d view other whole first next stop.Missing is h = (h.0, h.1, is ∙ ap (λ o. and_then o next) h.2)
stops_error needs d view other whole first next stop.NoMemory is h = tt

-- out of memory says nothing
pub stops_memory : {X Y : Type 0} (needs : Needs) (d : Declarations) (view : X → Y) (whole : Elaborated Y) (e : Stop) → e ≡ stop.NoMemory → StopsAt needs d view whole (Err e)
stops_memory needs d view whole (stop.Refused n) is = absurd cc
stops_memory needs d view whole stop.Missing is = absurd cc
stops_memory needs d view whole stop.NoMemory is = tt

-- an error of a name or a pattern is one of elaboration
pub stops_of : {X Y Z W : Type 0} (needs : Needs) (d : Declarations) (view : X → Y) (other : W → Z) (whole : Elaborated Z) (first : Outcome Y) (next : Y → Elaborated Z) (e : CheckError) → whole ≡ and_then (step first) next → IsAnswerFor view first (Err e) → StopsAt needs d other whole (Err (stop_of e))
stops_of needs d view other whole first next (Refused n) is h = is ∙ ap (λ o. and_then (step o) next) h
stops_of needs d view other whole first next NoMemory is h = tt
