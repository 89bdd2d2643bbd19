-- Where a step stops, so does the whole; and where the whole goes on.
use Rattle.std.proofs.Common.{◌≡◌, Ok, Err, ◌∙◌, ap}
use Rattle.ct_sorts.specs.Declarations.{Declarations}
use Rattle.ct_names.specs.declared.needs.Needs.{Needs}
use Rattle.ct_names.specs.declared.stop.Stop.{Stop}
use Rattle.ct_names.specs.declared.stop.Stop.TheVariants as stop
use Rattle.ct_names.specs.declared.error.CheckError.{CheckError}
use Rattle.ct_names.specs.declared.error.CheckError.TheVariants.{Refused, NoMemory}
use Rattle.ct_names.specs.Answer.{IsAnswerFor, StopsAt, ContinuesTo}
use Rattle.ct_names.specs.Needs.{Grows, Reaches}
use Rattle.ct_names.specs.Outcome.{Outcome, Elaborated, Halt, Sorted, and_then, step, refused, missing}
use Rattle.ct_names.specs.Stopped.{stop_of}
use Rattle.ct_names.proofs.NeedLemmas.{grows_itself, reaches_along, reaches_both}
use Rattle.ct_check.specs.Heads.{LeadsTo}

-- a step that stops stops the whole
pub stops_with : {X Y Z W : Type 0} (needs : Needs) (d : Declarations) (view : X → Y) (other : W → Z) (part : Elaborated Y) (whole : Elaborated Z) (e : Stop) → ((h : Halt) → part ≡ Err h → whole ≡ Err h) → StopsAt needs d view part (Err e) → StopsAt needs d other whole (Err e)
stops_with needs d view other part whole (stop.Refused n) on h = on (refused n) h
stops_with needs d view other part whole stop.Missing on h = (h.0, h.1, on (missing h.0) h.2)
stops_with needs d view other part whole stop.NoMemory on h = tt

-- so does one that needs no sort
pub refused_with : {X Y Z W : Type 0} (needs : Needs) (d : Declarations) (view : X → Y) (other : W → Z) (part : Outcome Y) (whole : Elaborated Z) (e : CheckError) → ((h : Halt) → step part ≡ Err h → whole ≡ Err h) → IsAnswerFor view part (Err e) → StopsAt needs d other whole (Err (stop_of e))
refused_with needs d view other part whole (Refused n) on h = on (refused n) (ap (λ o. step o) h)
refused_with needs d view other part whole NoMemory on h = tt

-- what goes on to something else, and stops before
pub stops_before : {X Y W : Type 0} (needs : Needs) (d : Declarations) (next : X → Elaborated Y) (other : W → Y) (whole part : Elaborated Y) (e : Stop) → whole ≡ part → ContinuesTo needs d part next (Err e) → StopsAt needs d other whole (Err e)
stops_before needs d next other whole part (stop.Refused n) same h = same ∙ h
stops_before needs d next other whole part stop.Missing same h = (h.0, h.1, same ∙ h.2)
stops_before needs d next other whole part stop.NoMemory same h = tt

-- a head that is not found
pub stops_head : {X W : Type 0} (needs : Needs) (d : Declarations) (whole part : Declarations → Elaborated Sorted) (next : Declarations → X → Elaborated Sorted) (other : W → Sorted) (e : Stop) → whole d ≡ part d → LeadsTo needs d part next (Err e) → StopsAt needs d other (whole d) (Err e)
stops_head needs d whole part next other (stop.Refused n) same h = same ∙ h
stops_head needs d whole part next other stop.Missing same h = (h.0, h.1, same ∙ h.2)
stops_head needs d whole part next other stop.NoMemory same h = tt

-- what stops at a part of the whole is missing in the whole
pub reaches_with : {X Y : Type 0} (part : Declarations → Elaborated X) (whole : Declarations → Elaborated Y) (first later : Declarations) → ((d : Declarations) (h : Halt) → Grows d first → part d ≡ Err h → whole d ≡ Err h) → Reaches part first later → Reaches whole first later
reaches_with part whole first later on reaches = reaches_along part whole first (λ d e grows is. on d (missing e) grows is) first later (grows_itself first) reaches

-- a step that comes to a value here and over all later declarations
pub record Stands {X : Type 0} (f : Declarations → Elaborated X) (first now : Declarations) (x : X) : Type 0 where
  pub reaches : Reaches f first now
  pub stays : (n : Declarations) → Grows n now → f n ≡ Ok x

-- it, and the next step
module _ {X Y : Type 0} (f : Declarations → Elaborated X) (g : Declarations → X → Elaborated Y) (first now : Declarations) (x : X) (stands : Stands f first now x) where
  pub next_is : (n : Declarations) → Grows n now → and_then (f n) (g n) ≡ g n x
  next_is n grows = ap (λ o. and_then o (g n)) (stands.stays n grows)

  pub next_reaches : (later : Declarations) → Reaches (λ n. g n x) now later → Reaches (λ n. and_then (f n) (g n)) first later
  next_reaches later reaches = reaches_both f g first now later x stands.reaches stands.stays reaches
