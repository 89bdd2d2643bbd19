-- What the slots of the host's desk read from.
use Rattle.std.specs.Prelude.{ℕ, List, [], ◌∷◌, Option, Some}
use Rattle.ct_io.specs.declared.desk.Slot.{Slot}
use Rattle.ct_io.specs.declared.desk.Slot.TheVariants.{Script, Proof}
use Rattle.ct_io.specs.declared.host.sources.Source.{Source}
use Rattle.ct_io.specs.declared.host.sources.Source.TheVariants.{Nothing, StandardInput, File}

-- where bytes come from
pub data Origin : Type 0 where
  nowhere : Origin
  standard_input : Origin
  file : Origin

-- where the bytes of a slot come from, and what is left of them where the host tells it
pub record HostSlot : Type 0 where
  pub origin : Origin
  pub left : Option (List ℕ)

-- both slots
pub record HostSlots : Type 0 where
  pub script : HostSlot
  pub proof : HostSlot

-- the host's desk: its slots, and how often the host failed
pub record HostState : Type 0 where
  pub slots : HostSlots
  pub faults : ℕ

-- a slot
abbrev pub slot_in : HostSlots → Slot → HostSlot
slot_in slots Script = slots.script
slot_in slots Proof = slots.proof

-- the slots with this one in place of what was there
abbrev pub with_slot : HostSlots → Slot → HostSlot → HostSlots
with_slot slots Script slot = record slots { script = slot }
with_slot slots Proof slot = record slots { proof = slot }

-- a slot that was not opened
abbrev pub unopened_slot : HostSlot
unopened_slot = record { origin = nowhere; left = Some [] }

-- both slots at the start
abbrev pub unopened_slots : HostSlots
unopened_slots = record { script = unopened_slot; proof = unopened_slot }

-- the empty name is standard input, and each other name that of a file
abbrev pub origin_of : List ℕ → Origin
origin_of [] = standard_input
origin_of (b ∷ bs) = file

-- the slot that reads from a source, by what is left of a standard input and of a file
abbrev pub slot_of : {I F : Type 0} → (I → Option (List ℕ)) → (F → Option (List ℕ)) → Source I F
    → HostSlot
slot_of left_of_input left_of_file Nothing = unopened_slot
slot_of left_of_input left_of_file (StandardInput input) =
    record { origin = standard_input; left = left_of_input input }
slot_of left_of_input left_of_file (File opened) =
    record { origin = file; left = left_of_file opened }
