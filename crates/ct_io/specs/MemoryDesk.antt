-- A desk in memory, some of whose calls fail.
use Rattle.std.specs.Prelude.{◌≡◌, ℕ, List, Option, Some, None, ◌⊎◌}
use Rattle.ct_io.specs.declared.desk.Slot.{Slot}
use Rattle.ct_io.specs.Calls.{Calls, IsToFail, with_call, with_fault}
use Rattle.ct_io.specs.FileStore.{FileStore, file_named, left_in, with_left}

-- its files and slots, the most bytes that a read gives, and its calls of `open` and `read`
pub record MemoryDesk : Type 0 where
  pub store : FileStore
  pub piece : ℕ
  pub calls : Calls

-- what it holds under a name, where there is a file of that name
abbrev pub held_by : MemoryDesk → List ℕ → Option (List ℕ)
held_by desk name = file_named desk.store.files name

-- what is left in a slot
abbrev pub left_of : MemoryDesk → Slot → Option (List ℕ)
left_of desk slot = Some (left_in desk.store slot)

-- the next call is to fail, or there is no file of this name
abbrev pub CannotOpen : MemoryDesk → List ℕ → Type 0
CannotOpen desk name = IsToFail desk.calls ⊎ (file_named desk.store.files name ≡ None)

-- after a call that leaves these bytes in the slot
abbrev pub desk_after : MemoryDesk → Slot → List ℕ → MemoryDesk
desk_after desk slot bytes = record desk { store = with_left desk.store slot bytes; calls = with_call desk.calls }

-- after a call that fails
abbrev pub desk_after_fault : MemoryDesk → MemoryDesk
desk_after_fault desk = record desk { calls = with_fault (with_call desk.calls) }
