-- A desk in memory that never fails, on which each name that is not there is an empty file.
use Rattle.std.specs.Prelude.{ℕ, List, [], Option, Some, unwrap_or}
use Rattle.ct_io.specs.declared.desk.Slot.{Slot}
use Rattle.ct_io.specs.FileStore.{FileStore, file_named, left_in}

-- the bytes that it holds under a name
abbrev pub bytes_under : FileStore → List ℕ → List ℕ
bytes_under desk name = unwrap_or (file_named desk.files name) []

-- what it holds under a name
abbrev pub held_by : FileStore → List ℕ → Option (List ℕ)
held_by desk name = Some (bytes_under desk name)

-- what is left in a slot
abbrev pub left_of : FileStore → Slot → Option (List ℕ)
left_of desk slot = Some (left_in desk slot)
