-- Files in memory, and what is left of them in the slots.
use Rattle.std.specs.Prelude.{ℕ, List, [], map, Option, Vec, bytes_eq, find, option_map}
use Rattle.ct_io.specs.declared.desk.Slot.{Slot}
use Rattle.ct_io.specs.declared.desk.Slot.TheVariants.{Script, Proof}

-- each file as its name and its bytes, and what is left in each slot
pub record FileStore : Type 0 where
  pub files : List (List ℕ × List ℕ)
  pub script : List ℕ
  pub proof : List ℕ

-- the names and the bytes of files
abbrev pub contents : {A : Type 0} → List (List ℕ × Vec ℕ A) → List (List ℕ × List ℕ)
contents files = map (λ file. (file.0, file.1.items)) files

-- the files, with nothing left in the slots
abbrev pub unopened : List (List ℕ × List ℕ) → FileStore
unopened files = record { files = files; script = []; proof = [] }

-- the bytes of the first file of this name
abbrev pub file_named : List (List ℕ × List ℕ) → List ℕ → Option (List ℕ)
file_named files name = option_map (λ file. file.1) (find (λ file. bytes_eq file.0 name) files)

-- what is left in a slot
abbrev pub left_in : FileStore → Slot → List ℕ
left_in store Script = store.script
left_in store Proof = store.proof

-- the same files, with these bytes left in the slot
abbrev pub with_left : FileStore → Slot → List ℕ → FileStore
with_left store Script bytes = record store { script = bytes }
with_left store Proof bytes = record store { proof = bytes }
