-- Files by their names.
use Rattle.std.proofs.Common.{◌≡◌, ℕ, List, [], Some, Vec, bytes_eq, option_map}
use Rattle.std.specs.List.{position}
use Rattle.ct_io.specs.FileOffset.{left_at}
use Rattle.ct_io.specs.FileStore.{contents, file_named}
use Rattle.ct_io.proofs.Offsets.{find-position}

-- a file of a name is read from its offset
pub file_named-position : {A : Type 0} (files : List (List ℕ × Vec ℕ A)) (name : List ℕ) → file_named (contents files) name ≡ option_map (λ (k : ℕ). left_at (contents files) (Some (record { file = k; taken = 0 }))) (position (λ file. bytes_eq file.0 name) files)
file_named-position {A} files name =
    let view : List ℕ × Vec ℕ A → List ℕ × List ℕ = λ file. (file.0, file.1.items) in
    find-position view (λ file. bytes_eq file.0 name) (λ file. file.1) [] files
