-- An offset in one of the files of a store.
use Rattle.std.specs.Prelude.{ℕ, List, [], drop, Option, Some, None, option_map, unwrap_or, slice_get}
use Rattle.ct_io.specs.declared.memory.store.FileOffset.{FileOffset}

-- what is left of the file at an offset
abbrev pub left_at : List (List ℕ × List ℕ) → Option FileOffset → List ℕ
left_at files None = []
left_at files (Some offset) = drop offset.taken (unwrap_or (option_map (λ file. file.1) (slice_get files offset.file)) [])
