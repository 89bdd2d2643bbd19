-- The bytes that are written, line by line.
use Rattle.std.specs.Prelude.{◌≡◌, ℕ, List, [], ◌∷◌, ◌++◌, Option, codes}
use Rattle.std.specs.List.{concat}
use Rattle.ct_io.specs.Bytes.{appended, GrewByPrefix, GrewByPart}
use Rattle.ct_io.specs.declared.sink.SinkError.{SinkError}
use Rattle.ct_io.specs.declared.sink.SinkError.TheVariants.{Fault, NoMemory}

-- these lines were written
abbrev pub wrote : List (List ℕ) → Option (List ℕ) → Option (List ℕ)
wrote lines old = appended (concat lines) old

-- the lines before the last one were written whole, and the last one in part
pub record BreaksInLine (lines : List (List ℕ)) (old new : Option (List ℕ)) : Type 0 where
  pub before : List (List ℕ)
  pub last : List ℕ
  pub all : lines ≡ before ++ last ∷ []
  pub part : GrewByPart last (wrote before old) new

-- what an error of the sink leaves of these lines: a fault comes inside the last line, and memory may run out anywhere
abbrev pub IsLeft : SinkError → List (List ℕ) → Option (List ℕ) → Option (List ℕ) → Type 0
IsLeft Fault lines old new = BreaksInLine lines old new
IsLeft NoMemory lines old new = GrewByPrefix (concat lines) old new

-- the one line that tells how the program is called
abbrev pub usage_line : List ℕ
usage_line = codes "usage: cosmt [--strict] [FILE | --audit PROOF FILE | --audit-model MODEL --at K FILE | --gen N | --version]\n"

-- the one line that tells the version of the program
abbrev pub version_line : List ℕ
version_line = codes "cosmt 1.0\n"
