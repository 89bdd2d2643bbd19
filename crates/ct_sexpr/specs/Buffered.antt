-- What a reader keeps.
use Rattle.std.specs.Prelude.{◌≡◌, ℕ, ◌+◌, ◌≤◌, List, ◌++◌, length, drop}
use Rattle.ct_sexpr.specs.Scanning.{Reached}
use Rattle.ct_sexpr.specs.declared.scanner.Scanner.{Scanner}

-- a scanner has read a buffer as far as a position, since the last command, which ended at the start;
-- so it has whatever bytes may still come
pub record IsBuffered (buffer : List ℕ) (start scanned : ℕ) (scanner : Scanner) (lines fed : ℕ) : Type 0 where
  pub start_le : start ≤ scanned
  pub scanned_le : scanned ≤ length buffer
  pub reached : (more : List ℕ) → Reached scanner (drop start buffer ++ more) (drop scanned buffer ++ more)
  pub few : lines + length (drop start buffer) ≤ fed

-- where a buffer was read whole, it holds no byte of a command that was given
abbrev pub IsTight : List ℕ → ℕ → ℕ → Type 0
IsTight buffer start scanned = scanned ≡ length buffer → start ≡ 0
