-- Bytes that go in and out, where they are known.
use Rattle.std.specs.Prelude.{◌≡◌, ℕ, ◌<◌, ◌≤◌, List, [], ◌++◌, take, drop, length, Option, option_map}

-- the bytes of a sink with these after them, where the sink tells its bytes
abbrev pub appended : List ℕ → Option (List ℕ) → Option (List ℕ)
appended bytes written = option_map (λ before. before ++ bytes) written

-- what is left after the first n bytes, where it is known
abbrev pub remaining : ℕ → Option (List ℕ) → Option (List ℕ)
remaining n left = option_map (drop n) left

-- the new bytes are the old ones with a prefix of the piece after them
pub record GrewByPrefix (piece : List ℕ) (old new : Option (List ℕ)) : Type 0 where
  pub count : ℕ
  pub within : count ≤ length piece
  pub grown : new ≡ appended (take count piece) old

-- the new bytes are the old ones with a prefix of the piece after them, which is not the whole piece
pub record GrewByPart (piece : List ℕ) (old new : Option (List ℕ)) : Type 0 where
  pub count : ℕ
  pub short : count < length piece
  pub grown : new ≡ appended (take count piece) old

-- the first n bytes that are left stand at the start of the buffer, whose rest is as before
pub record ReadsBytes (left : List ℕ) (n : ℕ) (old new : List ℕ) : Type 0 where
  pub there : n ≤ length left
  pub bytes : new ≡ take n left ++ drop n old
  pub none : n ≡ 0 → 0 < length old → left ≡ []
