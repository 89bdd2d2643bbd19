-- What a reader has of the bytes of a slot, of which no more than a fixed number are read.
use Rattle.std.specs.Prelude.{◌≡◌, ℕ, ◌+◌, ◌≤◌, ◌<◌, true, false, Bool, List, [], ◌∷◌, ◌++◌, take, length, Option, None, Some, IfSome}
use Rattle.ct_io.specs.Bytes.{remaining}
use Rattle.ct_sexpr.specs.Unread.{Unread}
use Rattle.ct_input.specs.declared.feeding.Feeding.{Feeding}
use Rattle.ct_input.specs.declared.feeding.Feeding.TheVariants.{More, End, Beyond}

-- the most bytes of a slot that are read
abbrev pub most_bytes : ℕ
most_bytes = 67108864

-- the most bytes that one read asks for
abbrev pub piece_bytes : ℕ
piece_bytes = 65536

-- the first bytes, as many of them as are read
abbrev pub head : List ℕ → List ℕ
head bytes = take most_bytes bytes

-- the bytes came out of a slot: what was left before began with them, where it is known, and the others are left after
pub record CameOut (before : Option (List ℕ)) (bytes : List ℕ) (after : Option (List ℕ)) : Type 0 where
  pub first : IfSome before (λ all. (rest : List ℕ) × (all ≡ bytes ++ rest))
  pub rest_is : after ≡ remaining (length bytes) before

-- the reader was given the bytes
abbrev pub given : Unread → List ℕ → Unread
given u bytes = record u { bytes = u.bytes ++ bytes; fed = u.fed + length bytes }

-- a piece of so many bytes came, one at least, and the reader was given it
pub record FeedsPiece (count : ℕ) (old new : Unread) (before after : Option (List ℕ)) : Type 0 where
  pub piece : List ℕ
  pub counted : length piece ≡ count
  pub some : 0 < count
  pub few : count ≤ piece_bytes
  pub short : old.fed + count ≤ most_bytes
  pub fed : new ≡ given old piece
  pub came : CameOut before piece after

-- nothing was left, and the reader was told that the input has ended
pub record FeedsEnd (old new : Unread) (before after : Option (List ℕ)) : Type 0 where
  pub told : new ≡ record old { ended = true }
  pub spent : IfSome before (λ all. all ≡ [])
  pub untaken : after ≡ before

-- a piece came with which there are more bytes than are read: the reader was given all but the last, and has as many as are read
pub record FeedsHead (old new : Unread) (before after : Option (List ℕ)) : Type 0 where
  pub piece : List ℕ
  pub beyond : ℕ
  pub few : length piece < piece_bytes
  pub full : old.fed + length piece ≡ most_bytes
  pub fed : new ≡ given old piece
  pub came : CameOut before (piece ++ beyond ∷ []) after

-- what one read of a slot gave to a reader
abbrev pub Feeds : Feeding → Unread → Unread → Option (List ℕ) → Option (List ℕ) → Type 0
Feeds (More count) old new before after = FeedsPiece count old new before after
Feeds End old new before after = FeedsEnd old new before after
Feeds Beyond old new before after = FeedsHead old new before after

-- the reader was fed the bytes, as many as are read or fewer, and was told that they end; it has given nothing of them
pub record IsReadWhole (bytes : List ℕ) (u : Unread) : Type 0 where
  pub line : u.line ≡ 1
  pub short : length bytes ≤ most_bytes
  pub all : u.bytes ≡ bytes
  pub ended : u.ended ≡ true

-- the reader has all bytes and their end, or they are more than are read
abbrev pub IsFed : Bool → List ℕ → Unread → Type 0
IsFed true bytes u = IsReadWhole bytes u
IsFed false bytes u = most_bytes < length bytes

-- a reader that has all bytes and their end, and has given nothing of them; or none, where there are more than are read
abbrev pub IsWholeOf : List ℕ → Option Unread → Type 0
IsWholeOf bytes None = most_bytes < length bytes
IsWholeOf bytes (Some u) = IsReadWhole bytes u

-- of the bytes that a slot held the first ones were taken, at most one beyond those that are read, and the others are left: one was
-- taken beyond them where the reader has not all bytes, and nothing is left where it has
pub record IsTaken (held : Option (List ℕ)) (whole : Bool) (left : Option (List ℕ)) : Type 0 where
  pub count : ℕ
  pub few : count ≤ most_bytes + 1
  pub rest : left ≡ remaining count held
  pub beyond : whole ≡ false → count ≡ most_bytes + 1
  pub spent : whole ≡ true → IfSome left (λ bytes. bytes ≡ [])
