-- How a table of names is stored.
use Rattle.std.specs.Prelude.{◌≡◌, ℕ, ◌+◌, ◌-◌, ◌<◌, ◌≤◌, ◌%◌, List, [], length, drop, get_or}
use Rattle.ct_words.specs.NameList.{AreDistinct, names_in}

-- the bucket of a name: its length and its last byte tell most names of one table apart
abbrev pub bucket : List ℕ → ℕ
bucket name = (length name + get_or name (length name - 1) 0) % 64

-- the bucket of the name at an index
abbrev pub bucket_at : List (List ℕ) → ℕ → ℕ
bucket_at names index = bucket (get_or names index [])

-- each of the first starts is where the names from its index on begin
abbrev pub AreStarts : List ℕ → ℕ → List ℕ → Type 0
AreStarts text count starts =
    (index : ℕ) → index < count →
    (get_or starts index 0 ≤ length text) × (names_in (drop (get_or starts index 0) text) ≡ drop index (names_in text))

-- The first indices, by the buckets that they have, in chains from the last index of a bucket down. An index is stored as one more,
-- and 0 stands for no index.
pub record IsChained (bucket_of : ℕ → ℕ) (count : ℕ) (lasts befores : List ℕ) : Type 0 where
  -- no index of a bucket is after its last one
  pub is_last : (index : ℕ) → index < count → index < get_or lasts (bucket_of index) 0
  -- the last index of a bucket has that bucket
  pub last : (b : ℕ) → 0 < get_or lasts b 0 → (get_or lasts b 0 ≤ count) × (bucket_of (get_or lasts b 0 - 1) ≡ b)
  -- no index of the bucket stands between an index and the one before it
  pub is_before : (index later : ℕ) → index < later → later < count → bucket_of index ≡ bucket_of later → index < get_or befores later 0
  -- the index before has the same bucket
  pub before : (index : ℕ) → index < count → 0 < get_or befores index 0 → (get_or befores index 0 ≤ index) × (bucket_of (get_or befores index 0 - 1) ≡ bucket_of index)

-- a table keeps its names in this text
pub record IsStorage (text : List ℕ) (count : ℕ) (starts lasts befores : List ℕ) : Type 0 where
  pub counted : length (names_in text) ≡ count
  pub started : AreStarts text count starts
  pub chained : IsChained (bucket_at (names_in text)) count lasts befores
  pub distinct : AreDistinct (names_in text)
