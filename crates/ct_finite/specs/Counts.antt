-- How many values the listable sorts have.
use Rattle.std.specs.Prelude.{◌≡◌, ℕ, ◌+◌, ◌<◌, List, length, get_or, if◌then◌else◌, nat_lt}
use Rattle.ct_sorts.specs.declared.ids.SortId.{SortId}
use Rattle.ct_sorts.specs.Declarations.{Declarations}
use Rattle.ct_listing.specs.Listable.{IsListable}
use Rattle.ct_listing.specs.Listing.{listed}

-- the greatest number of values that is told apart from more
abbrev pub most_values : ℕ
most_values = 4096

-- a number of values, or one more than the greatest where it is greater
abbrev pub capped : ℕ → ℕ
capped n = if nat_lt most_values n then most_values + 1 else n

-- what is noted for a sort
abbrev pub count_at : List ℕ → SortId → ℕ
count_at counts s = get_or counts s.0 0

-- the sort is listable, and this is its capped number of values
abbrev pub IsCounted : Declarations → SortId → ℕ → Type 0
IsCounted d s n = IsListable d s × (n ≡ capped (length (listed d s)))

-- for each listable sort its capped number of values is noted, which is not 0, and 0 for every other sort
pub record AreCounts (d : Declarations) (counts : List ℕ) : Type 0 where
  pub long : length counts ≡ length d.sorts
  pub counted : (s : SortId) → 0 < count_at counts s → IsCounted d s (count_at counts s)
  pub all : (s : SortId) → IsListable d s → 0 < count_at counts s
