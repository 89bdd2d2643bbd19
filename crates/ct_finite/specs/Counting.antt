-- Counting values by the counts of the fields' sorts.
use Rattle.std.specs.Prelude.{◌≡◌, ℕ, zero, suc, ◌+◌, ◌*◌, ◌<◌, ◌≤◌, List, [], ◌∷◌, length, get_or, Contains}
use Rattle.ct_sorts.specs.declared.ids.CtorId.{CtorId}
use Rattle.ct_sorts.specs.declared.ids.SortId.{SortId}
use Rattle.ct_sorts.specs.Declarations.{Declarations}
use Rattle.ct_terms.specs.Fields.{ctor_ids_of_sort}
use Rattle.ct_listing.specs.Listable.{field_sorts}
use Rattle.ct_finite.specs.Counts.{most_values, count_at, IsCounted}

-- in how many ways fields can be filled, where each sort has so many values
abbrev pub ways : (SortId → ℕ) → List SortId → ℕ
ways count [] = 1
ways count (s ∷ sorts) = count s * ways count sorts

-- in how many ways these constructors can be applied
abbrev pub total : (SortId → ℕ) → Declarations → List CtorId → ℕ
total count d [] = 0
total count d (c ∷ cs) = ways count (field_sorts d c) + total count d cs

-- no count is greater than a capped one
abbrev pub AreCapped : List ℕ → Type 0
AreCapped counts = (n : ℕ) → get_or counts n 0 ≤ most_values + 1

-- each of the constructors has only fields of sorts whose counts are known
abbrev pub AreReady : Declarations → List ℕ → List CtorId → Type 0
AreReady d counts cs = (c : CtorId) (field : SortId) → Contains cs c → Contains (field_sorts d c) field → 0 < count_at counts field

-- what has been noted so far is right
pub record IsUnderWay (d : Declarations) (counts : List ℕ) : Type 0 where
  pub long : length counts ≡ length d.sorts
  pub counted : (s : SortId) → 0 < count_at counts s → IsCounted d s (count_at counts s)

-- the count of each sort is known that has constructors, all of which have only fields of sorts whose counts are known
abbrev pub IsComplete : Declarations → List ℕ → Type 0
IsComplete d counts = (s : SortId) → 0 < length (ctor_ids_of_sort d s) → AreReady d counts (ctor_ids_of_sort d s) → 0 < count_at counts s

-- how many counts are not known
abbrev pub missing : List ℕ → ℕ
missing [] = 0
missing (zero ∷ counts) = suc (missing counts)
missing (suc count ∷ counts) = missing counts
