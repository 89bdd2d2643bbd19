-- Directed graphs, as points with the points that their edges go to, and the lists that give them.
use Rattle.std.specs.Prelude.{◌≡◌, ℕ, ◌+◌, ◌-◌, ◌<◌, ◌≤◌, List, length, Some, slice_get, slice_index, All}
use Rattle.std.specs.List.{slice_range}

-- so many points, numbered from 0, each with its kids in order: the points that its edges go to
pub record Graph : Type 0 where
  pub count : ℕ
  pub kids : ℕ → List ℕ

-- the graph of these lists, where the kids of a point are those from its start up to the next start
abbrev pub graph : List ℕ → List ℕ → Graph
graph starts kids = record {
  count = length starts - 1;
  kids = λ i. slice_range kids (slice_index starts i) (slice_index starts (i + 1));
}

-- the lists give a graph: there is one start more than points, no start is greater than the next, the last one is the
-- number of kids, and each kid is a point
pub record ArePoints (starts kids : List ℕ) : Type 0 where
  pub some : 0 < length starts
  pub rising : (i : ℕ) → i < length starts - 1 → slice_index starts i ≤ slice_index starts (i + 1)
  pub last : slice_index starts (length starts - 1) ≡ length kids
  pub within : All (λ kid. kid < length starts - 1) kids

-- the point has this kid at this place
abbrev pub HasKid : Graph → ℕ → ℕ → ℕ → Type 0
HasKid g point place kid = slice_get (g.kids point) place ≡ Some kid
