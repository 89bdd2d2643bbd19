-- What a quantifier goes over: the lists of values that its variables can have.
use Rattle.std.specs.Prelude.{ℕ, ◌<◌, ◌≤◌, List, length, map, All}
use Rattle.ct_sorts.specs.declared.ids.SortId.{SortId}
use Rattle.ct_sorts.specs.Declarations.{Declarations}
use Rattle.ct_listing.specs.Closed.{ClosedValue}
use Rattle.ct_listing.specs.Listable.{IsListable}
use Rattle.ct_listing.specs.Listing.{choices, listed}

-- the lists of closed values that variables of these listable sorts can have, in lexicographic order: the first variable
-- changes slowest
abbrev pub choices_of : Declarations → List SortId → List (List ClosedValue)
choices_of d sorts = choices (map (listed d) sorts)

-- the greatest number of lists that a quantifier goes over
abbrev pub most_choices : ℕ
most_choices = 4096

-- a quantifier may go over variables of these sorts: there is a variable, all sorts are listable, and there are from one to
-- 4,096 lists of values
pub record AreQuantifiable (d : Declarations) (sorts : List SortId) : Type 0 where
  pub variable : 0 < length sorts
  pub listable : All (IsListable d) sorts
  pub some : 0 < length (choices_of d sorts)
  pub few : length (choices_of d sorts) ≤ most_choices
