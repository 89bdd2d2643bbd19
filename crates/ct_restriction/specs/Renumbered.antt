-- Numbers in one table of the terms of another: which terms are equal, and what is known of them.
use Rattle.std.specs.Prelude.{◌≡◌, ℕ, ◌+◌, ◌<◌, ◌≤◌, ◌↔◌, ◌⊎◌, Bool, true, false, List, [], ◌∷◌, ◌++◌, length, Option, None, Some, slice_get, Contains}
use Rattle.ct_terms.specs.declared.ids.TermId.{TermId}
use Rattle.ct_terms.specs.Terms.{Terms, most_terms}
use Rattle.ct_terms.specs.CoreTree.{CoreTree, term_at}
use Rattle.ct_closure.specs.Closed.{AreDifferent}
use Rattle.ct_closure.specs.ClosedTable.{HasTree, terms_at}
use Rattle.ct_restriction.specs.Restricted.{IsMarked, IsSubtermOfOne, StandsFor}

-- the term of the second table is equal to that of the first: they have one tree
pub record IsEqualTerm (from to : Terms) (t u : TermId) : Type 0 where
  pub there : t.0 < length from
  pub within : u.0 < length to
  pub tree : term_at to u ≡ term_at from t

-- the numbers in the list, so many of them, are those of terms that are equal to the first terms of the first table, in order
abbrev pub AreNumbersOf : Terms → Terms → List TermId → ℕ → Type 0
AreNumbersOf from to numbers count = (t u : TermId) → t.0 < count → slice_get numbers t.0 ≡ Some u → IsEqualTerm from to t u

-- The table has no room for these terms of another: more than 400,000 different terms stand in it or are subterms of these.
pub record HasNoRoom (table from : Terms) (roots : List TermId) : Type 0 where
  pub trees : List CoreTree
  pub different : AreDifferent trees
  pub each : (t : CoreTree) → Contains trees t → HasTree table t ⊎ IsSubtermOfOne (terms_at from roots) t
  pub more : most_terms < length trees

-- which terms have a number that is known, and the number beside each
pub record Numbers : Type 0 where
  pub known : List Bool
  pub numbers : List TermId

-- the term has this number
abbrev pub IsNumber : Numbers → TermId → TermId → Type 0
IsNumber n t u = IsMarked n.known t × (slice_get n.numbers t.0 ≡ Some u)

-- the term has a number
abbrev pub IsKnown : Numbers → TermId → Type 0
IsKnown n t = (u : TermId) × IsNumber n t u

-- no numbers
abbrev pub no_numbers : Numbers
no_numbers = record { known = []; numbers = [] }

-- the number of one term more, where it has one
abbrev pub with_number : Numbers → Option TermId → Numbers
with_number n None = record { known = n.known ++ false ∷ []; numbers = n.numbers ++ record { 0 = 0 } ∷ [] }
with_number n (Some u) = record { known = n.known ++ true ∷ []; numbers = n.numbers ++ u ∷ [] }

-- of the first terms exactly those that the second table has are known, by their numbers there
pub record AreFound (from to : Terms) (n : Numbers) : Type 0 where
  pub long : length n.known ≡ length n.numbers
  pub exact : (t u : TermId) → t.0 < length n.numbers → IsEqualTerm from to t u ↔ IsNumber n t u

-- the term of the table was there before, or is a marked one of the first table
abbrev pub IsOldOrCopy : Terms → Terms → List Bool → Terms → TermId → Type 0
IsOldOrCopy base from marks to u = (u.0 < length base) ⊎ ((s : TermId) × IsMarked marks s × (term_at to u ≡ term_at from s))

-- the first marked ones are known
abbrev pub AreMarkedKnown : List Bool → Numbers → Type 0
AreMarkedKnown marks n = (t : TermId) → IsMarked marks t → t.0 < length n.numbers → IsKnown n t

-- the table is full, with so many terms before and so many looked at, and of the marked ones among these it has those that are known
pub record IsFilled (base from : Terms) (marks : List Bool) (to : Terms) (n : Numbers) : Type 0 where
  pub full : most_terms ≤ length to
  pub many : most_terms + 2 < length base + length n.numbers
  pub known : (t u : TermId) → IsMarked marks t → t.0 < length n.numbers → IsEqualTerm from to t u → IsKnown n t

-- the marked ones of the first terms stand in the table, at the numbers that are known, until it is full
pub record AreMade (base from : Terms) (marks : List Bool) (to : Terms) (n : Numbers) : Type 0 where
  pub long : length n.known ≡ length n.numbers
  pub each : (t u : TermId) → IsNumber n t u → StandsFor from to t u
  pub all : AreMarkedKnown marks n ⊎ IsFilled base from marks to n
  pub only : (u : TermId) → u.0 < length to → IsOldOrCopy base from marks to u
  pub few : length to + 2 ≤ length base + length n.numbers
