-- What making terms does to a table: it grows by terms of a list, and where it is full it lacks one of them.
use Rattle.std.specs.Prelude.{◌≡◌, ℕ, ◌+◌, ◌<◌, ◌≤◌, List, ◌++◌, length, Contains, Some, slice_get}
use Rattle.std.specs.List.{AllZip, AllByRecursion}
use Rattle.ct_sorts.specs.Declarations.{Declarations}
use Rattle.ct_terms.specs.declared.ids.TermId.{TermId}
use Rattle.ct_terms.specs.Terms.{Terms, AreSorted, AreOrdered, AreSingle, most_terms}
use Rattle.ct_terms.specs.CoreTree.{CoreTree, subtrees, term_at}
use Rattle.ct_operators.specs.Theorems.{Theorems}

-- the tree stands at the number
abbrev pub Stands : Terms → TermId → CoreTree → Type 0
Stands table t tree = (t.0 < length table) × (term_at table t ≡ tree)

-- the trees stand at the numbers, one for one
abbrev pub AllStand : Terms → List TermId → List CoreTree → Type 0
AllStand table ts trees = AllZip (Stands table) ts trees

-- the table is well sorted, its terms come after the terms under them, and each has one number; and the theorems hold
pub record IsSoundTable (d : Declarations) (table : Terms) : Type 0 where
  pub theorems : Theorems
  pub sorted : AreSorted d table
  pub ordered : AreOrdered table
  pub single : AreSingle table

-- the subterms of the tree are in the list
abbrev pub Within : List CoreTree → CoreTree → Type 0
Within allowed tree = (s : CoreTree) → Contains (subtrees tree) s → Contains allowed s

-- the first table is the first part of the second
abbrev pub IsPrefix : Terms → Terms → Type 0
IsPrefix old new = (more : Terms) × (new ≡ old ++ more)

-- every new term is in the list
abbrev pub AddsTrees : List CoreTree → Terms → Terms → Type 0
AddsTrees allowed old new = (t : TermId) → length old ≤ t.0 → t.0 < length new → Contains allowed (term_at new t)

-- the table does not have the tree
abbrev pub IsMissing : Terms → CoreTree → Type 0
IsMissing table tree = (t : TermId) → t.0 < length table → term_at table t ≡ tree → ⊥

-- the table is full, and does not have some tree of the list
abbrev pub Lacks : List CoreTree → Terms → Type 0
Lacks allowed table = (tree : CoreTree) × Contains allowed tree × IsMissing table tree × (most_terms ≤ length table)

-- the table has grown by trees of the list; where it was found full, it lacks one of them
pub record Effect (d : Declarations) (allowed : List CoreTree) (old new : Terms) (full : Type 0) : Type 0 where
  pub grown : IsPrefix old new
  pub kept : IsSoundTable d new
  pub adds : AddsTrees allowed old new
  pub lacks : full → Lacks allowed new

-- the subterms of each of these are
abbrev pub AllWithin : List CoreTree → List CoreTree → Type 0
AllWithin allowed trees = AllByRecursion (Within allowed) trees

-- pairwise different trees
abbrev pub AreDifferent : List CoreTree → Type 0
AreDifferent trees = (i j : ℕ) (t : CoreTree) → slice_get trees i ≡ Some t → slice_get trees j ≡ Some t → i ≡ j

-- these trees of the list, none of which the table has, are more than it has room for
pub record DoNotFit (allowed : List CoreTree) (table : Terms) (trees : List CoreTree) : Type 0 where
  pub different : AreDifferent trees
  pub inside : (i : ℕ) (t : CoreTree) → slice_get trees i ≡ Some t → Contains allowed t
  pub missing : (i : ℕ) (t : CoreTree) → slice_get trees i ≡ Some t → IsMissing table t
  pub many : most_terms < length table + length trees
