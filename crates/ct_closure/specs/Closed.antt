-- When a set of core terms is closed, and the closure of some terms: the least closed set that has them. Its rules are those
-- that a search needs for subterms, conditionals and splits (Reynolds and Blanchette 2015, on splitting and on finite sorts).
use Rattle.std.specs.Prelude.{◌≡◌, ◌↔◌, ℕ, ◌⊎◌, List, [], ◌∷◌, ◌++◌, ◌<◌, length, Some, slice_get, Contains}
use Rattle.ct_sorts.specs.declared.ids.CtorId.{CtorId}
use Rattle.ct_sorts.specs.declared.ids.SelId.{SelId}
use Rattle.ct_sorts.specs.declared.ids.SortId.{SortId}
use Rattle.ct_sorts.specs.declared.ids.Kind.TheVariants.{Data, Codata}
use Rattle.ct_sorts.specs.Declarations.{Declarations, Sort, bool_sort}
use Rattle.ct_card.specs.declared.size.Size.TheVariants.{Finite}
use Rattle.ct_card.specs.Cardinality.{HasSize}
use Rattle.ct_terms.specs.CoreTree.{CoreTree, con, sel, test, equation, negation, choice, no_trees, trees_of, subtrees}
use Rattle.ct_terms.specs.CoreSorts.{HasTreeSort}
use Rattle.ct_terms.specs.Fields.{fields_of, ctor_ids_of_sort}

-- `true` and `false`
abbrev pub truth_trees : List CoreTree
truth_trees = con (record { 0 = 0 }) no_trees ∷ (con (record { 0 = 1 }) no_trees ∷ [])

-- the sort is a datatype or a codatatype
abbrev pub IsStructured : Declarations → SortId → Type 0
IsStructured d s = (sort : Sort) × (slice_get d.sorts s.0 ≡ Some sort) × ((sort.kind ≡ Data) ⊎ (sort.kind ≡ Codata))

-- the term is built by a constructor
abbrev pub IsBuilt : CoreTree → Type 0
IsBuilt (con c ts) = Unit {0}
IsBuilt t = ⊥

-- the term is the argument of a selection or of a test in the set
abbrev pub IsInspected : (CoreTree → Type 0) → CoreTree → Type 0
IsInspected In t = ((s : SelId) × In (sel s t)) ⊎ ((c : CtorId) × In (test c t))

-- the term of the set is split: it is of a datatype or codatatype, of this sort, and no constructor term; and it is
-- inspected, or its sort has more than one and finitely many values
pub record IsSplit (d : Declarations) (In : CoreTree → Type 0) (t : CoreTree) (sort : SortId) : Type 0 where
  pub member : In t
  pub sorted : HasTreeSort d t sort
  pub structured : IsStructured d sort
  pub unbuilt : IsBuilt t → ⊥
  pub cause : IsInspected In t ⊎ HasSize d sort.0 Finite

-- the set is closed: it has the subterms of its terms; for each conditional that is no formula, its equations with both of its
-- branches; for each term that is split and each constructor of its sort, the test, and the constructor term over the fields
pub record IsClosed (d : Declarations) (In : CoreTree → Type 0) : Type 0 where
  pub subterms : (t s : CoreTree) → In t → Contains (subtrees t) s → In s
  pub conditionals : (c a b : CoreTree) (sort : SortId) → In (choice c a b) → HasTreeSort d (choice c a b) sort → (sort ≡ bool_sort → ⊥) → In (equation (choice c a b) a) × In (equation (choice c a b) b)
  pub splits : (t : CoreTree) (sort : SortId) (c : CtorId) → IsSplit d In t sort → Contains (ctor_ids_of_sort d sort) c → In (test c t) × In (con c (trees_of (fields_of d c t)))

-- the set is closed, and has `true`, `false` and these terms
pub record IsClosedOver (d : Declarations) (roots : List CoreTree) (In : CoreTree → Type 0) : Type 0 where
  pub rooted : (t : CoreTree) → Contains (truth_trees ++ roots) t → In t
  pub closed : IsClosed d In

-- the term is in the closure of these: in each such set, and so in the least one
abbrev pub InClosure : Declarations → List CoreTree → CoreTree → Type 0
InClosure d roots t = (set : List CoreTree) → IsClosedOver d roots (Contains set) → Contains set t

-- the greatest number of terms in a closure that is made
abbrev pub most_closure_terms : ℕ
most_closure_terms = 200000

-- no two indices have one term
abbrev pub AreDifferent : List CoreTree → Type 0
AreDifferent ts = (i j : ℕ) (t : CoreTree) → slice_get ts i ≡ Some t → slice_get ts j ≡ Some t → i ≡ j

-- the closure of these has more than this many terms
pub record HasMoreThan (d : Declarations) (roots : List CoreTree) (count : ℕ) : Type 0 where
  pub members : List CoreTree
  pub many : count < length members
  pub different : AreDifferent members
  pub inside : (t : CoreTree) → Contains members t → InClosure d roots t

-- the term is a negation
abbrev pub IsNegation : CoreTree → Type 0
IsNegation (negation t) = Unit {0}
IsNegation t = ⊥

-- the term is a propositional variable: Boolean, and neither `true`, `false` nor a negation
pub record IsVariable (d : Declarations) (t : CoreTree) : Type 0 where
  pub boolean : HasTreeSort d t bool_sort
  pub other : Contains truth_trees t → ⊥
  pub positive : IsNegation t → ⊥

-- so many terms of the closure of these are propositional variables
pub record HasVariables (d : Declarations) (roots : List CoreTree) (count : ℕ) : Type 0 where
  pub variables : List CoreTree
  pub number : length variables ≡ count
  pub different : AreDifferent variables
  pub exact : (t : CoreTree) → Contains variables t ↔ (InClosure d roots t × IsVariable d t)
