-- The table of terms: what stands at each number, and which sort a term has (SMT-LIB 2.7, sections 3.6 and 5.3).
use Rattle.std.specs.Prelude.{◌≡◌, ℕ, ◌<◌, ◌≤◌, ◌⊎◌, List, [], ◌∷◌, ◌++◌, length, take, All, Some, slice_get}
use Rattle.std.specs.List.{AllZip}
use Rattle.ct_sorts.specs.declared.ids.SortId.{SortId}
use Rattle.ct_sorts.specs.declared.ids.SelId.{SelId}
use Rattle.ct_sorts.specs.Declarations.{Declarations, Constructor, Selector, Function, bool_sort}
use Rattle.ct_terms.specs.declared.ids.TermId.{TermId}
use Rattle.ct_terms.specs.declared.term.Core.{Core}
use Rattle.ct_terms.specs.declared.term.Core.TheVariants.{Con, Sel, Test, Apply, Eq, Not, And, Or, Iff, Ite}
pub use Rattle.ct_terms.specs.Children.{HasArgumentsBelow}

-- the terms and their sorts, in the order of their numbers
abbrev pub Terms : Type 0
Terms = List (Core × SortId)

-- the greatest number of terms
abbrev pub most_terms : ℕ
most_terms = 400000

-- the term with this number has this sort
abbrev pub IsOfSort : Terms → TermId → SortId → Type 0
IsOfSort table t s = (core : Core) × (slice_get table t.0 ≡ Some (core, s))

abbrev pub IsBoolean : Terms → TermId → Type 0
IsBoolean table t = IsOfSort table t bool_sort

-- the terms have these sorts, one for one
abbrev pub AreOfSorts : Terms → List TermId → List SortId → Type 0
AreOfSorts table terms sorts = AllZip (IsOfSort table) terms sorts

-- the term has the sort of the selector's field
pub record IsOfField (d : Declarations) (table : Terms) (t : TermId) (s : SelId) : Type 0 where
  pub selector : Selector
  pub declared : slice_get d.sels s.0 ≡ Some selector
  pub sorted : IsOfSort table t selector.sort

-- a constructor with as many terms as it has selectors, each of the sort of its field: a term of the constructor's sort
pub record Constructs (d : Declarations) (table : Terms) (c : ℕ) (args : List TermId) (sort : SortId) : Type 0 where
  pub ctor : Constructor
  pub declared : slice_get d.ctors c ≡ Some ctor
  pub fields : AllZip (IsOfField d table) args ctor.sels
  pub result : sort ≡ ctor.sort

-- the field of a term of the selector's datatype or codatatype, which is the sort of the selector's constructor
pub record Selects (d : Declarations) (table : Terms) (s : ℕ) (t : TermId) (sort : SortId) : Type 0 where
  pub selector : Selector
  pub ctor : Constructor
  pub declared : slice_get d.sels s ≡ Some selector
  pub constructor : slice_get d.ctors selector.ctor.0 ≡ Some ctor
  pub sorted : IsOfSort table t ctor.sort
  pub result : sort ≡ selector.sort

-- whether a term of the constructor's sort is built by the constructor
pub record Tests (d : Declarations) (table : Terms) (c : ℕ) (t : TermId) (sort : SortId) : Type 0 where
  pub ctor : Constructor
  pub declared : slice_get d.ctors c ≡ Some ctor
  pub sorted : IsOfSort table t ctor.sort
  pub result : sort ≡ bool_sort

-- the application of a function to as many terms as it has arguments, of their sorts
pub record Applies (d : Declarations) (table : Terms) (f : ℕ) (args : List TermId) (sort : SortId) : Type 0 where
  pub function : Function
  pub declared : slice_get d.functions f ≡ Some function
  pub sorted : AreOfSorts table args function.args
  pub result : sort ≡ function.result

-- the equality of two terms of one sort, which is not Bool
pub record Equates (table : Terms) (a b : TermId) (sort : SortId) : Type 0 where
  pub side : SortId
  pub left : IsOfSort table a side
  pub right : IsOfSort table b side
  pub other : side ≡ bool_sort → ⊥
  pub result : sort ≡ bool_sort

-- the conjunction or disjunction of one or more Boolean terms
pub record Joins (table : Terms) (args : List TermId) (sort : SortId) : Type 0 where
  pub some : 0 < length args
  pub booleans : All (IsBoolean table) args
  pub result : sort ≡ bool_sort

-- over these terms the term is well sorted, and has this sort
abbrev pub HasSort : Declarations → Terms → Core → SortId → Type 0
HasSort d table (Con c args) sort = Constructs d table c.0 args sort
HasSort d table (Sel s t) sort = Selects d table s.0 t sort
HasSort d table (Test c t) sort = Tests d table c.0 t sort
HasSort d table (Apply f args) sort = Applies d table f.0 args sort
HasSort d table (Eq a b) sort = Equates table a b sort
HasSort d table (Not t) sort = IsOfSort table t bool_sort × (sort ≡ bool_sort)
HasSort d table (And args) sort = Joins table args sort
HasSort d table (Or args) sort = Joins table args sort
HasSort d table (Iff a b) sort = IsBoolean table a × IsBoolean table b × (sort ≡ bool_sort)
HasSort d table (Ite c a b) sort = IsBoolean table c × IsOfSort table a sort × IsOfSort table b sort

abbrev pub IsWellSorted : Declarations → Terms → Core → Type 0
IsWellSorted d table core = (sort : SortId) × HasSort d table core sort

-- every term is well sorted over these declarations, with the sort that stands beside it
abbrev pub AreSorted : Declarations → Terms → Type 0
AreSorted d table = (t : ℕ) (core : Core) (sort : SortId) → slice_get table t ≡ Some (core, sort) → HasSort d table core sort

-- the term is in the table, with this number
abbrev pub Has : Terms → Core → ℕ → Type 0
Has table core t = (sort : SortId) × (slice_get table t ≡ Some (core, sort))

abbrev pub IsAbsent : Terms → Core → Type 0
IsAbsent table core = (t : ℕ) → Has table core t → ⊥

-- the table has the term, with this number: it had it before and is the same, or it has grown by it
abbrev pub Makes : Declarations → Terms → Terms → Core → ℕ → Type 0
Makes d old new core t = ((new ≡ old) × Has old core t) ⊎ (IsAbsent old core × (t ≡ length old) × ((sort : SortId) × HasSort d old core sort × (new ≡ old ++ (core, sort) ∷ [])))

-- `true` and `false`, the first two terms of every table
abbrev pub truth_terms : Terms
truth_terms = (Con (record { 0 = 0 }) [], bool_sort) ∷ ((Con (record { 0 = 1 }) [], bool_sort) ∷ [])

-- `true` and `false` stand first
abbrev pub BeginsWithTruths : Terms → Type 0
BeginsWithTruths table = take 2 table ≡ truth_terms

-- every term comes after the terms under it
abbrev pub AreOrdered : Terms → Type 0
AreOrdered table = (t : ℕ) (core : Core) → Has table core t → HasArgumentsBelow t core

-- two numbers of one term are equal
abbrev pub AreSingle : Terms → Type 0
AreSingle table = (i j : ℕ) (core : Core) → Has table core i → Has table core j → i ≡ j

-- the term under a negation is Boolean
abbrev pub NegatesBooleans : Terms → Type 0
NegatesBooleans table = (t : ℕ) (a : TermId) → Has table (Not a) t → IsOfSort table a bool_sort

-- what every table keeps
pub record IsTermTable (table : Terms) : Type 0 where
  pub few : length table ≤ most_terms
  pub begins : BeginsWithTruths table
  pub ordered : AreOrdered table
  pub single : AreSingle table
  pub negates : NegatesBooleans table

-- the term stands at its number, with its sort
abbrev pub StandsSorted : Declarations → Terms → Core → ℕ → Type 0
StandsSorted d table core t = (sort : SortId) × HasSort d table core sort × (slice_get table t ≡ Some (core, sort))
