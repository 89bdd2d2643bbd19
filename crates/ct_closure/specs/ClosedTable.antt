-- Closed sets of terms as tables: what is closed, what is split and what is asked of a split, by numbers.
use Rattle.std.specs.Prelude.{◌≡◌, ℕ, ◌<◌, ◌⊎◌, List, ◌++◌, length, map, Some, slice_get, Contains}
use Rattle.std.specs.List.{AllZip}
use Rattle.ct_sorts.specs.declared.ids.CtorId.{CtorId}
use Rattle.ct_sorts.specs.declared.ids.SelId.{SelId}
use Rattle.ct_sorts.specs.declared.ids.SortId.{SortId}
use Rattle.ct_sorts.specs.Declarations.{Declarations}
use Rattle.ct_card.specs.declared.size.Size.TheVariants.{Finite}
use Rattle.ct_card.specs.Cardinality.{HasSize}
use Rattle.ct_card.specs.Fields.{sels_of}
use Rattle.ct_terms.specs.declared.ids.TermId.{TermId}
use Rattle.ct_terms.specs.declared.term.Core.{Core}
use Rattle.ct_terms.specs.declared.term.Core.TheVariants.{Con, Sel, Test}
use Rattle.ct_terms.specs.Terms.{Terms, Has}
use Rattle.ct_terms.specs.CoreTree.{CoreTree, subtrees, term_at}
use Rattle.ct_terms.specs.Fields.{ctor_ids_of_sort}
use Rattle.ct_closure.specs.Closed.{IsStructured, IsClosed, truth_trees}

-- the term stands in the table, at some number
abbrev pub HasTree : Terms → CoreTree → Type 0
HasTree table t = (n : TermId) × (n.0 < length table) × (term_at table n ≡ t)

-- the terms of the table are closed
abbrev pub IsClosedTable : Declarations → Terms → Type 0
IsClosedTable d table = IsClosed d (HasTree table)

-- the trees of the terms with these numbers
abbrev pub terms_at : Terms → List TermId → List CoreTree
terms_at table ts = map (term_at table) ts

-- each term of the table is a subterm of `true`, of `false` or of one of these
abbrev pub AreSubtermsOf : Terms → List TermId → Type 0
AreSubtermsOf table roots = (t : TermId) → t.0 < length table → (root : CoreTree) × Contains (truth_trees ++ terms_at table roots) root × Contains (subtrees root) (term_at table t)

-- the table has the term
abbrev pub IsPresent : Terms → Core → Type 0
IsPresent table core = (n : ℕ) × Has table core n

-- the term is built by a constructor
abbrev pub IsConstruction : Core → Type 0
IsConstruction (Con c args) = Unit {0}
IsConstruction core = ⊥

-- the term is of a datatype or codatatype, of this sort, and no constructor term
pub record IsOpen (d : Declarations) (table : Terms) (t : TermId) (sort : SortId) : Type 0 where
  pub core : Core
  pub stands : slice_get table t.0 ≡ Some (core, sort)
  pub structured : IsStructured d sort
  pub unbuilt : IsConstruction core → ⊥

-- the term is the argument of a selection or of a test
abbrev pub IsArgument : Terms → TermId → Type 0
IsArgument table t = ((s : SelId) × IsPresent table (Sel s t)) ⊎ ((c : CtorId) × IsPresent table (Test c t))

-- the term is split
pub record IsSplitTerm (d : Declarations) (table : Terms) (t : TermId) (sort : SortId) : Type 0 where
  pub unsettled : IsOpen d table t sort
  pub cause : IsArgument table t ⊎ HasSize d sort.0 Finite

-- the number is that of the field of a term by this selector
abbrev pub IsFieldTerm : Terms → TermId → SelId → TermId → Type 0
IsFieldTerm table t s field = Has table (Sel s t) field.0

-- the table has what a split on this constructor needs: the test of the term, its fields, and the constructor term over these
pub record HasCase (d : Declarations) (table : Terms) (t : TermId) (c : CtorId) : Type 0 where
  pub tested : IsPresent table (Test c t)
  pub args : List TermId
  pub fields : AllZip (IsFieldTerm table t) (sels_of d c) args
  pub built : IsPresent table (Con c args)

-- and so for each constructor of the sort
abbrev pub HasCases : Declarations → Terms → TermId → SortId → Type 0
HasCases d table t sort = (c : CtorId) → Contains (ctor_ids_of_sort d sort) c → HasCase d table t c

-- the numbers rise
abbrev pub AreRising : List TermId → Type 0
AreRising ts = (i j : ℕ) (t u : TermId) → i < j → slice_get ts i ≡ Some t → slice_get ts j ≡ Some u → t.0 < u.0

-- what is known of a closure beside its table: the terms that are split, and how many terms are propositional variables
pub record ClosureValue : Type 0 where
  pub split : List TermId
  pub variables : ℕ
