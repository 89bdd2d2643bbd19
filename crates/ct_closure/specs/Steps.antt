-- How a table is closed step by step: terms in the order of their numbers, each with what the rules ask for it.
use Rattle.std.specs.Prelude.{◌≡◌, ◌<◌, ◌⊎◌, Bool, true, List, [], ◌∷◌, ◌++◌, length, Some, slice_get, Contains}
use Rattle.ct_sorts.specs.declared.ids.CtorId.{CtorId}
use Rattle.ct_sorts.specs.declared.ids.SelId.{SelId}
use Rattle.ct_sorts.specs.declared.ids.SortId.{SortId}
use Rattle.ct_sorts.specs.Declarations.{Declarations, bool_sort}
use Rattle.ct_sorts.specs.Grown.{Begins}
use Rattle.ct_card.specs.declared.size.Size.TheVariants.{Finite}
use Rattle.ct_card.specs.Cardinality.{HasSize}
use Rattle.ct_terms.specs.declared.ids.TermId.{TermId}
use Rattle.ct_terms.specs.declared.term.Core.{Core}
use Rattle.ct_terms.specs.declared.term.Core.TheVariants.{Sel, Test, Eq, Ite}
use Rattle.ct_terms.specs.Terms.{Terms, HasSort, AreSorted, AreOrdered, AreSingle, Has}
use Rattle.ct_terms.specs.CoreTree.{CoreTree, term_at}
use Rattle.ct_terms.specs.Fields.{ctor_ids_of_sort}
use Rattle.ct_closure.specs.Closed.{IsClosed}
use Rattle.ct_closure.specs.ClosedTable.{IsPresent, IsOpen, IsSplitTerm, HasCases}

-- what holds of each table, where it is well sorted
pub record IsSound (d : Declarations) (table : Terms) : Type 0 where
  pub sorted : AreSorted d table
  pub ordered : AreOrdered table
  pub single : AreSingle table

-- each term of the table is in the set
abbrev pub AreIn : List CoreTree → Terms → Type 0
AreIn set table = (t : TermId) → t.0 < length table → Contains set (term_at table t)

-- the table is as it was, or has this term more
abbrev pub IsAdded : Declarations → Terms → Terms → Core → Type 0
IsAdded d old new core = (new ≡ old) ⊎ ((sort : SortId) × HasSort d old core sort × (new ≡ old ++ (core, sort) ∷ []))

-- the table has grown by terms that each closed set has, if it has those that were there
pub record IsStep (d : Declarations) (old new : Terms) : Type 0 where
  pub grown : Begins old new
  pub sound : IsSound d new
  pub forced : (set : List CoreTree) → IsClosed d (Contains set) → AreIn set old → AreIn set new

-- a case of the term's split: the term is split, and the constructor is one of its sort's
abbrev pub IsCaseOf : Declarations → Terms → TermId → CtorId → Type 0
IsCaseOf d table t c = (sort : SortId) × IsSplitTerm d table t sort × Contains (ctor_ids_of_sort d sort) c

-- the term is marked: its cases are there
abbrev pub IsMarked : List Bool → TermId → Type 0
IsMarked marks t = slice_get marks t.0 ≡ Some true

-- each marked term is split, and has its cases
abbrev pub AreMarked : Declarations → Terms → List Bool → Type 0
AreMarked d table marks = (t : TermId) → IsMarked marks t → (sort : SortId) × IsSplitTerm d table t sort × HasCases d table t sort

-- the marks stay, and more may be there
pub record HasMarks (d : Declarations) (table : Terms) (before after : List Bool) : Type 0 where
  pub long : length after ≡ length before
  pub stay : (t : TermId) → IsMarked before t → IsMarked after t
  pub marked : AreMarked d table after

-- where the term is a conditional that is no formula, its equations with both branches are there
abbrev pub IsConditionalTaken : Terms → TermId → Type 0
IsConditionalTaken table t = (c a b : TermId) (sort : SortId) → slice_get table t.0 ≡ Some (Ite c a b, sort) → (sort ≡ bool_sort → ⊥) → IsPresent table (Eq t a) × IsPresent table (Eq t b)

-- the first term is the argument of the second, which is a selection or a test
abbrev pub IsArgumentOf : Terms → TermId → TermId → Type 0
IsArgumentOf table x t = ((s : SelId) × Has table (Sel s x) t.0) ⊎ ((c : CtorId) × Has table (Test c x) t.0)

-- where the term is a selection or a test, its argument is marked, if that is split
abbrev pub IsArgumentTaken : Declarations → Terms → List Bool → TermId → Type 0
IsArgumentTaken d table marks t = (x : TermId) (sort : SortId) → IsArgumentOf table x t → IsOpen d table x sort → IsMarked marks x

-- where the term is of a sort of finitely many values and more than one, it is marked, if it is split
abbrev pub IsFiniteTaken : Declarations → Terms → List Bool → TermId → Type 0
IsFiniteTaken d table marks t = (sort : SortId) → IsOpen d table t sort → HasSize d sort.0 Finite → IsMarked marks t

-- what the rules ask for the term is there
pub record IsTaken (d : Declarations) (table : Terms) (marks : List Bool) (t : TermId) : Type 0 where
  pub conditional : IsConditionalTaken table t
  pub argument : IsArgumentTaken d table marks t
  pub finite : IsFiniteTaken d table marks t

-- what the rules ask for the first terms, as many as there are marks, is there
pub record IsUnderWay (d : Declarations) (table : Terms) (marks : List Bool) : Type 0 where
  pub taken : (t : TermId) → t.0 < length marks → IsTaken d table marks t
  pub marked : AreMarked d table marks
