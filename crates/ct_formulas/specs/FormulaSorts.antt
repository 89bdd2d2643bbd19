-- Which formulas are well sorted, and when definitions with bodies are sound (SMT-LIB 2.7, sections 3.6, 4.2.3 and 5.3).
use Rattle.std.specs.Prelude.{◌≡◌, ℕ, ◌⊎◌, List, [], ◌∷◌, length, take, Some, slice_get}
use Rattle.ct_sorts.specs.declared.ids.CtorId.{CtorId}
use Rattle.ct_sorts.specs.declared.ids.SortId.{SortId}
use Rattle.ct_sorts.specs.declared.ids.Kind.TheVariants.{Data, Codata}
use Rattle.ct_sorts.specs.Declarations.{Declarations, Sort, Constructor, Selector, Function, bool_sort}
use Rattle.ct_formulas.specs.declared.tree.Pattern.{Pattern}
use Rattle.ct_formulas.specs.declared.tree.Pattern.TheVariants.{Ctor, Any}
use Rattle.ct_terms.specs.CoreSorts.{AreFieldSorts}
use Rattle.ct_formulas.specs.Choices.{AreQuantifiable}
use Rattle.ct_formulas.specs.Formula.{Formula, Formulas, Cases, Var, Con, Sel, Test, Apply, Def, Not, And, Or, Xor, Implies, Equal, Distinct, Ite, Let, Match, Quantified, no_formulas, with_formula, no_cases, with_case, bind, MentionsBelow}

-- one or more formulas, and two or more
abbrev pub HasFormula : Formulas → Type 0
HasFormula no_formulas = ⊥
HasFormula (with_formula t ts) = Unit {0}

abbrev pub AreAtLeastTwo : Formulas → Type 0
AreAtLeastTwo no_formulas = ⊥
AreAtLeastTwo (with_formula t ts) = HasFormula ts

-- the sort is a datatype or a codatatype: its values may be matched
abbrev pub IsMatchable : Declarations → SortId → Type 0
IsMatchable d s = (sort : Sort) × (slice_get d.sorts s.0 ≡ Some sort) × ((sort.kind ≡ Data) ⊎ (sort.kind ≡ Codata))

-- the pattern fits values of the sort and binds variables of these sorts, in order: the fields of a constructor of the
-- sort, or the value itself
abbrev pub BindsSorts : Declarations → SortId → Pattern → List SortId → Type 0
BindsSorts d side (Ctor c) sorts = (ctor : Constructor) × (slice_get d.ctors c.0 ≡ Some ctor) × (ctor.sort ≡ side) × AreFieldSorts d ctor.sels sorts
BindsSorts d side Any sorts = sorts ≡ side ∷ []

-- some case has this pattern
abbrev pub HasPattern : Pattern → Cases → Type 0
HasPattern p no_cases = ⊥
HasPattern p (with_case q body cases) = (p ≡ q) ⊎ HasPattern p cases

-- some case fits everything, or each constructor of the sort has a case
abbrev pub IsExhaustive : Declarations → SortId → Cases → Type 0
IsExhaustive d side cases = HasPattern Any cases ⊎ ((c : CtorId) (ctor : Constructor) → slice_get d.ctors c.0 ≡ Some ctor → ctor.sort ≡ side → HasPattern (Ctor c) cases)

-- there is at least one case
abbrev pub HasSomeCase : Cases → Type 0
HasSomeCase no_cases = ⊥
HasSomeCase (with_case p body cases) = Unit {0}

abbrev mutual
  -- the formula is well sorted where its variables have the sorts of the environment, and has this sort: one line a form
  pub IsSorted : Declarations → List SortId → Formula → SortId → Type 0
  IsSorted d env (Var i) sort = slice_get env i ≡ Some sort
  IsSorted d env (Con c ts) sort = (ctor : Constructor) × (fields : List SortId) × (slice_get d.ctors c.0 ≡ Some ctor) × AreFieldSorts d ctor.sels fields × AllSorted d env ts fields × (ctor.sort ≡ sort)
  IsSorted d env (Sel s t) sort = (selector : Selector) × (ctor : Constructor) × (slice_get d.sels s.0 ≡ Some selector) × (slice_get d.ctors selector.ctor.0 ≡ Some ctor) × IsSorted d env t ctor.sort × (selector.sort ≡ sort)
  IsSorted d env (Test c t) sort = (ctor : Constructor) × (slice_get d.ctors c.0 ≡ Some ctor) × IsSorted d env t ctor.sort × (bool_sort ≡ sort)
  IsSorted d env (Apply f ts) sort = (function : Function) × (slice_get d.functions f.0 ≡ Some function) × AllSorted d env ts function.args × (function.result ≡ sort)
  IsSorted d env (Def k ts) sort = (definition : Function) × (slice_get d.definitions k.0 ≡ Some definition) × AllSorted d env ts definition.args × (definition.result ≡ sort)
  IsSorted d env (Not t) sort = IsSorted d env t bool_sort × (bool_sort ≡ sort)
  IsSorted d env (And ts) sort = HasFormula ts × AreOfSort d env ts bool_sort × (bool_sort ≡ sort)
  IsSorted d env (Or ts) sort = HasFormula ts × AreOfSort d env ts bool_sort × (bool_sort ≡ sort)
  IsSorted d env (Xor ts) sort = AreAtLeastTwo ts × AreOfSort d env ts bool_sort × (bool_sort ≡ sort)
  IsSorted d env (Implies ts) sort = AreAtLeastTwo ts × AreOfSort d env ts bool_sort × (bool_sort ≡ sort)
  IsSorted d env (Equal ts) sort = (side : SortId) × AreAtLeastTwo ts × AreOfSort d env ts side × (bool_sort ≡ sort)
  IsSorted d env (Distinct ts) sort = (side : SortId) × AreAtLeastTwo ts × AreOfSort d env ts side × (bool_sort ≡ sort)
  IsSorted d env (Ite c t u) sort = IsSorted d env c bool_sort × IsSorted d env t sort × IsSorted d env u sort
  IsSorted d env (Let ts u) sort = (sorts : List SortId) × HasFormula ts × AllSorted d env ts sorts × IsSorted d (bind sorts env) u sort
  IsSorted d env (Match t cases) sort = (side : SortId) × IsSorted d env t side × IsMatchable d side × HasSomeCase cases × AreSortedCases d env side cases sort × IsExhaustive d side cases
  IsSorted d env (Quantified q sorts t) sort = AreQuantifiable d sorts × IsSorted d (bind sorts env) t bool_sort × (bool_sort ≡ sort)

  -- the formulas have these sorts, one for one
  pub AllSorted : Declarations → List SortId → Formulas → List SortId → Type 0
  AllSorted d env no_formulas [] = Unit {0}
  AllSorted d env no_formulas (s ∷ sorts) = ⊥
  AllSorted d env (with_formula t ts) [] = ⊥
  AllSorted d env (with_formula t ts) (s ∷ sorts) = IsSorted d env t s × AllSorted d env ts sorts

  -- every formula has this sort
  pub AreOfSort : Declarations → List SortId → Formulas → SortId → Type 0
  AreOfSort d env no_formulas sort = Unit {0}
  AreOfSort d env (with_formula t ts) sort = IsSorted d env t sort × AreOfSort d env ts sort

  -- each case fits values of the one sort, and its body has the other, with the pattern's variables bound
  pub AreSortedCases : Declarations → List SortId → SortId → Cases → SortId → Type 0
  AreSortedCases d env side no_cases sort = Unit {0}
  AreSortedCases d env side (with_case p body cases) sort = ((sorts : List SortId) × BindsSorts d side p sorts × IsSorted d (bind sorts env) body sort) × AreSortedCases d env side cases sort

-- the definitions have one body each, which is of the definition's result over its parameters and names earlier definitions
-- alone
pub record AreSound (d : Declarations) (bodies : List Formula) : Type 0 where
  pub one_each : length bodies ≡ length d.definitions
  pub sorted : (k : ℕ) (definition : Function) (body : Formula) → slice_get d.definitions k ≡ Some definition → slice_get bodies k ≡ Some body → IsSorted d (bind definition.args []) body definition.result
  pub earlier : (k : ℕ) (body : Formula) → slice_get bodies k ≡ Some body → MentionsBelow k body

-- the declarations with their first definitions alone
abbrev pub cut_definitions : Declarations → ℕ → Declarations
cut_definitions d n = record d { definitions = take n d.definitions }
