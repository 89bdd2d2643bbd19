-- The rules on equations, one relation a rule: from equations that are known an equation follows (Reynolds and Blanchette
-- 2015, section 4; congruence closure after Nelson and Oppen 1980). Uniqueness, the rule of codatatypes, stands apart.
use Rattle.std.specs.Prelude.{◌≡◌, ℕ, ◌<◌, ◌⊎◌, Bool, true, false, List, length, Some, slice_get}
use Rattle.std.specs.List.{AllZip}
use Rattle.ct_sorts.specs.declared.ids.CtorId.{CtorId}
use Rattle.ct_sorts.specs.declared.ids.SelId.{SelId}
use Rattle.ct_sorts.specs.declared.ids.SortId.{SortId}
use Rattle.ct_sorts.specs.Declarations.{Declarations, Constructor, Selector}
use Rattle.ct_terms.specs.declared.ids.TermId.{TermId}
use Rattle.ct_terms.specs.declared.term.Core.{Core}
use Rattle.ct_terms.specs.declared.term.Core.TheVariants.{Con, Sel, Test, Eq, Not}
use Rattle.ct_terms.specs.Children.{core_head, core_children}
use Rattle.ct_terms.specs.Terms.{Terms, IsOfSort, Has}
use Rattle.ct_card.specs.Cardinality.{IsSingle}

-- the term `true` or `false`, the first two terms of every table
abbrev pub truth_term : Bool → TermId
truth_term true = record { 0 = 0 }
truth_term false = record { 0 = 1 }

-- equations between terms, as a relation on their numbers
abbrev pub Equations : Type 1
Equations = TermId → TermId → Type 0

-- a term equals itself
pub record IsReflexive (terms : Terms) (x y : TermId) : Type 0 where
  pub inside : x.0 < length terms
  pub one : x ≡ y

-- from x = m and m = y follows x = y
pub record IsTransitive (known : Equations) (x y : TermId) : Type 0 where
  pub middle : TermId
  pub first : known x middle
  pub second : known middle y

-- two terms with one head and arguments that are equal, one for one, are equal
pub record IsCongruence (terms : Terms) (known : Equations) (x y : TermId) : Type 0 where
  pub left : Core
  pub right : Core
  pub left_stands : Has terms left x.0
  pub right_stands : Has terms right y.0
  pub head : core_head left ≡ core_head right
  pub arguments : AllZip known (core_children left) (core_children right)

-- constructors are injective: from C(x ..) = C(y ..) follows x = y at each place
pub record IsInjection (terms : Terms) (known : Equations) (x y : TermId) : Type 0 where
  pub left : TermId
  pub right : TermId
  pub ctor : CtorId
  pub xs : List TermId
  pub ys : List TermId
  pub place : ℕ
  pub equal : known left right
  pub left_stands : Has terms (Con ctor xs) left.0
  pub right_stands : Has terms (Con ctor ys) right.0
  pub left_at : slice_get xs place ≡ Some x
  pub right_at : slice_get ys place ≡ Some y

-- from u = C(x ..) follows s(u) = x, where s is the selector of C at the place of x
pub record IsSelection (d : Declarations) (terms : Terms) (known : Equations) (x y : TermId) : Type 0 where
  pub sel : SelId
  pub selector : Selector
  pub argument : TermId
  pub con : TermId
  pub args : List TermId
  pub stands : Has terms (Sel sel argument) x.0
  pub declared : slice_get d.sels sel.0 ≡ Some selector
  pub equal : known argument con
  pub con_stands : Has terms (Con selector.ctor args) con.0
  pub at : slice_get args selector.place ≡ Some y

-- from u = D(x ..) follows that the test of C on u is `true` where C is D, and else `false`
pub record IsTesting (terms : Terms) (known : Equations) (x y : TermId) : Type 0 where
  pub tested : CtorId
  pub argument : TermId
  pub con : TermId
  pub ctor : CtorId
  pub args : List TermId
  pub stands : Has terms (Test tested argument) x.0
  pub equal : known argument con
  pub con_stands : Has terms (Con ctor args) con.0
  pub answer : ((tested ≡ ctor) × (y ≡ truth_term true)) ⊎ ((tested ≡ ctor → ⊥) × (y ≡ truth_term false))

-- the term is the selector of another term
abbrev pub IsSelected : Terms → TermId → TermId → SelId → Type 0
IsSelected terms u t s = Has terms (Sel s u) t.0

-- where the test of C on u is `true`, u is C over its own selectors: u = C(s1(u) ..)
pub record IsExpansion (d : Declarations) (terms : Terms) (known : Equations) (x y : TermId) : Type 0 where
  pub test : TermId
  pub id : CtorId
  pub ctor : Constructor
  pub args : List TermId
  pub declared : slice_get d.ctors id.0 ≡ Some ctor
  pub holds : known test (truth_term true)
  pub test_stands : Has terms (Test id x) test.0
  pub con_stands : Has terms (Con id args) y.0
  pub fields : AllZip (IsSelected terms x) args ctor.sels

-- the term of an equation that is known is `true`
pub record IsEquationIn (terms : Terms) (known : Equations) (x y : TermId) : Type 0 where
  pub left : TermId
  pub right : TermId
  pub stands : Has terms (Eq left right) x.0
  pub equal : known left right
  pub answer : y ≡ truth_term true

-- an equation whose term is `true` holds
pub record IsEquationOut (terms : Terms) (known : Equations) (x y : TermId) : Type 0 where
  pub term : TermId
  pub stands : Has terms (Eq x y) term.0
  pub holds : known term (truth_term true)

-- the negation of what is `true` is `false`, and the other way round
pub record IsNegation (terms : Terms) (known : Equations) (x y : TermId) : Type 0 where
  pub argument : TermId
  pub stands : Has terms (Not argument) x.0
  pub answer : (known argument (truth_term true) × (y ≡ truth_term false)) ⊎ (known argument (truth_term false) × (y ≡ truth_term true))

-- two terms of a sort that has exactly one value are equal
pub record IsSingleton (d : Declarations) (terms : Terms) (x y : TermId) : Type 0 where
  pub sort : SortId
  pub left : IsOfSort terms x sort
  pub right : IsOfSort terms y sort
  pub single : IsSingle d sort.0

-- the equation x = y follows from those that are known by one of the rules
pub data Follows (d : Declarations) (terms : Terms) (known : Equations) (x y : TermId) : Type 0 where
  by_reflexivity : IsReflexive terms x y → Follows d terms known x y
  by_symmetry : known y x → Follows d terms known x y
  by_transitivity : IsTransitive known x y → Follows d terms known x y
  by_congruence : IsCongruence terms known x y → Follows d terms known x y
  by_injection : IsInjection terms known x y → Follows d terms known x y
  by_selection : IsSelection d terms known x y → Follows d terms known x y
  by_testing : IsTesting terms known x y → Follows d terms known x y
  by_expansion : IsExpansion d terms known x y → Follows d terms known x y
  by_equation_in : IsEquationIn terms known x y → Follows d terms known x y
  by_equation_out : IsEquationOut terms known x y → Follows d terms known x y
  by_negation : IsNegation terms known x y → Follows d terms known x y
  by_singleton : IsSingleton d terms x y → Follows d terms known x y
