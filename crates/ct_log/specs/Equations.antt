-- Which equation a step of a line gives, from those of the steps before it.
use Rattle.std.specs.Prelude.{◌≡◌, ℕ, ◌<◌, ◌⊎◌, true, false, List, [], ◌∷◌, length, take, Contains, Some, slice_get}
use Rattle.std.specs.List.{AllZip}
use Rattle.ct_sorts.specs.declared.ids.CtorId.{CtorId}
use Rattle.ct_sorts.specs.declared.ids.SelId.{SelId}
use Rattle.ct_sorts.specs.Declarations.{Declarations, Constructor, Selector}
use Rattle.ct_terms.specs.declared.ids.TermId.{TermId}
use Rattle.ct_terms.specs.declared.term.Core.{Core}
use Rattle.ct_terms.specs.declared.term.Core.TheVariants as core
use Rattle.ct_terms.specs.Children.{core_head, core_children}
use Rattle.ct_terms.specs.Literal.{opposite}
use Rattle.ct_terms.specs.Clause.{Clause}
use Rattle.ct_terms.specs.Terms.{Terms, Has}
use Rattle.ct_rules.specs.declared.equation.Equation.{Equation}
use Rattle.ct_rules.specs.Rules.{truth_term, IsSelected, IsSingleton}
use Rattle.ct_log.specs.declared.rules.Entry.{Entry}
use Rattle.ct_log.specs.declared.rules.Entry.TheVariants as entry
use Rattle.ct_log.specs.declared.rules.Pair.{Pair}
use Rattle.ct_log.specs.declared.rules.EqStep.{EqStep}
use Rattle.ct_log.specs.declared.rules.EqStep.TheVariants.{Hyp, Refl, Sym, Trans, Cong, Inject, Sel, Test, Expand, EqualIn, EqualOut, Neg, Single, Unique}

-- the equation x = y
abbrev pub equation : TermId → TermId → Equation
equation x y = record { left = x; right = y }

-- the step with this number gave this equation
abbrev pub Gave : List Equation → ℕ → TermId → TermId → Type 0
Gave given number x y = slice_get given number ≡ Some (equation x y)

-- the steps give the equations of the arguments, one for one
abbrev pub GaveEach : List Equation → List ℕ → List TermId → List TermId → Type 0
GaveEach given [] [] [] = Unit {0}
GaveEach given (n ∷ ns) (x ∷ xs) (y ∷ ys) = Gave given n x y × GaveEach given ns xs ys
GaveEach given ns xs ys = ⊥

-- two terms of the table with one head, and one step for the equation of the arguments at each place
pub record AreCongruentBy (terms : Terms) (given : List Equation) (t u : TermId) (steps : List ℕ) : Type 0 where
  pub left : Core
  pub right : Core
  pub left_stands : Has terms left t.0
  pub right_stands : Has terms right u.0
  pub head : core_head left ≡ core_head right
  pub arguments : GaveEach given steps (core_children left) (core_children right)

-- the step gave an equation of two terms of one constructor, which have these arguments at the place
pub record IsInjected (terms : Terms) (given : List Equation) (step place : ℕ) (x y : TermId) : Type 0 where
  pub left : TermId
  pub right : TermId
  pub ctor : CtorId
  pub xs : List TermId
  pub ys : List TermId
  pub equal : Gave given step left right
  pub left_stands : Has terms (core.Con ctor xs) left.0
  pub right_stands : Has terms (core.Con ctor ys) right.0
  pub left_at : slice_get xs place ≡ Some x
  pub right_at : slice_get ys place ≡ Some y

-- the term is the selector of a term that the step gave as equal to a term of the selector's constructor, whose argument at
-- the selector's place is y
pub record IsSelectedBy (d : Declarations) (terms : Terms) (given : List Equation) (t : TermId) (step : ℕ) (y : TermId) : Type 0 where
  pub sel : SelId
  pub selector : Selector
  pub argument : TermId
  pub con : TermId
  pub args : List TermId
  pub stands : Has terms (core.Sel sel argument) t.0
  pub declared : slice_get d.sels sel.0 ≡ Some selector
  pub equal : Gave given step argument con
  pub con_stands : Has terms (core.Con selector.ctor args) con.0
  pub at : slice_get args selector.place ≡ Some y

-- the term is the test of a term that the step gave as equal to a constructor term, and y is the answer
pub record IsTestedBy (terms : Terms) (given : List Equation) (t : TermId) (step : ℕ) (y : TermId) : Type 0 where
  pub tested : CtorId
  pub argument : TermId
  pub con : TermId
  pub ctor : CtorId
  pub args : List TermId
  pub stands : Has terms (core.Test tested argument) t.0
  pub equal : Gave given step argument con
  pub con_stands : Has terms (core.Con ctor args) con.0
  pub answer : ((tested ≡ ctor) × (y ≡ truth_term true)) ⊎ ((tested ≡ ctor → ⊥) × (y ≡ truth_term false))

-- the step gave that the test of the constructor on x is `true`, and the term is the constructor over the selectors of x
pub record IsExpandedBy (d : Declarations) (terms : Terms) (given : List Equation) (step : ℕ) (c x : TermId) : Type 0 where
  pub test : TermId
  pub id : CtorId
  pub ctor : Constructor
  pub args : List TermId
  pub declared : slice_get d.ctors id.0 ≡ Some ctor
  pub holds : Gave given step test (truth_term true)
  pub test_stands : Has terms (core.Test id x) test.0
  pub con_stands : Has terms (core.Con id args) c.0
  pub fields : AllZip (IsSelected terms x) args ctor.sels

-- the entry says why the arguments x and y are equal: by a step, or by a pair whose sides they equal by two steps
abbrev pub IsEntryFor : List Equation → List Pair → Entry → TermId → TermId → Type 0
IsEntryFor given pairs (entry.Step i) x y = Gave given i x y
IsEntryFor given pairs (entry.Pair k i j) x y =
    (pair : Pair) × (slice_get pairs k ≡ Some pair) × Gave given i x pair.left × Gave given j pair.right y

-- one entry for the arguments at each place
abbrev pub AreEntriesFor : List Equation → List Pair → List Entry → List TermId → List TermId → Type 0
AreEntriesFor given pairs [] [] [] = Unit {0}
AreEntriesFor given pairs (e ∷ es) (x ∷ xs) (y ∷ ys) = IsEntryFor given pairs e x y × AreEntriesFor given pairs es xs ys
AreEntriesFor given pairs es xs ys = ⊥

-- the pair is of two terms of one constructor, with an entry for the arguments at each place
pub record IsPairBy (terms : Terms) (given : List Equation) (pairs : List Pair) (pair : Pair) : Type 0 where
  pub ctor : CtorId
  pub xs : List TermId
  pub ys : List TermId
  pub left_stands : Has terms (core.Con ctor xs) pair.left.0
  pub right_stands : Has terms (core.Con ctor ys) pair.right.0
  pub entries : AreEntriesFor given pairs pair.entries xs ys

-- every pair is so, and the pair with this number is of x and y
pub record AreUnique (terms : Terms) (given : List Equation) (number : ℕ) (pairs : List Pair) (x y : TermId) : Type 0 where
  pub asked : Pair
  pub stands : slice_get pairs number ≡ Some asked
  pub left : asked.left ≡ x
  pub right : asked.right ≡ y
  pub each : (index : ℕ) (pair : Pair) → slice_get pairs index ≡ Some pair → IsPairBy terms given pairs pair

-- the step gives x = y in a line with this clause, after steps that gave these equations
abbrev pub Gives : Declarations → Terms → Clause → List Equation → EqStep → TermId → TermId → Type 0
Gives d terms clause given (Hyp l) x y = Contains clause (opposite l) × (x ≡ l.term) × (y ≡ truth_term l.positive)
Gives d terms clause given (Refl t) x y = (t.0 < length terms) × (x ≡ t) × (y ≡ t)
Gives d terms clause given (Sym i) x y = Gave given i y x
Gives d terms clause given (Trans i j) x y = (m : TermId) × Gave given i x m × Gave given j m y
Gives d terms clause given (Cong t u steps) x y = (x ≡ t) × (y ≡ u) × AreCongruentBy terms given t u steps
Gives d terms clause given (Inject i k) x y = IsInjected terms given i k x y
Gives d terms clause given (Sel t i) x y = (x ≡ t) × IsSelectedBy d terms given t i y
Gives d terms clause given (Test t i) x y = (x ≡ t) × IsTestedBy terms given t i y
Gives d terms clause given (Expand i c) x y = (y ≡ c) × IsExpandedBy d terms given i c x
Gives d terms clause given (EqualIn t i) x y =
    (x ≡ t) × (y ≡ truth_term true) × ((a b : TermId) × Has terms (core.Eq a b) t.0 × Gave given i a b)
Gives d terms clause given (EqualOut i) x y = (t : TermId) × Gave given i t (truth_term true) × Has terms (core.Eq x y) t.0
Gives d terms clause given (Neg t i) x y =
    (x ≡ t) × ((a : TermId) × Has terms (core.Not a) t.0
    × ((Gave given i a (truth_term true) × (y ≡ truth_term false)) ⊎ (Gave given i a (truth_term false) × (y ≡ truth_term true))))
Gives d terms clause given (Single t u) x y = (x ≡ t) × (y ≡ u) × IsSingleton d terms t u
Gives d terms clause given (Unique p pairs) x y = AreUnique terms given p pairs x y

-- the steps give these equations, each from those before it
pub record GiveAll (d : Declarations) (terms : Terms) (clause : Clause) (steps : List EqStep) (given : List Equation) : Type 0 where
  pub long : length given ≡ length steps
  pub each : (index : ℕ) (step : EqStep) (e : Equation) → slice_get steps index ≡ Some step → slice_get given index ≡ Some e
      → Gives d terms clause (take index given) step e.left e.right
