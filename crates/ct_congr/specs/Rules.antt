-- When known equations are closed under rules, rule by rule.
use Rattle.std.specs.Prelude.{◌≡◌, ◌⊎◌, ℕ, ◌<◌, ◌↔◌, Bool, true, false, not, List, Some, None, Option, slice_get}
use Rattle.ct_sorts.specs.declared.ids.CtorId.{CtorId}
use Rattle.ct_sorts.specs.declared.ids.SortId.{SortId}
use Rattle.ct_sorts.specs.Declarations.{Declarations}
use Rattle.ct_terms.specs.declared.ids.TermId.{TermId}
use Rattle.ct_terms.specs.declared.term.Core.{Core}
use Rattle.ct_terms.specs.declared.term.Core.TheVariants.{Con, Sel, Test, Eq, Not}
use Rattle.ct_terms.specs.Terms.{Terms, Has}
use Rattle.ct_rules.specs.Rules.{Equations, IsCongruence, IsInjection, IsSelection, IsTesting, IsExpansion, IsEquationIn, IsEquationOut, IsNegation, IsSingleton, truth_term}
use Rattle.ct_card.specs.Cardinality.{IsSingle}
use Rattle.ct_congr.specs.Partition.{InOneClass}
use Rattle.ct_congr.specs.declared.constructors.Shape.{Shape}

-- the equations are closed under the rules for which this term stands at the number
abbrev pub IsClosedAt : Declarations → Terms → Equations → TermId → Core → Type 0
IsClosedAt d terms known t (Sel s u) = (y : TermId) → IsSelection d terms known t y → known t y
IsClosedAt d terms known t (Test c u) = ((y : TermId) → IsTesting terms known t y → known t y) × ((x y : TermId) (rule : IsExpansion d terms known x y) → rule.test ≡ t → known x y)
IsClosedAt d terms known t (Eq a b) = ((y : TermId) → IsEquationIn terms known t y → known t y) × ((x y : TermId) (rule : IsEquationOut terms known x y) → rule.term ≡ t → known x y)
IsClosedAt d terms known t (Not a) = (y : TermId) → IsNegation terms known t y → known t y
IsClosedAt d terms known t _ = Unit {0}

-- the same for whatever stands at the number
abbrev pub AreClosedOf : Declarations → Terms → Equations → TermId → Type 0
AreClosedOf d terms known t = (core : Core) → Has terms core t.0 → IsClosedAt d terms known t core

-- closed under these rules for all terms below a number
abbrev pub AreClosedBelow : Declarations → Terms → Equations → ℕ → Type 0
AreClosedBelow d terms known n = (t : TermId) (core : Core) → t.0 < n → Has terms core t.0 → IsClosedAt d terms known t core

-- closed under congruence, injection, and the rule of sorts with one value
abbrev pub IsCongruent : Terms → Equations → Type 0
IsCongruent terms known = (x y : TermId) → IsCongruence terms known x y → known x y

abbrev pub IsInjective : Terms → Equations → Type 0
IsInjective terms known = (x y : TermId) → IsInjection terms known x y → known x y

abbrev pub IsSingular : Declarations → Terms → Equations → Type 0
IsSingular d terms known = (x y : TermId) → IsSingleton d terms x y → known x y

-- closed under all rules but those of an equivalence
pub record AreRulesClosed (d : Declarations) (terms : Terms) (known : Equations) : Type 0 where
  pub congruence : (x y : TermId) → IsCongruence terms known x y → known x y
  pub injection : (x y : TermId) → IsInjection terms known x y → known x y
  pub selection : (x y : TermId) → IsSelection d terms known x y → known x y
  pub testing : (x y : TermId) → IsTesting terms known x y → known x y
  pub expansion : (x y : TermId) → IsExpansion d terms known x y → known x y
  pub equation_in : (x y : TermId) → IsEquationIn terms known x y → known x y
  pub equation_out : (x y : TermId) → IsEquationOut terms known x y → known x y
  pub negation : (x y : TermId) → IsNegation terms known x y → known x y
  pub singleton : (x y : TermId) → IsSingleton d terms x y → known x y

-- which sorts have one value
abbrev pub AreSingleSorts : Declarations → List Bool → Type 0
AreSingleSorts d single = (s : ℕ) → (slice_get single s ≡ Some true) ↔ IsSingle d s

-- the term of this constructor is of the class
abbrev pub IsBuiltIn : Terms → List TermId → TermId → CtorId → TermId → Type 0
IsBuiltIn terms reps r c t = (args : List TermId) × Has terms (Con c args) t.0 × (slice_get reps t.0 ≡ Some r)

-- of the terms below a number that are of the class: the first is a constructor term, if there is any, and the other has
-- another constructor, if there is one
pub record IsShape (terms : Terms) (reps : List TermId) (n : ℕ) (r : TermId) (shape : Shape) : Type 0 where
  pub first : (t : TermId) → shape.first ≡ Some t → (c : CtorId) × IsBuiltIn terms reps r c t
  pub other : (t : TermId) → shape.other ≡ Some t → (f : TermId) × (c k : CtorId) × (shape.first ≡ Some f) × IsBuiltIn terms reps r c f × IsBuiltIn terms reps r k t × (c ≡ k → ⊥)
  pub all : (t : TermId) (c : CtorId) → t.0 < n → IsBuiltIn terms reps r c t → (f : TermId) × (shape.first ≡ Some f) × (shape.other ≡ None → IsBuiltIn terms reps r c f)

-- such a shape of each class
abbrev pub AreShapes : Terms → List TermId → ℕ → List Shape → Type 0
AreShapes terms reps n shapes = (r : TermId) (shape : Shape) → slice_get shapes r.0 ≡ Some shape → IsShape terms reps n r shape

-- the merges of a test with `true` and with `false` that the constructor terms in the class of what is tested ask for are there
abbrev pub IsTestedTrue : Terms → List TermId → TermId → CtorId → TermId → Type 0
IsTestedTrue terms reps t c u = (con : TermId) (args : List TermId) → Has terms (Con c args) con.0 → InOneClass reps u con → InOneClass reps t (truth_term true)

abbrev pub IsTestedFalse : Terms → List TermId → TermId → CtorId → TermId → Type 0
IsTestedFalse terms reps t c u = (con : TermId) (k : CtorId) (args : List TermId) → Has terms (Con k args) con.0 → InOneClass reps u con → (c ≡ k → ⊥) → InOneClass reps t (truth_term false)

-- where the negated term has the truth value, the negation has the other one
abbrev pub IsNegated : List TermId → TermId → TermId → Bool → Type 0
IsNegated reps t a value = InOneClass reps a (truth_term value) → InOneClass reps t (truth_term (not value))

-- the first term of a sort with one value is found or stored, and a term of another sort is itself
abbrev pub IsFirst : List Bool → List (Option TermId) → List (Option TermId) → SortId → TermId → TermId → Type 0
IsFirst single old new s t result =
    ((slice_get single s.0 ≡ Some true → ⊥) × (new ≡ old) × (result ≡ t))
    ⊎ ((slice_get single s.0 ≡ Some true) × (((slice_get old s.0 ≡ Some (Some result)) × (new ≡ old)) ⊎ ((result ≡ t) × (slice_get new s.0 ≡ Some (Some t)) × (slice_get old s.0 ≡ Some None) × ((k : ℕ) → (k ≡ s.0 → ⊥) → slice_get new k ≡ slice_get old k))))
