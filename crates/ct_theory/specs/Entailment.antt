-- What literals entail in the theory of datatypes and codatatypes, by the rules of equations and by uniqueness (Reynolds and
-- Blanchette 2015, section 4); classes that are exactly that; and conflicts.
use Rattle.std.specs.Prelude.{◌≡◌, ℕ, ◌<◌, ◌⊎◌, ◌↔◌, List, length, take, All, Contains, Some, slice_get}
use Rattle.ct_sorts.specs.Declarations.{Declarations}
use Rattle.ct_terms.specs.declared.ids.TermId.{TermId}
use Rattle.ct_terms.specs.declared.ids.Lit.{Lit}
use Rattle.ct_terms.specs.Literal.{opposite}
use Rattle.ct_terms.specs.Clause.{Clause}
use Rattle.ct_terms.specs.Terms.{Terms}
use Rattle.ct_rules.specs.declared.equation.Equation.{Equation}
use Rattle.ct_rules.specs.Rules.{Equations, Follows}
use Rattle.ct_rules.specs.Derivation.{AreAmong, IsHypothesis}
use Rattle.ct_rules.specs.Uniqueness.{IsUniqueness}
use Rattle.ct_rules.specs.Cycle.{IsCycle}
use Rattle.ct_log.specs.declared.rules.EqStep.{EqStep}
use Rattle.ct_log.specs.declared.rules.EqStep.TheVariants.{Hyp}
use Rattle.ct_log.specs.declared.rules.Close.{Close}
use Rattle.ct_log.specs.Acceptance.{IsRefuted}
use Rattle.ct_congr.specs.State.{State, AreEqual, IsQuiet}
use Rattle.ct_acyclic.specs.Order.{IsClassOrder}
use Rattle.ct_unique.specs.Partition.{IsStronglyExtensional}

-- one rule, uniqueness among them, gives x = y from what is known
abbrev pub FollowsAtAll : Declarations → Terms → Equations → TermId → TermId → Type 0
FollowsAtAll d terms known x y = Follows d terms known x y ⊎ IsUniqueness terms known x y

-- each equation is between terms of the table, and a literal states it or it follows from those before it by a rule
pub record AreEntailed (d : Declarations) (terms : Terms) (literals : List Lit) (equations : List Equation) : Type 0 where
  pub inside : (e : Equation) → Contains equations e → (e.left.0 < length terms) × (e.right.0 < length terms)
  pub each : (index : ℕ) (e : Equation) → slice_get equations index ≡ Some e
      → IsHypothesis literals e.left e.right ⊎ FollowsAtAll d terms (AreAmong (take index equations)) e.left e.right

-- the literals entail x = y: it stands in such a list
pub record Entails (d : Declarations) (terms : Terms) (literals : List Lit) (x y : TermId) : Type 0 where
  pub equations : List Equation
  pub entailed : AreEntailed d terms literals equations
  pub stands : AreAmong equations x y

-- classes to which no rule adds, under these literals: they are exactly what the literals entail, no class has two
-- constructors, the classes of datatypes have this order, and bisimilar classes are one
pub record IsSaturation (d : Declarations) (terms : Terms) (literals : List Lit) (state : State) (order : List TermId) : Type 0 where
  pub declarations : state.declarations ≡ d
  pub terms_are : state.terms ≡ terms
  pub hypotheses : state.hypotheses ≡ literals
  pub quiet : IsQuiet state
  pub exact : (x y : TermId) → x.0 < length terms → y.0 < length terms → AreEqual state x y ↔ Entails d terms literals x y
  pub acyclic : (hops : List (TermId × ℕ)) → IsCycle d terms (AreEqual state) hops → ⊥
  pub ordered : IsClassOrder state order
  pub extensional : IsStronglyExtensional state

-- no literal stands at two indices
abbrev pub StandOnce : List Lit → Type 0
StandOnce literals = (i j : ℕ) (l : Lit) → slice_get literals i ≡ Some l → slice_get literals j ≡ Some l → i ≡ j

-- a line of the theory: steps from the opposites of its literals contradict each other; and each literal is the opposite of
-- one of the literals that were asked about, of one that a step names, and stands once
pub record IsConflictOf (d : Declarations) (terms : Terms) (literals : List Lit) (clause : Clause) (steps : List EqStep) (close : Close) : Type 0 where
  pub false : All (λ l. Contains literals (opposite l)) clause
  pub used : (l : Lit) → Contains clause l → Contains steps (Hyp (opposite l))
  pub once : StandOnce clause
  pub refuted : IsRefuted d terms clause steps close
