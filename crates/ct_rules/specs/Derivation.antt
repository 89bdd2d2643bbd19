-- Which equations derive from hypotheses and from equations that are given, by all rules but uniqueness.
use Rattle.std.specs.Prelude.{◌≡◌, ℕ, ◌⊎◌, List, take, Contains, Some, slice_get}
use Rattle.ct_sorts.specs.Declarations.{Declarations}
use Rattle.ct_terms.specs.declared.ids.TermId.{TermId}
use Rattle.ct_terms.specs.declared.ids.Lit.{Lit}
use Rattle.ct_terms.specs.Terms.{Terms}
use Rattle.ct_rules.specs.declared.equation.Equation.{Equation}
use Rattle.ct_rules.specs.Rules.{Equations, truth_term, Follows}

-- the equations of a list
abbrev pub AreAmong : List Equation → Equations
AreAmong equations x y = Contains equations (record { left = x; right = y })

-- what a literal states: its term is `true`, or `false` for a negative one
abbrev pub States : Lit → TermId → TermId → Type 0
States l x y = (x ≡ l.term) × (y ≡ truth_term l.positive)

-- some hypothesis states it
abbrev pub IsHypothesis : List Lit → Equations
IsHypothesis hypotheses x y = (l : Lit) × Contains hypotheses l × States l x y

-- each equation of the list is stated by a hypothesis, is given, or follows from those before it by a rule
abbrev pub AreDerived : Declarations → Terms → List Lit → List Equation → List Equation → Type 0
AreDerived d terms hypotheses given equations =
    (index : ℕ) (e : Equation) → slice_get equations index ≡ Some e
    → IsHypothesis hypotheses e.left e.right ⊎ (AreAmong given e.left e.right ⊎ Follows d terms (AreAmong (take index equations)) e.left e.right)

-- the equation stands in such a list
pub record Derives (d : Declarations) (terms : Terms) (hypotheses : List Lit) (given : List Equation) (x y : TermId) : Type 0 where
  pub equations : List Equation
  pub derived : AreDerived d terms hypotheses given equations
  pub stands : AreAmong equations x y
