-- The steps of reasons with one premise, and what they read of terms.
use Rattle.std.specs.Prelude.{◌≡◌, ℕ, List}
use Rattle.ct_sorts.specs.Declarations.{Declarations}
use Rattle.ct_terms.specs.declared.ids.TermId.{TermId}
use Rattle.ct_terms.specs.declared.ids.Lit.{Lit}
use Rattle.ct_terms.specs.declared.term.Core.{Core}
use Rattle.ct_terms.specs.declared.term.Core.TheVariants as core
use Rattle.ct_terms.specs.Children.{core_children}
use Rattle.ct_terms.specs.Clause.{Clause}
use Rattle.ct_terms.specs.Terms.{Terms, Has}
use Rattle.ct_rules.specs.declared.equation.Equation.{Equation}
use Rattle.ct_log.specs.declared.rules.EqStep.{EqStep}
use Rattle.ct_log.specs.declared.rules.EqStep.TheVariants as step
use Rattle.ct_log.specs.Equations.{Gave, Gives}
use Rattle.ct_congr.specs.declared.merge.Reason.{Reason}
use Rattle.ct_congr.specs.declared.merge.Reason.TheVariants as reason
use Rattle.ct_congr.specs.declared.merge.Merge.{Merge}
use Rattle.ct_congr.specs.Merges.{AreConnected}
use Rattle.ct_congr.specs.Reasons.{IsReason}
use Rattle.ct_explain.specs.declared.premises.Premise.{Premise}
use Rattle.ct_explain.specs.declared.premises.Rule.{Rule}
use Rattle.ct_explain.specs.declared.premises.Rule.TheVariants.{Inject, Sel, Test, Expand, EqualIn, EqualOut, Neg}

-- the terms right under the term are these
abbrev pub IsOver : Terms → TermId → List TermId → Type 0
IsOver terms t under = (core : Core) → Has terms core t.0 → core_children core ≡ under

-- the term is a selector, a test or a negation, of one term
abbrev pub HasArguments : Core → Type 0
HasArguments (core.Sel s u) = Unit {0}
HasArguments (core.Test c u) = Unit {0}
HasArguments (core.Not u) = Unit {0}
HasArguments _ = ⊥

-- the rule of the reason has none or many premises
abbrev pub HasNoPremise : Reason → Type 0
HasNoPremise (reason.Hyp l) = Unit {0}
HasNoPremise (reason.Cong t u) = Unit {0}
HasNoPremise reason.Single = Unit {0}
HasNoPremise (reason.Unique pairs) = Unit {0}
HasNoPremise _ = ⊥

-- the reason gives l = r in the classes of some merges
abbrev pub HasReason : Declarations → Terms → List Lit → TermId → TermId → Reason → Type 0
HasReason d terms hyps l r why = (before : List Merge) × IsReason d terms hyps (AreConnected before) l r why

-- the step by a rule, with the number of the step that gives its premise
abbrev pub step_by : Rule → ℕ → EqStep
step_by (Inject k) i = step.Inject i k
step_by (Sel t) i = step.Sel t i
step_by (Test t) i = step.Test t i
step_by (Expand c) i = step.Expand i c
step_by (EqualIn t) i = step.EqualIn t i
step_by EqualOut i = step.EqualOut i
step_by (Neg t) i = step.Neg t i

-- where the reason gives l = r, the step by the rule does once a step has given x = y
abbrev pub IsPremise : Terms → Reason → TermId → TermId → Rule → TermId → TermId → Type 0
IsPremise terms why l r rule x y =
    (d : Declarations) (hyps : List Lit) → HasReason d terms hyps l r why
    → (clause : Clause) (given : List Equation) (i : ℕ) → Gave given i x y → Gives d terms clause given (step_by rule i) l r

-- the same of a premise, for whatever the reason gives
abbrev pub IsPremiseIn : Terms → Reason → Premise → Type 0
IsPremiseIn terms why p = (l r : TermId) → IsPremise terms why l r p.rule p.left p.right

-- and over any terms
abbrev pub IsPremiseOf : Reason → Premise → Type 0
IsPremiseOf why p = (terms : Terms) → IsPremiseIn terms why p

-- where the negation equals the truth term
abbrev pub IsNegationPremise : Terms → TermId → TermId → Premise → Type 0
IsNegationPremise terms t value p = (l : TermId) → IsPremise terms (reason.Neg t) l value p.rule p.left p.right

-- wherever the reason gives l = r in the classes of some merges, those merges connect x and y
abbrev pub IsConnectedPremise : Terms → Reason → TermId → TermId → TermId → TermId → Type 0
IsConnectedPremise terms why l r x y = (d : Declarations) (hyps : List Lit) (before : List Merge) → IsReason d terms hyps (AreConnected before) l r why → AreConnected before x y
