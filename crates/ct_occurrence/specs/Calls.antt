-- Which definitions a formula names.
use Rattle.std.specs.Prelude.{◌≡◌, ℕ, ◌<◌, Bool, true, List, Contains}
use Rattle.ct_sorts.specs.declared.ids.DefId.{DefId}
use Rattle.ct_formulas.specs.Formula.{Formula, Formulas, Cases, Var, Con, Sel, Test, Apply, Def, Not, And, Or, Xor, Implies, Equal, Distinct, Ite, Let, Match, Quantified, no_formulas, with_formula, no_cases, with_case}

abbrev mutual
  -- every definition that the formula names is such
  pub CallsAre : (DefId → Type 0) → Formula → Type 0
  CallsAre P (Var i) = Unit {0}
  CallsAre P (Con c ts) = AllCallsAre P ts
  CallsAre P (Sel s t) = CallsAre P t
  CallsAre P (Test c t) = CallsAre P t
  CallsAre P (Apply f ts) = AllCallsAre P ts
  CallsAre P (Def k ts) = P k × AllCallsAre P ts
  CallsAre P (Not t) = CallsAre P t
  CallsAre P (And ts) = AllCallsAre P ts
  CallsAre P (Or ts) = AllCallsAre P ts
  CallsAre P (Xor ts) = AllCallsAre P ts
  CallsAre P (Implies ts) = AllCallsAre P ts
  CallsAre P (Equal ts) = AllCallsAre P ts
  CallsAre P (Distinct ts) = AllCallsAre P ts
  CallsAre P (Ite c t u) = CallsAre P c × CallsAre P t × CallsAre P u
  CallsAre P (Let ts u) = AllCallsAre P ts × CallsAre P u
  CallsAre P (Match t cases) = CallsAre P t × CaseCallsAre P cases
  CallsAre P (Quantified q sorts t) = CallsAre P t

  -- every definition that one of these names
  pub AllCallsAre : (DefId → Type 0) → Formulas → Type 0
  AllCallsAre P no_formulas = Unit {0}
  AllCallsAre P (with_formula t ts) = CallsAre P t × AllCallsAre P ts

  -- every definition that the body of one of these names
  pub CaseCallsAre : (DefId → Type 0) → Cases → Type 0
  CaseCallsAre P no_cases = Unit {0}
  CaseCallsAre P (with_case p body cases) = CallsAre P body × CaseCallsAre P cases

-- the definitions have numbers below the bound
abbrev pub AreBelow : ℕ → List DefId → Type 0
AreBelow n ks = (k : DefId) → Contains ks k → k.0 < n

-- each of the definitions passes the test
abbrev pub AllPass : (DefId → Bool) → List DefId → Type 0
AllPass p ks = (k : DefId) → Contains ks k → p k ≡ true

-- definitions are added: all that are named, and no others: a test that these and the old ones pass is passed by all that
-- there are then
pub record AddsNames (calls : (DefId → Type 0) → Type 0) (old new : List DefId) : Type 0 where
  pub named : calls (Contains new)
  pub stay : (k : DefId) → Contains old k → Contains new k
  pub only : (p : DefId → Bool) → calls (λ k. p k ≡ true) → AllPass p old → AllPass p new

-- those that a formula names
abbrev pub AddsNamed : Formula → List DefId → List DefId → Type 0
AddsNamed t = AddsNames (λ P. CallsAre P t)

-- those that several name
abbrev pub AddsAllNamed : Formulas → List DefId → List DefId → Type 0
AddsAllNamed ts = AddsNames (λ P. AllCallsAre P ts)

-- those that the bodies of cases name
abbrev pub AddsCaseNamed : Cases → List DefId → List DefId → Type 0
AddsCaseNamed cases = AddsNames (λ P. CaseCallsAre P cases)
