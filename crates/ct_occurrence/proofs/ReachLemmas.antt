-- What a formula names, and what it can reach.
use Rattle.std.proofs.Common.{◌≡◌, Bool, true, List, Some, slice_get}
use Rattle.ct_sorts.specs.declared.ids.DefId.{DefId}
use Rattle.ct_formulas.specs.Formula.{Formula, Formulas, Cases, Var, Con, Sel, Test, Apply, Def, Not, And, Or, Xor, Implies, Equal, Distinct, Ite, Let, Match, Quantified, no_formulas, with_formula, no_cases, with_case}
use Rattle.ct_occurrence.specs.Calls.{CallsAre, AllCallsAre, CaseCallsAre}
use Rattle.ct_occurrence.specs.Reach.{NamesDefinition, CanReach, by_name, through}

-- what all definitions are that a formula names they are in any wider sense
module _ (P Q : DefId → Type 0) (wider : (k : DefId) → P k → Q k) where
  mutual
    pub CallsAre-wider : (t : Formula) → CallsAre P t → CallsAre Q t
    CallsAre-wider (Var i) h = tt
    CallsAre-wider (Con c ts) h = all_wider ts h
    CallsAre-wider (Sel s t) h = CallsAre-wider t h
    CallsAre-wider (Test c t) h = CallsAre-wider t h
    CallsAre-wider (Apply f ts) h = all_wider ts h
    CallsAre-wider (Def k ts) h = (wider k h.0, all_wider ts h.1)
    CallsAre-wider (Not t) h = CallsAre-wider t h
    CallsAre-wider (And ts) h = all_wider ts h
    CallsAre-wider (Or ts) h = all_wider ts h
    CallsAre-wider (Xor ts) h = all_wider ts h
    CallsAre-wider (Implies ts) h = all_wider ts h
    CallsAre-wider (Equal ts) h = all_wider ts h
    CallsAre-wider (Distinct ts) h = all_wider ts h
    CallsAre-wider (Ite c t u) h = (CallsAre-wider c h.0, CallsAre-wider t h.1, CallsAre-wider u h.2)
    CallsAre-wider (Let ts u) h = (all_wider ts h.0, CallsAre-wider u h.1)
    CallsAre-wider (Match t cases) h = (CallsAre-wider t h.0, cases_wider cases h.1)
    CallsAre-wider (Quantified q sorts t) h = CallsAre-wider t h

    all_wider : (ts : Formulas) → AllCallsAre P ts → AllCallsAre Q ts
    all_wider no_formulas h = tt
    all_wider (with_formula t ts) h = (CallsAre-wider t h.0, all_wider ts h.1)

    cases_wider : (cases : Cases) → CaseCallsAre P cases → CaseCallsAre Q cases
    cases_wider no_cases h = tt
    cases_wider (with_case p body cases) h = (CallsAre-wider body h.0, cases_wider cases h.1)

-- one of several formulas names the definition, or the body of a case does
abbrev NamedByAll : Formulas → DefId → Type 0
NamedByAll ts k = (p : DefId → Bool) → AllCallsAre (λ j. p j ≡ true) ts → p k ≡ true

abbrev NamedByCases : Cases → DefId → Type 0
NamedByCases cases k = (p : DefId → Bool) → CaseCallsAre (λ j. p j ≡ true) cases → p k ≡ true

mutual
  -- each definition that a formula names is one that it names
  pub Names-own : (t : Formula) → CallsAre (NamesDefinition t) t
  Names-own (Var i) = tt
  Names-own (Con c ts) = all_own ts
  Names-own (Sel s t) = Names-own t
  Names-own (Test c t) = Names-own t
  Names-own (Apply f ts) = all_own ts
  Names-own (Def k ts) = (λ p h. h.0, all_wider (NamedByAll ts) (NamesDefinition (Def k ts)) (λ j n p h. n p h.1) ts (all_own ts))
  Names-own (Not t) = Names-own t
  Names-own (And ts) = all_own ts
  Names-own (Or ts) = all_own ts
  Names-own (Xor ts) = all_own ts
  Names-own (Implies ts) = all_own ts
  Names-own (Equal ts) = all_own ts
  Names-own (Distinct ts) = all_own ts
  Names-own (Ite c t u) = (
    CallsAre-wider (NamesDefinition c) (NamesDefinition (Ite c t u)) (λ k n p h. n p h.0) c (Names-own c),
    CallsAre-wider (NamesDefinition t) (NamesDefinition (Ite c t u)) (λ k n p h. n p h.1) t (Names-own t),
    CallsAre-wider (NamesDefinition u) (NamesDefinition (Ite c t u)) (λ k n p h. n p h.2) u (Names-own u),
  )
  Names-own (Let ts u) = (
    all_wider (NamedByAll ts) (NamesDefinition (Let ts u)) (λ k n p h. n p h.0) ts (all_own ts),
    CallsAre-wider (NamesDefinition u) (NamesDefinition (Let ts u)) (λ k n p h. n p h.1) u (Names-own u),
  )
  Names-own (Match t cases) = (
    CallsAre-wider (NamesDefinition t) (NamesDefinition (Match t cases)) (λ k n p h. n p h.0) t (Names-own t),
    cases_wider (NamedByCases cases) (NamesDefinition (Match t cases)) (λ k n p h. n p h.1) cases (cases_own cases),
  )
  Names-own (Quantified q sorts t) = Names-own t

  all_own : (ts : Formulas) → AllCallsAre (NamedByAll ts) ts
  all_own no_formulas = tt
  all_own (with_formula t ts) = (
    CallsAre-wider (NamesDefinition t) (NamedByAll (with_formula t ts)) (λ k n p h. n p h.0) t (Names-own t),
    all_wider (NamedByAll ts) (NamedByAll (with_formula t ts)) (λ k n p h. n p h.1) ts (all_own ts),
  )

  cases_own : (cases : Cases) → CaseCallsAre (NamedByCases cases) cases
  cases_own no_cases = tt
  cases_own (with_case pattern body cases) = (
    CallsAre-wider (NamesDefinition body) (NamedByCases (with_case pattern body cases)) (λ k n p h. n p h.0) body (Names-own body),
    cases_wider (NamedByCases cases) (NamedByCases (with_case pattern body cases)) (λ k n p h. n p h.1) cases (cases_own cases),
  )

-- a formula can reach what it names
pub CanReach-named : (bodies : List Formula) (t : Formula) → CallsAre (CanReach bodies t) t
CanReach-named bodies t = CallsAre-wider (NamesDefinition t) (CanReach bodies t) (λ k n. by_name k n) t (Names-own t)

-- and what the bodies name of the definitions that it can reach
pub CanReach-closed : (bodies : List Formula) (t body : Formula) (k : DefId) → CanReach bodies t k → slice_get bodies k.0 ≡ Some body → CallsAre (CanReach bodies t) body
CanReach-closed bodies t body k r at = CallsAre-wider (NamesDefinition body) (CanReach bodies t) (λ j n. through k j body r at n) body (Names-own body)

-- a set that has what the formula names, and with a definition what its body names, has all that it can reach
pub CanReach-least : (bodies : List Formula) (t : Formula) (has : DefId → Bool) → CallsAre (λ k. has k ≡ true) t → ((k : DefId) (body : Formula) → has k ≡ true → slice_get bodies k.0 ≡ Some body → CallsAre (λ j. has j ≡ true) body) → (k : DefId) → CanReach bodies t k → has k ≡ true
CanReach-least bodies t has named closed _ (by_name k n) = n has named
CanReach-least bodies t has named closed _ (through j k body r at n) = n has (closed j body (CanReach-least bodies t has named closed j r) at)
