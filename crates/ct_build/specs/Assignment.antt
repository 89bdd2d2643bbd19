-- Classes in which every Boolean term has a truth value, that of its parts, and every split term a constructor.
use Rattle.std.specs.Prelude.{◌⊎◌, true, false, List, All, Contains}
use Rattle.ct_sorts.specs.declared.ids.CtorId.{CtorId}
use Rattle.ct_sorts.specs.declared.ids.SortId.{SortId}
use Rattle.ct_terms.specs.declared.ids.TermId.{TermId}
use Rattle.ct_terms.specs.declared.term.Core.TheVariants.{Test, And, Or, Iff, Ite}
use Rattle.ct_terms.specs.Terms.{Has, IsBoolean}
use Rattle.ct_rules.specs.Rules.{truth_term}
use Rattle.ct_closure.specs.ClosedTable.{IsSplitTerm}
use Rattle.ct_congr.specs.State.{State, AreEqual}

-- the term is in the class of `true`
abbrev pub IsTrueTerm : State → TermId → Type 0
IsTrueTerm state t = AreEqual state t (truth_term true)

-- it is in the class of `false`
abbrev pub IsFalseTerm : State → TermId → Type 0
IsFalseTerm state t = AreEqual state t (truth_term false)

-- both have one truth value
abbrev pub HaveOneTruth : State → TermId → TermId → Type 0
HaveOneTruth state a b = (IsTrueTerm state a × IsTrueTerm state b) ⊎ (IsFalseTerm state a × IsFalseTerm state b)

-- one is true and the other false
abbrev pub HaveTwoTruths : State → TermId → TermId → Type 0
HaveTwoTruths state a b = (IsTrueTerm state a × IsFalseTerm state b) ⊎ (IsFalseTerm state a × IsTrueTerm state b)

-- some test of the term is true
pub record IsTested (state : State) (t : TermId) : Type 0 where
  pub ctor : CtorId
  pub test : TermId
  pub stands : Has state.terms (Test ctor t) test.0
  pub holds : IsTrueTerm state test

-- every Boolean term is true or false; conjunctions, disjunctions and equivalences have the truth value that those of their
-- parts give, a choice is in the class of the branch that its condition chooses, and each split term has a test that is true
pub record AreDecided (state : State) : Type 0 where
  pub booleans : (t : TermId) → IsBoolean state.terms t → IsTrueTerm state t ⊎ IsFalseTerm state t
  pub conjunctions : (t : TermId) (args : List TermId) → Has state.terms (And args) t.0 → (All (IsTrueTerm state) args → IsTrueTerm state t) × ((a : TermId) → Contains args a → IsFalseTerm state a → IsFalseTerm state t)
  pub disjunctions : (t : TermId) (args : List TermId) → Has state.terms (Or args) t.0 → (All (IsFalseTerm state) args → IsFalseTerm state t) × ((a : TermId) → Contains args a → IsTrueTerm state a → IsTrueTerm state t)
  pub equivalences : (t a b : TermId) → Has state.terms (Iff a b) t.0 → (HaveOneTruth state a b → IsTrueTerm state t) × (HaveTwoTruths state a b → IsFalseTerm state t)
  pub choices : (t c a b : TermId) → Has state.terms (Ite c a b) t.0 → (IsTrueTerm state c → AreEqual state t a) × (IsFalseTerm state c → AreEqual state t b)
  pub splits : (t : TermId) (sort : SortId) → IsSplitTerm state.declarations state.terms t sort → IsTested state t
