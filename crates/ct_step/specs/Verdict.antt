-- When a verdict is right: what it says of the assertions in force.
use Rattle.std.specs.Prelude.{◌≡◌, ◌↔◌, ℕ, suc, ◌<◌, ◌≤◌, ◌^◌, List}
use Rattle.ct_terms.specs.Terms.{IsTermTable, AreSorted}
use Rattle.ct_terms.specs.CoreTree.{CoreTree}
use Rattle.ct_formulas.specs.Formula.{Formula}
use Rattle.ct_closure.specs.Closed.{InClosure, HasVariables}
use Rattle.ct_closure.specs.ClosedTable.{HasTree, terms_at}
use Rattle.ct_eval.specs.declared.interp.Interp.{Interp}
use Rattle.ct_eval.specs.Interpretation.{IsProper}
use Rattle.ct_meaning.specs.Meaning.{AllTrue}
use Rattle.ct_log.specs.Acceptance.{Passes}
use Rattle.ct_log.specs.Recorded.{Derived}
use Rattle.ct_engine.specs.declared.verdict.Spent.{Spent}
use Rattle.ct_engine.specs.declared.verdict.Verdict.{Verdict}
use Rattle.ct_engine.specs.declared.verdict.Verdict.TheVariants.{Sat, Unsat, Unknown}
use Rattle.ct_engine.specs.Verdict.{IsDecisive}
use Rattle.ct_engine.specs.Moves.{IsSpentRecord}
use Rattle.ct_stack.specs.Stack.{Context, cores}

-- the interpretation makes every assertion true
pub record Satisfies (c : Context) (asserts : List Formula) (i : Interp) : Type 0 where
  pub proper : IsProper c.declarations i
  pub holds : AllTrue c.declarations i c.bodies asserts

-- the derivation is over a well-sorted table and the core terms of the assertions, in order, and passes; and no interpretation makes
-- them all true
pub record Refutes (c : Context) (asserts : List Formula) (derived : Derived) : Type 0 where
  pub declarations : derived.declarations ≡ c.declarations
  pub is_table : IsTermTable derived.rec.terms
  pub sorted : AreSorted c.declarations derived.rec.terms
  pub asserted : terms_at derived.rec.terms derived.asserts ≡ cores c asserts
  pub passes : Passes c.declarations derived.rec.terms derived.asserts derived.rec.lines
  pub no_model : (i : Interp) → Satisfies c asserts i → ⊥

-- the derivation is over the core terms of the assertions, in order, and over exactly their closure, which has V propositional
-- variables; fewer than 2^V - 1 decisions were allowed; and a search, which is recorded, spent them
pub record IsSpent (c : Context) (asserts : List Formula) (budget : ℕ) (spent : Spent) : Type 0 where
  pub declarations : spent.derivation.declarations ≡ c.declarations
  pub asserted : terms_at spent.derivation.rec.terms spent.derivation.asserts ≡ cores c asserts
  pub closure : (t : CoreTree) → HasTree spent.derivation.rec.terms t ↔ InClosure c.declarations (cores c asserts) t
  pub variables : HasVariables c.declarations (cores c asserts) spent.variables
  pub allowed : spent.budget ≡ budget
  pub below : suc budget < 2 ^ spent.variables
  pub recorded : IsSpentRecord c.declarations spent.derivation.rec.terms spent.derivation.asserts spent.derivation.rec.lines spent.moves budget

-- the verdict on these assertions is right, where so many decisions are allowed
abbrev pub IsRight : Context → List Formula → ℕ → Verdict → Type 0
IsRight c asserts budget (Sat i) = Satisfies c asserts i
IsRight c asserts budget (Unsat derived) = Refutes c asserts derived
IsRight c asserts budget (Unknown spent) = IsSpent c asserts budget spent

-- a check of these assertions, where so many decisions are allowed, comes to a verdict that is right, and that is `sat` or `unsat`
-- with 2^V - 1 decisions or more, where their closure has V propositional variables
pub record ComesTo (c : Context) (asserts : List Formula) (budget : ℕ) (v : Verdict) : Type 0 where
  pub right : IsRight c asserts budget v
  pub decisive : (variables : ℕ) → HasVariables c.declarations (cores c asserts) variables → 2 ^ variables ≤ suc budget → IsDecisive v
