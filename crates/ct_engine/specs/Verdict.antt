-- What each verdict on assertions says, which are terms of a table.
use Rattle.std.specs.Prelude.{◌≡◌, ◌↔◌, ℕ, suc, ◌<◌, ◌^◌, List}
use Rattle.ct_sorts.specs.Declarations.{Declarations}
use Rattle.ct_terms.specs.declared.ids.TermId.{TermId}
use Rattle.ct_terms.specs.Terms.{Terms, IsTermTable, AreSorted}
use Rattle.ct_terms.specs.CoreTree.{CoreTree}
use Rattle.ct_closure.specs.Closed.{InClosure, HasVariables}
use Rattle.ct_closure.specs.ClosedTable.{HasTree, terms_at}
use Rattle.ct_eval.specs.declared.interp.Interp.{Interp}
use Rattle.ct_eval.specs.Interpretation.{IsProper}
use Rattle.ct_eval.specs.Truth.{Holds}
use Rattle.ct_log.specs.Acceptance.{Passes}
use Rattle.ct_log.specs.Recorded.{Derived}
use Rattle.ct_engine.specs.declared.verdict.Spent.{Spent}
use Rattle.ct_engine.specs.declared.verdict.Verdict.{Verdict}
use Rattle.ct_engine.specs.declared.verdict.Verdict.TheVariants.{Sat, Unsat, Unknown}
use Rattle.ct_engine.specs.Moves.{IsSpentRecord}

-- the assertions hold in a proper interpretation
pub record IsModel (d : Declarations) (table : Terms) (asserts : List TermId) (i : Interp) : Type 0 where
  pub proper : IsProper d i
  pub holds : Holds d i table asserts

-- the derivation is over these declarations, a well-sorted table and the same assertions, in order, and passes; and the assertions
-- hold in no proper interpretation
pub record IsRefutation (d : Declarations) (table : Terms) (asserts : List TermId) (derived : Derived) : Type 0 where
  pub declarations : derived.declarations ≡ d
  pub is_table : IsTermTable derived.rec.terms
  pub sorted : AreSorted d derived.rec.terms
  pub asserted : terms_at derived.rec.terms derived.asserts ≡ terms_at table asserts
  pub passes : Passes d derived.rec.terms derived.asserts derived.rec.lines
  pub no_model : (i : Interp) → IsProper d i → Holds d i table asserts → ⊥

-- the derivation is over these declarations and the same assertions, in order; its terms are exactly their closure, with V
-- propositional variables; the budget is below 2^V - 1; and the record is that of a search which spent it
pub record IsSpending (d : Declarations) (table : Terms) (asserts : List TermId) (budget : ℕ) (spent : Spent) : Type 0 where
  pub declarations : spent.derivation.declarations ≡ d
  pub asserted : terms_at spent.derivation.rec.terms spent.derivation.asserts ≡ terms_at table asserts
  pub closure : (t : CoreTree) → HasTree spent.derivation.rec.terms t ↔ InClosure d (terms_at table asserts) t
  pub variables : HasVariables d (terms_at table asserts) spent.variables
  pub allowed : spent.budget ≡ budget
  pub below : suc budget < 2 ^ spent.variables
  pub recorded : IsSpentRecord d spent.derivation.rec.terms spent.derivation.asserts spent.derivation.rec.lines spent.moves budget

-- what each verdict says
abbrev pub IsVerdict : Declarations → Terms → List TermId → ℕ → Verdict → Type 0
IsVerdict d table asserts budget (Sat i) = IsModel d table asserts i
IsVerdict d table asserts budget (Unsat derived) = IsRefutation d table asserts derived
IsVerdict d table asserts budget (Unknown spent) = IsSpending d table asserts budget spent

-- the assertions hold, or they are refuted
abbrev pub IsDecisive : Verdict → Type 0
IsDecisive (Unknown spent) = ⊥
IsDecisive verdict = Unit {0}
