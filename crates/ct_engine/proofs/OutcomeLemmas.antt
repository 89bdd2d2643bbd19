-- What each way in which a search ends says of the assertions.
use Rattle.std.proofs.Common.{◌≡◌, ◌↔◌, ℕ, suc, ◌<◌, ◌≤◌, ◌^◌, List, refl, sym, ap, subst, ◌∙◌, arith}
use Rattle.ct_sorts.specs.Declarations.{Declarations}
use Rattle.ct_terms.specs.declared.ids.TermId.{TermId}
use Rattle.ct_terms.specs.declared.ids.Lit.{Lit}
use Rattle.ct_terms.specs.Terms.{Terms, AreSorted}
use Rattle.ct_terms.specs.CoreTree.{CoreTree}
use Rattle.ct_closure.specs.ClosedTable.{HasTree, IsClosedTable, terms_at}
use Rattle.ct_closure.specs.Closed.{InClosure, HasVariables}
use Rattle.ct_log.specs.declared.line.Line.{Line}
use Rattle.ct_theory.specs.Entailment.{IsSaturation}
use Rattle.ct_engine.specs.declared.course.Course.{Course}
use Rattle.ct_engine.specs.declared.outcome.Candidate.{Candidate}
use Rattle.ct_engine.specs.declared.verdict.Move.{Move}
use Rattle.ct_engine.specs.Moves.{IsSpentRecord}
use Rattle.ct_engine.specs.Saturated.{AreDecided, IsSaturated}
use Rattle.ct_engine.specs.declared.verdict.Spent.{Spent}
use Rattle.ct_engine.specs.declared.verdict.Verdict.{Verdict}
use Rattle.ct_engine.specs.declared.verdict.Verdict.TheVariants.{Sat, Unsat, Unknown}
use Rattle.ct_engine.specs.Verdict.{IsSpending, IsVerdict, IsDecisive}
use Rattle.ct_engine.specs.Progress.{IsTaskOf, IsOfOneClosure, IsCandidate}

-- the theorem on records of searches that spent their decisions
abbrev pub SpentBound : Type 0
SpentBound = (d : Declarations) (terms : Terms) (asserts : List TermId) (lines : List Line) (moves : List Move) (budget variables : ℕ) (roots : List CoreTree) → IsSpentRecord d terms asserts lines moves budget → ((t : CoreTree) → HasTree terms t ↔ InClosure d roots t) → HasVariables d roots variables → suc budget < 2 ^ variables

-- the record of a search that spent its budget
pub IsSpending-from : SpentBound → (d : Declarations) (table : Terms) (asserts : List TermId) (budget : ℕ) (course : Course) (moves : List Move) → moves ≡ course.moves.items → IsTaskOf d table asserts course → course.search.budget ≡ budget → IsSpentRecord course.derivation.declarations course.derivation.rec.terms course.derivation.asserts course.derivation.rec.lines course.moves.items course.search.budget → IsSpending d table asserts budget (record { variables = course.variables; budget = budget; derivation = course.derivation; moves = moves })
IsSpending-from theorem d table asserts budget course moves same task budget_is recorded = record {
  declarations = task.declarations;
  asserted = task.asserted;
  closure = task.closure;
  variables = task.variables;
  allowed = refl;
  below = theorem d course.derivation.rec.terms course.derivation.asserts course.derivation.rec.lines moves budget course.variables (terms_at table asserts) spent task.closure task.variables;
  recorded = spent;
}
  where
    spent : IsSpentRecord d course.derivation.rec.terms course.derivation.asserts course.derivation.rec.lines moves budget
    spent =
        subst (λ (ms : List Move). IsSpentRecord d course.derivation.rec.terms course.derivation.asserts course.derivation.rec.lines ms budget) (sym same)
        (subst (λ (e : Declarations). IsSpentRecord e course.derivation.rec.terms course.derivation.asserts course.derivation.rec.lines course.moves.items budget) task.declarations
        (subst (λ (b : ℕ). IsSpentRecord course.derivation.declarations course.derivation.rec.terms course.derivation.asserts course.derivation.rec.lines course.moves.items b) budget_is recorded))

-- the literals and classes of a search that is saturated
pub candidate_from : (d : Declarations) (table : Terms) (asserts : List TermId) (course : Course) (candidate : Candidate) → candidate.literals ≡ course.search.trail → IsTaskOf d table asserts course → AreDecided course.derivation.declarations course.derivation.rec.terms course.derivation.asserts course.search.trail → IsSaturation course.derivation.declarations course.derivation.rec.terms course.search.trail candidate.classes.value candidate.order.reps.items → IsCandidate d table asserts candidate
candidate_from d table asserts course candidate same_literals task decided saturation = let same_terms = saturation.terms_are in record {
  numbers = course.derivation.asserts;
  saturated =
      subst (λ (ls : List Lit). IsSaturated d (terms_at table asserts) candidate.classes.value.terms course.derivation.asserts ls) (sym same_literals)
      (subst (λ (ts : Terms). IsSaturated d (terms_at table asserts) ts course.derivation.asserts course.search.trail) (sym same_terms) (record {
        closure = task.closure;
        asserted = task.asserted;
        decided = subst (λ (e : Declarations). AreDecided e course.derivation.rec.terms course.derivation.asserts course.search.trail) task.declarations decided;
      }));
  sorted = subst (AreSorted d) (sym same_terms) task.sorted;
  is_closed = subst (IsClosedTable d) (sym same_terms) task.is_closed;
  saturation =
      subst (λ (ls : List Lit). IsSaturation d candidate.classes.value.terms ls candidate.classes.value candidate.order.reps.items) (sym same_literals)
      (subst (λ (ts : Terms). IsSaturation d ts course.search.trail candidate.classes.value candidate.order.reps.items) (sym same_terms)
      (subst (λ (e : Declarations). IsSaturation e course.derivation.rec.terms course.search.trail candidate.classes.value candidate.order.reps.items) task.declarations saturation));
}

-- a search of one check with another is of the same assertions
pub IsTaskOf-kept : (d : Declarations) (table : Terms) (asserts : List TermId) (old new : Course) → IsOfOneClosure old new → IsTaskOf d table asserts old → IsTaskOf d table asserts new
IsTaskOf-kept d table asserts old new same task = record {
  declarations = same.declarations ∙ task.declarations;
  asserted = ap (λ (ts : Terms). terms_at ts new.derivation.asserts) same.terms ∙ ap (λ (ids : List TermId). terms_at old.derivation.rec.terms ids) same.asserts ∙ task.asserted;
  closure = λ t. subst (λ (ts : Terms). HasTree ts t ↔ InClosure d (terms_at table asserts) t) (sym same.terms) (task.closure t);
  variables = subst (HasVariables d (terms_at table asserts)) (sym same.variables) task.variables;
  sorted = subst (AreSorted d) (sym same.terms) task.sorted;
  is_closed = subst (IsClosedTable d) (sym same.terms) task.is_closed;
}

-- no verdict is unknown where as many decisions were allowed as are enough
pub decisive : (d : Declarations) (table : Terms) (asserts : List TermId) (budget variables : ℕ) → ((spent : Spent) → IsSpending d table asserts budget spent → suc budget < 2 ^ variables) → 2 ^ variables ≤ suc budget → (v : Verdict) → IsVerdict d table asserts budget v → IsDecisive v
decisive d table asserts budget variables bound enough (Sat i) is = tt
decisive d table asserts budget variables bound enough (Unsat derived) is = tt
decisive d table asserts budget variables bound enough (Unknown spent) is = let below = bound spent is in omega (arith, below, enough)
