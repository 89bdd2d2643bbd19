-- What the derivations of verdicts are over.
use Rattle.std.proofs.Common.{◌≡◌, ℕ, List, All, sym, subst}
use Rattle.ct_sorts.specs.Declarations.{Declarations}
use Rattle.ct_card.specs.Sizes.{Table, AreSizes}
use Rattle.ct_terms.specs.declared.ids.TermId.{TermId}
use Rattle.ct_terms.specs.Terms.{Terms, AreSorted, IsBoolean}
use Rattle.ct_log.specs.Recorded.{Recorded, Derived, AreJudges, IsDerivation}
use Rattle.ct_engine.specs.declared.verdict.Verdict.{Verdict}
use Rattle.ct_engine.specs.declared.verdict.Verdict.TheVariants.{Sat, Unsat, Unknown}
use Rattle.ct_engine.specs.Verdict.{IsVerdict}
use Rattle.test_engine.specs.Verdicts.{IsOver}

-- the derivation of a verdict is over the declarations of the verdict
pub own_declarations : (d : Declarations) (table : Terms) (asserts : List TermId) (budget : ℕ) (v : Verdict) → IsVerdict d table asserts budget v → IsOver d v
own_declarations d table asserts budget (Sat i) h = tt
own_declarations d table asserts budget (Unsat derived) h = h.declarations
own_declarations d table asserts budget (Unknown spent) h = h.declarations

module _ (derived : Derived) (d : Declarations) (rec : Recorded) (holds : IsDerivation derived) (own : derived.declarations ≡ d) (same : rec ≡ derived.rec) where
  -- its terms are well sorted over them
  pub terms_sorted : AreSorted d rec.terms
  terms_sorted =
      subst (λ (x : Declarations). AreSorted x rec.terms) own
      (subst (λ (r : Recorded). AreSorted derived.declarations r.terms) (sym same) holds.judges.sorted)

  -- so its lines can be judged
  pub judges_over : (sizes : Table) (asserts : List TermId) → asserts ≡ derived.asserts → AreSizes d sizes → AreJudges d sizes rec.terms asserts
  judges_over sizes asserts same_asserts sized =
      record {
        sized = sized;
        sorted = terms_sorted;
        booleans =
            subst (λ (ts : List TermId). All (IsBoolean rec.terms) ts) (sym same_asserts)
            (subst (λ (r : Recorded). All (IsBoolean r.terms) derived.asserts) (sym same) holds.judges.booleans);
      }
