-- A refutation whose lines are others that pass too.
use Rattle.std.proofs.Common.{◌≡◌, List, sym, subst}
use Rattle.ct_sorts.specs.Declarations.{Declarations}
use Rattle.ct_terms.specs.declared.ids.TermId.{TermId}
use Rattle.ct_terms.specs.Terms.{Terms}
use Rattle.ct_log.specs.Acceptance.{Passes}
use Rattle.ct_log.specs.Recorded.{Derived}
use Rattle.ct_engine.specs.Verdict.{IsRefutation}

-- where the new lines pass if the old ones do, the derivation refutes the same
pub refutation_shortened : (d : Declarations) (table : Terms) (asserts : List TermId) (old new : Derived)
    → new ≡ record { declarations = old.declarations; sizes = old.sizes; rec = record { terms = old.rec.terms; lines = new.rec.lines }; asserts = old.asserts }
    → (Passes old.declarations old.rec.terms old.asserts old.rec.lines → Passes old.declarations old.rec.terms old.asserts new.rec.lines) → IsRefutation d table asserts old → IsRefutation d table asserts new
refutation_shortened d table asserts old new others passes h = subst (IsRefutation d table asserts) (sym others) (record {
  declarations = h.declarations;
  is_table = h.is_table;
  sorted = h.sorted;
  asserted = h.asserted;
  passes =
      subst (λ (e : Declarations). Passes e old.rec.terms old.asserts new.rec.lines) h.declarations
      (passes (subst (λ (e : Declarations). Passes e old.rec.terms old.asserts old.rec.lines) (sym h.declarations) h.passes));
  no_model = h.no_model;
})
