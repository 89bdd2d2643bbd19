use Rattle.std.proofs.Common.{sym, subst}
use Rattle.ct_sorts.specs.Declarations.{Declarations}
use Rattle.ct_terms.specs.Terms.{AreSorted}
use Rattle.ct_log.specs.Recorded.{Recorded}
use Rattle.test_derivations.proofs.trim.text_of.Goals as goal

pub derivation_text-requires : goal.derivation_text-requires
derivation_text-requires c = record {
  fits =
      subst (λ (d : Declarations). AreSorted d c.rec.result.now.terms) c.requires.declarations
      (subst (λ (r : Recorded). AreSorted c.args.derivation.now.declarations r.terms) (sym c.rec.ensures.value) c.rec.ensures.derivation.judges.sorted);
}
