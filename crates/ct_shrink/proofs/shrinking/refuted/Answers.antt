use Rattle.std.proofs.Common.{◌≡◌, ◌∙◌, ◌≤◌, ℕ, ap, subst}
use Rattle.ct_sorts.specs.Declarations.{Declarations}
use Rattle.ct_terms.specs.Terms.{IsTermTable, AreSorted, most_terms}
use Rattle.ct_log.specs.Recorded.{Recorded}
use Rattle.ct_shrink.proofs.DraftLemmas.{core_refutes}
use Rattle.ct_shrink.proofs.shrinking.refuted.Goals as goal

pub returns : goal.returns
returns c =
    let derived = c.args.derivation.now in
    let terms_are : c.table.result.now ≡ derived.rec.terms = c.table.ensures.value ∙ ap (λ (r : Recorded). r.terms) c.rec.ensures.value in
    let is_table : IsTermTable c.table.result.now = record { few = subst (λ (n : ℕ). n ≤ most_terms) c.len-terms.ensures.count c.len-terms.ensures.few; begins = c.len-terms.ensures.begins; ordered = c.len-terms.ensures.ordered; single = c.len-terms.ensures.single; negates = c.len-terms.ensures.negates } in
    record {
      refuted =
          core_refutes c.args.sig.now c.args.table.now c.args.asserts.now c.models.ensures.models c.args.places.now derived c.sorts-sorts.ensures.consistent
          (subst IsTermTable terms_are is_table)
          (subst (λ (d : Declarations). AreSorted d derived.rec.terms) c.requires.core.declarations c.rec.ensures.derivation.judges.sorted)
          c.requires.core;
    }
