use Rattle.std.proofs.Common.{◌≡◌, ◌∙◌, List, All, sym, ap, subst}
use Rattle.ct_terms.specs.declared.ids.TermId.{TermId}
use Rattle.ct_terms.specs.Terms.{Terms, IsBoolean}
use Rattle.ct_log.specs.Recorded.{Recorded}
use Rattle.ct_audit.proofs.judge.judge_record.Goals as goal

pub judge_lines-answer-requires-clause-booleans : goal.judge_lines-answer-requires-clause-booleans
judge_lines-answer-requires-clause-booleans c =
    let same : c.grow-rec.result.terms ≡ c.in-Ok.table.value = ap (λ (r : Recorded). r.terms) c.grow-rec.ensures.value ∙ c.into_inner.ensures in
    subst (λ (t : Terms). All (IsBoolean t) c.as_slice.result.now) (sym same)
    (subst (λ (ns : List TermId). All (IsBoolean c.in-Ok.table.value) ns) (sym c.as_slice.ensures.value) c.in-Ok.ensures.booleans)
