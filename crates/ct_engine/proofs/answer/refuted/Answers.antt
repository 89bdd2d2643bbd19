use Rattle.std.proofs.Common.{◌≡◌, ℕ, ◌≤◌, ap, subst, ◌∙◌}
use Rattle.ct_terms.specs.Terms.{IsTermTable, most_terms}
use Rattle.ct_log.specs.Recorded.{Recorded}
use Rattle.ct_engine.proofs.ModelLemmas.{IsRefutation-from}
use Rattle.ct_engine.proofs.answer.refuted.Goals as goal

pub returns : goal.returns
returns c =
    let course = c.args.course.now in
    let len = c.len-terms.ensures in
    let table_is : c.table.result.now ≡ course.derivation.rec.terms = c.table.ensures.value ∙ ap (λ (r : Recorded). r.terms) c.rec.ensures.value in
    let is_table : IsTermTable course.derivation.rec.terms = subst IsTermTable table_is (record {
      few = subst (λ (n : ℕ). n ≤ most_terms) len.count len.few;
      begins = len.begins;
      ordered = len.ordered;
      single = len.single;
      negates = len.negates;
    }) in
    record { refutation = IsRefutation-from c.models.ensures.models c.args.sig.now c.args.table.now c.args.asserts.now course.derivation c.sorts-sorts.ensures.consistent is_table c.requires.task.declarations c.requires.task.asserted c.rec.ensures.derivation c.requires.ends }
