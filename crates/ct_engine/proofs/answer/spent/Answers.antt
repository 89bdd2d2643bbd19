use Rattle.std.proofs.Common.{◌≡◌, ℕ, Bool, ◌≤◌, ap, subst, ◌∙◌}
use Rattle.ct_terms.specs.Terms.{IsTermTable, most_terms}
use Rattle.ct_log.specs.Recorded.{Recorded}
use Rattle.ct_engine.specs.Progress.{IsAccounted}
use Rattle.ct_engine.proofs.AnswerLemmas.{IsSpentRecord-from}
use Rattle.ct_engine.proofs.answer.spent.Goals as goal

pub returns : goal.returns
returns c =
    let course = c.args.course.now in
    let len = c.len-terms.ensures in
    let table_is : c.table.result.now ≡ course.derivation.rec.terms = c.table.ensures.value ∙ ap (λ (r : Recorded). r.terms) c.rec.ensures.value in
    let is_table : IsTermTable course.derivation.rec.terms = subst IsTermTable table_is (record {
      few = subst (λ (n : ℕ). n ≤ most_terms) len.count len.few;
      begins = len.begins;
      ordered = len.ordered;
      single = len.single;
      negates = len.negates;
    }) in
    record { recorded = IsSpentRecord-from c.units.ensures.units course.search course.derivation course.initial course.moves.items is_table c.rec.ensures.derivation c.requires.quiet c.requires.lacking c.requires.budget (subst (λ (b : Bool). IsAccounted b course.search course.derivation course.initial course.moves.items) c.requires.recorded c.requires.under_way) }
