use Rattle.std.proofs.Common.{◌≡◌, true, sym, ap, subst, ◌∙◌}
use Rattle.ct_sat.specs.State.{IsQuiet, LacksValue}
use Rattle.ct_engine.specs.declared.course.Course.{Course}
use Rattle.ct_engine.specs.Moves.{IsSpentRecord}
use Rattle.ct_engine.specs.Progress.{IsUnderWay, IsTaskOf}
use Rattle.ct_engine.proofs.OutcomeLemmas.{IsSpending-from}
use Rattle.ct_engine.proofs.answer.spending_of.Goals as goal

pub spent-requires-clause-under_way : goal.spent-requires-clause-under_way
spent-requires-clause-under_way c = subst (λ (x : Course). IsUnderWay x) (sym c.deref.ensures) c.requires.under_way

pub spent-requires-clause-quiet : goal.spent-requires-clause-quiet
spent-requires-clause-quiet c = subst (λ (x : Course). IsQuiet x.search) (sym c.deref.ensures) c.requires.quiet

pub spent-requires-clause-lacking : goal.spent-requires-clause-lacking
spent-requires-clause-lacking c = subst (λ (x : Course). LacksValue x.search) (sym c.deref.ensures) c.requires.lacking

pub spent-requires-clause-budget : goal.spent-requires-clause-budget
spent-requires-clause-budget c = subst (λ (x : Course). x.search.count ≡ x.search.budget) (sym c.deref.ensures) c.requires.spent

pub spent-requires-clause-recorded : goal.spent-requires-clause-recorded
spent-requires-clause-recorded c = subst (λ (x : Course). x.recorded ≡ true) (sym c.deref.ensures) c.requires.on_record.0

pub returns : goal.returns
returns c =
    let course = c.into_inner-search.result in
    record {
      spending = λ d table asserts task.
          IsSpending-from c.spent_searches.ensures.recorded d table asserts c.args.budget course c.new.result c.new.ensures.value
          (subst (λ (x : Course). IsTaskOf d table asserts x) (sym c.into_inner-search.ensures) task)
          (subst (λ (x : Course). x.search.budget ≡ c.args.budget) (sym c.into_inner-search.ensures) c.requires.on_record.1)
          (subst (λ (x : Course). IsSpentRecord x.derivation.declarations x.derivation.rec.terms x.derivation.asserts x.derivation.rec.lines x.moves.items x.search.budget)
          (c.deref.ensures ∙ sym c.into_inner-search.ensures) c.spent.ensures.recorded);
      derivation = ap (λ (x : Course). x.derivation) c.into_inner-search.ensures;
      moves = c.new.ensures.value ∙ ap (λ (x : Course). x.moves.items) c.into_inner-search.ensures;
    }
