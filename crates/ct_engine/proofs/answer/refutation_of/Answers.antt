use Rattle.std.proofs.Common.{sym, ap, subst, ◌∙◌}
use Rattle.ct_checker.specs.Rejection.{EndsEmpty}
use Rattle.ct_engine.specs.declared.course.Course.{Course}
use Rattle.ct_engine.specs.Verdict.{IsRefutation}
use Rattle.ct_engine.specs.Progress.{IsTaskOf}
use Rattle.ct_engine.proofs.answer.refutation_of.Goals as goal

pub refuted-requires-clause-task : goal.refuted-requires-clause-task
refuted-requires-clause-task c =
    subst (λ (x : Course). IsTaskOf c.args.sig.now c.args.table.now c.args.asserts.now x) (sym c.deref.ensures) c.requires.task

pub refuted-requires-clause-ends : goal.refuted-requires-clause-ends
refuted-requires-clause-ends c = subst (λ (x : Course). EndsEmpty x.derivation.rec.lines) (sym c.deref.ensures) c.requires.ends

pub returns : goal.returns
returns c = record {
  refutation =
      subst (λ (x : Course). IsRefutation c.args.sig.now c.args.table.now c.args.asserts.now x.derivation)
      (c.deref.ensures ∙ sym c.into_inner-search.ensures) c.refuted.ensures.refutation;
  same = ap (λ (x : Course). x.derivation) c.into_inner-search.ensures;
}
