use Rattle.std.proofs.Common.{◌<◌, ℕ, refl, sym, subst, ◌∙◌}
use Rattle.ct_sat.specs.Status.{IsFalseAt}
use Rattle.ct_sat.specs.Watching.{IsWorkedThrough}
use Rattle.ct_sat.proofs.PropagateLemmas.{none_of, WorksThrough-more, WorksThrough-stop}
use Rattle.ct_sat.proofs.propagate.work_through.Goals as goal

pub returns-then-is_some-clause-works : goal.returns-then-is_some-clause-works
returns-then-is_some-clause-works c = WorksThrough-stop c.args.clauses.now c.args.trail.now c.literals.trail c.visit-conflict.new.trail c.args.watches.now.of_clauses.items c.literals.watches.of_clauses.items c.visit-conflict.new.watches.of_clauses.items c.args.progress.now c.literals.progress
    c.visit-conflict.ensures.propagated c.visit-conflict.ensures.short c.visit-conflict.ensures.held c.literals.invariant.works

pub literals-preserved : goal.literals-preserved
literals-preserved c =
    let worked = none_of c.visit-conflict.result (IsWorkedThrough c.visit-conflict.new.watches.of_clauses.items c.visit-conflict.new.trail.literals c.literals.progress.head) (IsFalseAt c.args.clauses.now c.visit-conflict.new.trail.literals) c.visit-conflict.ensures.worked (sym c.is_some.ensures ∙ c.if-is_some.false) in
    record {
      works = WorksThrough-more c.args.clauses.now c.args.trail.now c.literals.trail c.visit-conflict.new.trail c.args.watches.now.of_clauses.items c.literals.watches.of_clauses.items c.visit-conflict.new.watches.of_clauses.items c.args.progress.now c.literals.progress _
          (subst (λ (n : ℕ). c.literals.progress.head < n) c.len.ensures.count c.literals-test.true) c.visit-conflict.ensures.propagated c.visit-conflict.ensures.short c.visit-conflict.ensures.held worked refl c.literals.invariant.works;
      linked = c.visit-conflict.ensures.linked;
    }
