use Rattle.std.proofs.Common.{◌≤◌, length, ◌∙◌, sym, subst}
use Rattle.ct_log.specs.Recorded.{Derived}
use Rattle.ct_engine.specs.Verdict.{IsRefutation}
use Rattle.ct_engine.proofs.shortening.shortened.Goals as goal

pub returns-clause-refutation : goal.returns-clause-refutation
returns-clause-refutation c =
    let refutes = IsRefutation c.args.sig.now c.args.table.now c.args.asserts.now in
    subst refutes (sym c.into_inner.ensures)
    (c.in_ok-left.ensures.refutation c.args.sig.now c.args.table.now c.args.asserts.now (subst refutes (sym (c.deref_mut.ensures.value ∙ c.in_ok-new.ensures.ok)) c.requires.refutation))

pub returns-clause-within : goal.returns-clause-within
returns-clause-within c = subst (λ (x : Derived). c.in_ok-left.left ≤ length x.rec.lines) (sym c.into_inner.ensures) c.in_ok-left.ensures.within
