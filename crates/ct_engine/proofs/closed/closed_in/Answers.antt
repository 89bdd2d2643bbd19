use Rattle.std.proofs.Common.{ap, ◌∙◌}
use Rattle.ct_engine.specs.declared.closed.Closed.{Closed}
use Rattle.ct_engine.proofs.PrepareLemmas.{closure_fits, closed_from}
use Rattle.ct_engine.proofs.closed.closed_in.Goals as goal

pub returns-clause-closed : goal.returns-clause-closed
returns-clause-closed c =
    let made = c.in_ok-new.ensures.ok in
    closed_from c.args.sig.now c.args.table.now c.args.asserts.now c.closure_in.new.base c.in_ok-closure.closure c.in_ok-closure.ensures.closed c.in_ok-new.field-0.value
    (ap (λ (x : Closed). x.table) made ∙ c.in_ok-closed.ensures.ok ∙ c.table.ensures.value) (ap (λ (x : Closed). x.roots.items) made ∙ c.in_ok-roots.ensures.items ∙ c.roots.ensures.value) (ap (λ (x : Closed). x.closure) made)

pub returns-clause-fits : goal.returns-clause-fits
returns-clause-fits c =
    closure_fits c.args.sig.now _ c.closure_in.new.base.table c.in_ok-closure.ensures.closed.exact c.in_ok-closure.ensures.closed.few
