use Rattle.std.proofs.Common.{◌≡◌, ℕ, Err, refl, ap}
use Rattle.ct_closure.specs.Closed.{HasMoreThan, most_closure_terms}
use Rattle.ct_closure.specs.ClosedTable.{terms_at}
use Rattle.ct_closure.specs.declared.error.CloseError.{CloseError}
use Rattle.ct_engine.proofs.PrepareLemmas.{closure_fits}
use Rattle.ct_step.specs.Numbers.{closure_too_large}
use Rattle.ct_step.proofs.CauseLemmas.{at_code}
use Rattle.ct_step.proofs.check.close_first.Goals as goal

pub returns-in-Ok-clause-fits : goal.returns-in-Ok-clause-fits
returns-in-Ok-clause-fits c = closure_fits c.args.sig.now _ c.close_over.new.self.table c.in-Ok.ensures.closed.exact c.in-Ok.ensures.closed.few

pub returns-in-Err-TooLarge-clause-refused : goal.returns-in-Err-TooLarge-clause-refused
returns-in-Err-TooLarge-clause-refused c =
    at_code (λ (n : ℕ). (n ≡ closure_too_large) × HasMoreThan c.args.sig.now (terms_at c.args.table.now c.args.asserts.now) most_closure_terms) closure_too_large
    (refl, c.in-Err-TooLarge.ensures.too_large (ap (λ (f : CloseError). Err f) c.in-Err-TooLarge.field-0-is))
