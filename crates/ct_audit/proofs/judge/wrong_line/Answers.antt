use Rattle.std.proofs.Common.{subst}
use Rattle.ct_log.specs.Recorded.{Derived}
use Rattle.ct_checker.specs.Rejection.{IsRejectedAt}
use Rattle.ct_audit.proofs.judge.wrong_line.Goals as goal

pub returns : goal.returns
returns c =
    record {
      checked = (
        c.in-Err.reject.why,
        subst (λ (d : Derived). IsRejectedAt d.declarations d.rec.terms d.asserts d.rec.lines c.in-Err.reject.step c.in-Err.reject.why) c.in_ok-checker.ensures.begun c.in-Err.ensures.rejected,
      );
    }
