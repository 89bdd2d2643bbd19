use Rattle.std.proofs.Common.{subst}
use Rattle.ct_log.specs.Recorded.{Derived}
use Rattle.ct_checker.specs.Rejection.{IsRejectedAt}
use Rattle.ct_checker.proofs.RejectionLemmas.{rejected_fails}
use Rattle.ct_checker.proofs.checker.Checker.run.Goals as goal

pub returns-in-Some-clause-rejected : goal.returns-in-Some-clause-rejected
returns-in-Some-clause-rejected c =
    subst (λ (s : Derived). IsRejectedAt s.declarations s.rec.terms s.asserts s.rec.lines c.in-Some.reject.step c.in-Some.reject.why) c.self.view_is c.in-Some.ensures.judged

pub returns-in-Some-clause-fails : goal.returns-in-Some-clause-fails
returns-in-Some-clause-fails c =
    let s = c.args.self.now in
    rejected_fails s.declarations s.rec.terms s.asserts s.rec.lines c.in-Some.reject.step c.in-Some.reject.why
    (subst (λ (s : Derived). IsRejectedAt s.declarations s.rec.terms s.asserts s.rec.lines c.in-Some.reject.step c.in-Some.reject.why) c.self.view_is c.in-Some.ensures.judged)
