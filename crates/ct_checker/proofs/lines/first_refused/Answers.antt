use Rattle.std.proofs.Common.{◌<◌, ◌≤◌, List, length, sym, subst, ◌∙◌, true≢false}
use Rattle.ct_log.specs.declared.line.Line.{Line}
use Rattle.ct_checker.proofs.RejectionLemmas.{accepted_next, refused_at, all_accepted}
use Rattle.ct_checker.proofs.lines.first_refused.Goals as goal

pub returns-then-not-accepted_at-clause-first : goal.returns-then-not-accepted_at-clause-first
returns-then-not-accepted_at-clause-first c =
    refused_at c.args.sig.now c.args.rec.now.terms c.args.asserts.now c.args.rec.now.lines c.loop-index.index
    (subst (λ (lines : List Line). c.loop-index.index < length lines) c.lines.ensures.value c.loop-index-test.true) c.loop-index.invariant.0
    (λ line at accepted. true≢false (sym ((c.accepted_at.ensures.exact line at).1 accepted) ∙ c.if-not-accepted_at.true))

pub loop-index-preserved : goal.loop-index-preserved
loop-index-preserved c = (
  accepted_next c.args.sig.now c.args.rec.now.terms c.args.asserts.now c.args.rec.now.lines c.loop-index.index c.loop-index.invariant.0 (λ line at. (c.accepted_at.ensures.exact line at).0 c.if-not-accepted_at.false),
  c.accepted_at.ensures.room ∙ c.loop-index.invariant.1,
)

pub returns-clause-first : goal.returns-clause-first
returns-clause-first c =
    all_accepted c.args.sig.now c.args.rec.now.terms c.args.asserts.now c.args.rec.now.lines c.loop-index.index
    (subst (λ (lines : List Line). length lines ≤ c.loop-index.index) c.lines.ensures.value c.loop-index-test.false) c.loop-index.invariant.0
