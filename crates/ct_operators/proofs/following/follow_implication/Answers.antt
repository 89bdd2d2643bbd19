use Rattle.std.proofs.lemmas.Result.{err_from_is_err_and}
use Rattle.ct_operators.proofs.FollowLemmas.{implication_last, implication_sort, implication_failed, implication_done}
use Rattle.ct_operators.proofs.following.follow_implication.Goals as goal

pub negated-requires-clause-boolean : goal.negated-requires-clause-boolean
negated-requires-clause-boolean c = implication_sort c.args.sig.now c.args.table.now c.args.term c.requires.ready.0 c.requires.ready.1

pub returns-in_err-negated : goal.returns-in_err-negated
returns-in_err-negated c =
    let p = err_from_is_err_and c.from_residual.result c.from_residual.ensures.1 in
    record {
      outcome = λ lead. rw (p.1, p.2) (implication_failed c.args.sig.now c.args.table.now c.args.term c.args.ends c.if-ends.false c.negated.new.table _ c.in_err-negated.ensures.effect lead c.in_err-negated.field-0.0 (λ x. x));
    }

pub returns : goal.returns
returns c = record {
  outcome = λ lead. implication_done c.args.sig.now c.args.table.now c.args.term c.args.ends c.if-ends.false c.negated.new.table _ c.in_ok-negated.ensures.effect lead (_, c.in_ok-negated.ensures.core);
}

pub returns-then-ends : goal.returns-then-ends
returns-then-ends c = record { outcome = λ lead. implication_last c.args.sig.now c.args.table.now lead c.args.term c.args.ends c.if-ends.true }
