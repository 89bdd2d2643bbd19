use Rattle.std.proofs.Common.{Option, Ok, Err, sym, subst}
use Rattle.std.proofs.lemmas.Result.{err_from_is_err_and}
use Rattle.ct_terms.specs.declared.ids.TermId.{TermId}
use Rattle.ct_operators.specs.declared.operator.Operator.TheVariants.{Inequality}
use Rattle.ct_operators.specs.Following.{MayFollow, FollowGives}
use Rattle.ct_operators.proofs.FollowLemmas.{inequality_sorts, inequality_failed, inequality_done}
use Rattle.ct_operators.proofs.following.follow_inequality.Goals as goal

pub inequality-requires-clause-one_sort : goal.inequality-requires-clause-one_sort
inequality-requires-clause-one_sort c =
    inequality_sorts c.args.sig.now c.args.table.now c.in-Some.first c.args.term (subst (λ (lead : Option TermId). MayFollow c.args.sig.now c.args.table.now Inequality lead c.args.term) c.in-Some.is c.requires.ready)

pub returns-in_err-inequality : goal.returns-in_err-inequality
returns-in_err-inequality c =
    let p = err_from_is_err_and c.from_residual.result c.from_residual.ensures.1 in
    record {
      outcome = λ ends. rw (p.1, p.2) (subst (λ (lead : Option TermId). FollowGives c.args.sig.now c.args.table.now c.inequality.new.table Inequality lead c.args.term ends (Err c.in_err-inequality.field-0.0)) (sym c.in-Some.is) (inequality_failed c.args.sig.now c.args.table.now c.in-Some.first c.args.term c.inequality.new.table _ c.in_err-inequality.ensures.effect c.in_err-inequality.field-0.0 ends (λ x. x)));
    }

pub returns : goal.returns
returns c = record {
  outcome = λ ends. subst (λ (lead : Option TermId). FollowGives c.args.sig.now c.args.table.now c.inequality.new.table Inequality lead c.args.term ends (Ok c.in-Some.first)) (sym c.in-Some.is) (inequality_done c.args.sig.now c.args.table.now c.in-Some.first c.args.term c.inequality.new.table _ c.in_ok-inequality.ensures.effect ends (_, c.in_ok-inequality.ensures.core));
}
