use Rattle.std.proofs.Common.{Option, Ok, Err, sym, subst}
use Rattle.std.proofs.lemmas.Result.{err_from_is_err_and}
use Rattle.ct_terms.specs.declared.ids.TermId.{TermId}
use Rattle.ct_operators.specs.declared.operator.Operator.TheVariants.{Equality}
use Rattle.ct_operators.specs.Following.{MayFollow, FollowGives}
use Rattle.ct_operators.proofs.FollowLemmas.{equality_sorts, equality_failed, equality_done}
use Rattle.ct_operators.proofs.following.follow_equality.Goals as goal

pub equality-requires-clause-one_sort : goal.equality-requires-clause-one_sort
equality-requires-clause-one_sort c =
    equality_sorts c.args.sig.now c.args.table.now c.in-Some.before c.args.term (subst (λ (lead : Option TermId). MayFollow c.args.sig.now c.args.table.now Equality lead c.args.term) c.in-Some.is c.requires.ready)

pub returns-in_err-equality : goal.returns-in_err-equality
returns-in_err-equality c =
    let p = err_from_is_err_and c.from_residual.result c.from_residual.ensures.1 in
    record {
      outcome = λ ends. rw (p.1, p.2) (subst (λ (lead : Option TermId). FollowGives c.args.sig.now c.args.table.now c.equality.new.table Equality lead c.args.term ends (Err c.in_err-equality.field-0.0)) (sym c.in-Some.is) (equality_failed c.args.sig.now c.args.table.now c.in-Some.before c.args.term c.equality.new.table _ c.in_err-equality.ensures.effect c.in_err-equality.field-0.0 ends (λ x. x)));
    }

pub returns : goal.returns
returns c = record {
  outcome = λ ends. subst (λ (lead : Option TermId). FollowGives c.args.sig.now c.args.table.now c.equality.new.table Equality lead c.args.term ends (Ok c.args.term)) (sym c.in-Some.is) (equality_done c.args.sig.now c.args.table.now c.in-Some.before c.args.term c.equality.new.table _ c.in_ok-equality.ensures.effect ends (_, c.in_ok-equality.ensures.core));
}
