use Rattle.std.proofs.Common.{Option, sym, subst}
use Rattle.ct_terms.specs.declared.ids.TermId.{TermId}
use Rattle.ct_operators.specs.declared.operator.Operator.TheVariants.{Exclusion}
use Rattle.ct_operators.specs.Following.{MayFollow, FollowGives}
use Rattle.ct_operators.proofs.FollowLemmas.{exclusion_sorts, exclusion_done}
use Rattle.ct_operators.proofs.following.follow_exclusion.Goals as goal

pub exclusive-requires-clause-boolean : goal.exclusive-requires-clause-boolean
exclusive-requires-clause-boolean c =
    exclusion_sorts c.args.sig.now c.args.table.now c.in-Some.before c.args.term (subst (λ (lead : Option TermId). MayFollow c.args.sig.now c.args.table.now Exclusion lead c.args.term) c.in-Some.is c.requires.ready)

pub returns : goal.returns
returns c = record {
  outcome = λ ends. subst (λ (lead : Option TermId). FollowGives c.args.sig.now c.args.table.now c.exclusive.new.table Exclusion lead c.args.term ends c.exclusive.result) (sym c.in-Some.is) (exclusion_done c.args.sig.now c.args.table.now c.in-Some.before c.args.term c.exclusive.new.table c.exclusive.result ends c.exclusive.ensures.core c.exclusive.ensures.effect);
}
