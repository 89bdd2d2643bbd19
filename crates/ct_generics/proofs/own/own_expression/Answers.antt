use Rattle.std.proofs.Common.{sym, subst}
use Rattle.ct_generics.specs.Expression.{parameter, at_own_parameters}
use Rattle.ct_generics.specs.Nodes.{Stands}
use Rattle.ct_generics.proofs.NodeLemmas.{Stay-trans, Stay-within, Stands-stay}
use Rattle.ct_generics.proofs.FindingLemmas.{own-parameter}
use Rattle.ct_generics.proofs.own.own_expression.Goals as goal

pub apply-requires-clause-function : goal.apply-requires-clause-function
apply-requires-clause-function c = Stay-within c.loop-i.table c.param.new.self c.param.ensures.stay c.loop-i.whole.0 c.loop-i.invariant.within

pub loop-i-preserved : goal.loop-i-preserved
loop-i-preserved c =
    let h = c.args.h.0 in
    let i = c.loop-i.i in
    let old = c.loop-i.table in
    let mid = c.param.new.self in
    let new = c.apply.new.self in
    record {
      stay = Stay-trans c.args.table.now old new c.loop-i.invariant.stay (Stay-trans old mid new c.param.ensures.stay c.apply.ensures.stay);
      within = c.in_ok-whole-2.ensures.within;
      stands = subst (Stands new c.in_ok-whole-2.whole.0) (sym (own-parameter h i)) (c.in_ok-whole-2.ensures.ok (at_own_parameters h i) (parameter i) (Stands-stay old mid c.loop-i.whole.0 (at_own_parameters h i) c.param.ensures.stay c.loop-i.invariant.stands) c.in_ok-parameter.ensures.ok);
    }
