use Rattle.std.proofs.Common.{◌<◌, length, get_or, arith}
use Rattle.std.proofs.lemmas.Option.{slice_get-get_or}
use Rattle.ct_lemmas.proofs.Each.{All-at}
use Rattle.ct_generics.specs.declared.nodes.ExprId.{ExprId}
use Rattle.ct_generics.specs.Expression.{named}
use Rattle.ct_generics.proofs.NodeLemmas.{Stay-trans, Stay-within}
use Rattle.ct_generics.proofs.ResolveLemmas.{applied-more, applied-all}
use Rattle.ct_generics.proofs.resolution.apply_all.Goals as goal

pub apply-requires-clause-argument : goal.apply-requires-clause-argument
apply-requires-clause-argument c =
    let none : ExprId = record { 0 = 0 } in
    let args = c.args.args.now in
    let i = c.loop-arg.arg-index in
    Stay-within c.args.table.now c.loop-arg.table c.loop-arg.invariant.stay (get_or args i none).0 (All-at (λ (id : ExprId). id.0 < length c.args.table.now) args i (get_or args i none) c.requires.within (slice_get-get_or args i none c.loop-arg-test.true))

pub loop-arg-preserved : goal.loop-arg-preserved
loop-arg-preserved c =
    let none : ExprId = record { 0 = 0 } in
    let args = c.args.args.now in
    let i = c.loop-arg.arg-index in
    let begin = c.args.table.now in
    let old = c.loop-arg.table in
    let new = c.apply.new.self in
    record {
      stay = Stay-trans begin old new c.loop-arg.invariant.stay c.apply.ensures.stay;
      within = c.in_ok-whole-2.ensures.within;
      stands = λ es stand. applied-more begin old new c.in_ok-whole-2.whole.0 c.loop-arg.whole.0 (get_or args i none) args (named c.args.h.0) es i stand (slice_get-get_or args i none c.loop-arg-test.true) c.loop-arg.invariant.stay c.in_ok-whole-2.ensures.ok (c.loop-arg.invariant.stands es stand);
    }

pub returns-clause-ok : goal.returns-clause-ok
returns-clause-ok c es stand =
    applied-all c.loop-arg.table c.args.table.now c.loop-arg.whole.0 c.args.args.now (named c.args.h.0) es c.loop-arg.arg-index stand (omega (arith, c.loop-arg-test.false)) (c.loop-arg.invariant.stands es stand)
