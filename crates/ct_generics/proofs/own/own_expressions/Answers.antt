use Rattle.std.proofs.Common.{[]}
use Rattle.ct_generics.proofs.FindingLemmas.{own-none, own-more}
use Rattle.ct_generics.proofs.own.own_expressions.Goals as goal

pub loop-h-init : goal.loop-h-init
loop-h-init c hs all = ([], rw c.in_ok-roots.ensures.items tt, own-none c.args.from hs)

pub loop-h-preserved : goal.loop-h-preserved
loop-h-preserved c hs all =
    rw c.in_ok-push.ensures.items (own-more c.args.from c.loop-h.h c.args.heads.now hs c.loop-h.table c.own_expression.new.table c.loop-h.roots.items c.in_ok-root.root c.stored_head.result.now c.own_expression.ensures.stay all c.stored_head.ensures.value c.in_ok-root.ensures.own (c.loop-h.invariant hs all))
