use Rattle.std.proofs.Common.{◌+◌, ◌∙◌, [], ◌∷◌, ap, length-append}
use Rattle.ct_equivalence.proofs.BeginningLemmas.{AreOwnCons-push}
use Rattle.ct_equivalence.proofs.alone.own_constructors.Goals as goal

pub loop-t-preserved : goal.loop-t-preserved
loop-t-preserved c =
    rw c.in_ok-push.ensures.items (record {
      long = length-append c.loop-t.cons.items (c.own_constructor.result ∷ []) ∙ ap (λ n. n + 1) c.loop-t.invariant.long;
      own = AreOwnCons-push c.args.table.now c.loop-t.cons.items (record { 0 = c.loop-t.t }) c.own_constructor.result c.loop-t.invariant.long c.own_constructor.ensures.con c.loop-t.invariant.own;
    })
