use Rattle.ct_generics.proofs.TextLemmas.{IsCount-applied}
use Rattle.ct_generics.proofs.text.applied_length.Goals as goal

pub returns : goal.returns
returns c =
    record {
      count = λ hs n e known at stands. IsCount-applied hs c.args.table.now c.args.counts.now n c.args.m c.args.k c.capped.result c.count_at-function.result c.count_at-argument.result c.parentheses-around.result e c.count_at-function.ensures.value c.count_at-argument.ensures.value (λ f stands_f. c.parentheses-around.ensures.value c.args.table.now c.args.m.0 f c.node.ensures.value stands_f) c.capped.ensures.count known at stands;
    }
