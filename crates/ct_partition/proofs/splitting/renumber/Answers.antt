use Rattle.std.proofs.Common.{ℕ, List, cond, ap, ◌∙◌}
use Rattle.std.proofs.lemmas.List.{take_all}
use Rattle.ct_partition.specs.Sets.{has}
use Rattle.ct_partition.specs.Partition.{block_at}
use Rattle.ct_partition.proofs.BlockLemmas.{AreRenumbered-none, AreRenumbered-more}
use Rattle.ct_partition.proofs.splitting.renumber.Goals as goal

pub loop-i-init : goal.loop-i-init
loop-i-init c = AreRenumbered-none c.args.numbers.now.items c.args.number

pub loop-i-preserved : goal.loop-i-preserved
loop-i-preserved c =
    AreRenumbered-more c.args.numbers.now.items c.loop-i.numbers.items c.args.points.now c.loop-i.i-index 0 c.args.number c.loop-i-test.true (c.requires.within c.loop-i.i-index 0 c.loop-i-test.true) c.loop-i.invariant

pub returns : goal.returns
returns c =
    let done = c.loop-i.invariant in
    let all = take_all c.loop-i.i-index c.args.points.now c.loop-i-test.false in
    record {
      long = done.long;
      value = λ i within.
          done.value i within ∙ ap (λ (xs : List ℕ). cond (has xs i) c.args.number (block_at c.args.numbers.now.items i)) all;
    }
