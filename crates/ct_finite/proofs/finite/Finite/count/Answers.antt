use Rattle.std.proofs.Common.{arith, sym, ◌∙◌, length}
use Rattle.ct_listing.specs.Listing.{listed}
use Rattle.ct_finite.proofs.CapLemmas.{capped_over, capped_exact}
use Rattle.ct_finite.proofs.ValueLemmas.{count_read}
use Rattle.ct_finite.proofs.finite.Finite.count.Goals as goal

pub returns-then-count-gt-MOST_VALUES : goal.returns-then-count-gt-MOST_VALUES
returns-then-count-gt-MOST_VALUES c =
    let s = c.args.s in
    let read = count_read c.self.inside.counts.items c.args.self.now s c.index-count.result.now c.self.view_is c.requires.inside c.index-count.ensures in
    record { exact = λ d all listable. capped_over (length (listed d s)) (omega (arith, c.if-count-gt-MOST_VALUES.true, read, (all.counted s (all.all s listable)).1)) }

pub returns : goal.returns
returns c =
    let s = c.args.s in
    let read = count_read c.self.inside.counts.items c.args.self.now s c.index-count.result.now c.self.view_is c.requires.inside c.index-count.ensures in
    record {
      exact = λ d all listable.
          let e = (all.counted s (all.all s listable)).1 in
          (read ∙ e ∙ sym (capped_exact (length (listed d s)) (omega (arith, c.if-count-gt-MOST_VALUES.false, read, e))), c.if-count-gt-MOST_VALUES.false);
    }
