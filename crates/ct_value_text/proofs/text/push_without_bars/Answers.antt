use Rattle.ct_value_text.proofs.SortTextLemmas.{without_bars-more}
use Rattle.ct_value_text.proofs.text.push_without_bars.Goals as goal

pub loop-byte-preserved : goal.loop-byte-preserved
loop-byte-preserved c =
    let loop = c.loop-byte in
    without_bars-more c.args.text.now loop.byte-index c.args.out.now.items loop.out.items c.push_but_bar.new.out.items c.loop-byte-test.true loop.invariant c.in_ok-push_but_bar.ensures.ok
