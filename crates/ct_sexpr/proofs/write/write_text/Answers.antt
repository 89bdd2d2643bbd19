use Rattle.ct_sexpr.proofs.Writing.{written_text-more}
use Rattle.ct_sexpr.proofs.write.write_text.Goals as goal

pub loop-byte-preserved : goal.loop-byte-preserved
loop-byte-preserved c =
    let loop = c.loop-byte in
    written_text-more c.args.content.now loop.byte-index c.args.out.now.items loop.out.items c.write_in_text.new.out.items c.loop-byte-test.true loop.invariant c.in_ok-write_in_text.ensures.ok
