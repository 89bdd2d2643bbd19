use Rattle.std.proofs.Common.{◌<◌, length, arith, rules, length-drop}
use Rattle.ct_words.proofs.NameLemmas.{take-drop_all}
use Rattle.ct_words.proofs.StorageLemmas.{AreStarts-more, names_in-next}
use Rattle.ct_words.proofs.buckets.starts.Goals as goal

pub loop-index-preserved : goal.loop-index-preserved
loop-index-preserved g c =
    let l = c.loop-index in
    let text = c.args.text.now in
    let room : l.index < length l.starts = omega (arith, l.invariant.0, c.loop-index-test.true) in
    let tail = take-drop_all text l.start in
    let first = rw tail at c.first_name.ensures.first in
    let ended = rw tail at c.first_name.ensures.ended in
    (search rules, AreStarts-more text l.starts l.index l.start room l.invariant.1 l.invariant.2 l.invariant.3, omega (arith, ended, length-drop l.start text), names_in-next text l.start l.index _ _ l.invariant.3 first)
