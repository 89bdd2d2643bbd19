use Rattle.std.proofs.Common.{◌≡◌, arith, rules, refl, sym, ◌∙◌}
use Rattle.std.proofs.lemmas.List.{length-replicate}
use Rattle.ct_words.specs.Storage.{bucket_at}
use Rattle.ct_words.specs.NameList.{names_in}
use Rattle.ct_words.proofs.NameLemmas.{take-drop_all}
use Rattle.ct_words.proofs.StorageLemmas.{starts-name, bucket_at-name}
use Rattle.ct_words.proofs.ChainLemmas.{zeros, IsChained-none, IsChained-more}
use Rattle.ct_words.proofs.buckets.Buckets.of.Goals as goal

pub loop-index-init : goal.loop-index-init
loop-index-init g c =
    (c.starts-starts.ensures.length, refl, length-replicate g.row.N 0, c.starts-starts.ensures.starts, IsChained-none _ _ _ (zeros 64))

pub loop-index-preserved : goal.loop-index-preserved
loop-index-preserved g c =
    let l = c.loop-index in
    let i = l.invariant in
    let text = c.args.text.now in
    let first = rw (take-drop_all text _) at c.first_name.ensures.first in
    let at = starts-name text c.starts-starts.result g.row.N l.index c.first_name.result.now _ i.3 c.loop-index-test.true first in
    let same : bucket_at (names_in text) l.index ≡ c.bucket_of-bucket.result = bucket_at-name (names_in text) l.index _ at ∙ sym c.bucket_of-bucket.ensures.bucket in
    (i.0, search rules, search rules, i.3, IsChained-more (bucket_at (names_in text)) l.index l.lasts l.befores c.bucket_of-bucket.result same (omega (arith, i.1, c.bucket_of-bucket.ensures.below)) (omega (arith, i.2, c.loop-index-test.true)) i.4)
