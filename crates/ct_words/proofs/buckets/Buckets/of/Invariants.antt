use Rattle.std.proofs.Common.{◌≡◌, length}
use Rattle.ct_words.specs.NameList.{names_in}
use Rattle.ct_words.specs.Storage.{AreStarts, IsChained, bucket_at}
use Rattle.ct_words.proofs.buckets.Buckets.of.Given as goal

abbrev pub invariant-loop-index : goal.invariant-loop-index
invariant-loop-index g l =
    (length l.starts ≡ g.row.N) × (length l.lasts ≡ 64) × (length l.befores ≡ g.row.N) × AreStarts l.text g.row.N l.starts × IsChained (bucket_at (names_in l.text)) l.index l.lasts l.befores
