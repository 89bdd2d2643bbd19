use Rattle.std.proofs.Common.{◌≡◌, ◌≤◌, length, drop}
use Rattle.ct_words.specs.NameList.{names_in}
use Rattle.ct_words.specs.Storage.{AreStarts}
use Rattle.ct_words.proofs.buckets.starts.Given as goal

abbrev pub invariant-loop-index : goal.invariant-loop-index
invariant-loop-index g l =
    (length l.starts ≡ g.row.N) × AreStarts l.text l.index l.starts × (l.start ≤ length l.text) × (names_in (drop l.start l.text) ≡ drop l.index (names_in l.text))
