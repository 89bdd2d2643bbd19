use Rattle.ct_words.specs.NameList.{names_in}
use Rattle.ct_words.proofs.ChainLemmas.{IsLeft}
use Rattle.ct_words.proofs.name_table.NameTable.find.Given as goal

abbrev pub invariant-loop-left : goal.invariant-loop-left
invariant-loop-left g l = IsLeft (names_in l.self-inside.text.now) l.text g.row.N l.left

abbrev pub decreases-loop-left : goal.decreases-loop-left
decreases-loop-left g l = l.left
