use Rattle.std.proofs.Common.{take}
use Rattle.ct_kept.specs.Chosen.{AreRoots}
use Rattle.ct_kept.proofs.within.roots_of.Given as goal

abbrev pub invariant-loop-lemma : goal.invariant-loop-lemma
invariant-loop-lemma l = AreRoots l.marks (take l.lemma-index l.lemmas) l.roots.items
