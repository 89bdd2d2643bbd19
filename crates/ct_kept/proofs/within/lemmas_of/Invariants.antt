use Rattle.std.proofs.Common.{take}
use Rattle.ct_kept.specs.Chosen.{AreLemmasBy}
use Rattle.ct_kept.proofs.within.lemmas_of.Given as goal

abbrev pub invariant-loop-lemma : goal.invariant-loop-lemma
invariant-loop-lemma l = AreLemmasBy l.numbers (take l.lemma-index l.lemmas) l.made.items
