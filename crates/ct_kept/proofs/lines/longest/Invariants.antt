use Rattle.std.proofs.Common.{◌≤◌, length, take, All}
use Rattle.ct_kept.specs.declared.lemma.Lemma.{Lemma}
use Rattle.ct_kept.proofs.lines.longest.Given as goal

abbrev pub invariant-loop-lemma : goal.invariant-loop-lemma
invariant-loop-lemma l = All (λ (lemma : Lemma). length lemma.steps ≤ l.most) (take l.lemma-index l.lemmas)
