use Rattle.std.proofs.Common.{◌≡◌, take}
use Rattle.std.specs.List.{flat_map}
use Rattle.ct_kept.specs.Lemmas.{lemma_terms, theory_lemmas}
use Rattle.ct_kept.proofs.taking.roots_of.Given as goal

abbrev pub invariant-loop-line : goal.invariant-loop-line
invariant-loop-line l = l.roots.items ≡ flat_map lemma_terms (theory_lemmas (take l.line-index l.lines))
