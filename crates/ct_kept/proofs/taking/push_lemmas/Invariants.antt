use Rattle.std.proofs.Common.{◌≡◌, ◌++◌, map, take}
use Rattle.ct_restriction.specs.Renamed.{number_in}
use Rattle.ct_kept.specs.Lemmas.{renamed_lemma, theory_lemmas}
use Rattle.ct_kept.specs.Taken.{AreKnownLemmas}
use Rattle.ct_kept.proofs.taking.push_lemmas.Given as goal

abbrev pub invariant-loop-line : goal.invariant-loop-line
invariant-loop-line l = record {
  known : AreKnownLemmas l.numbers (theory_lemmas (take l.line-index l.lines));
  pushed : l.lemmas.items ≡ l.initial.lemmas.items ++ map (renamed_lemma (number_in l.numbers.numbers)) (theory_lemmas (take l.line-index l.lines));
}
