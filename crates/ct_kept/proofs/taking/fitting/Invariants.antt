use Rattle.std.proofs.Common.{◌≡◌, ◌≤◌, length, take}
use Rattle.ct_kept.specs.Lemmas.{theory_lemmas}
use Rattle.ct_kept.proofs.taking.fitting.Given as goal

abbrev pub invariant-loop-index : goal.invariant-loop-index
invariant-loop-index l = record {
  counted : l.count ≡ length (theory_lemmas (take l.index l.lines));
  few : l.count ≤ l.most;
}
