use Rattle.std.proofs.Common.{◌≡◌, ℕ, ◌+◌, ◌≤◌, length, take, drop, All}
use Rattle.ct_terms.specs.Terms.{AreSorted}
use Rattle.ct_kept.specs.Lemmas.{IsAcceptedLemma, theory_lemmas}
use Rattle.ct_kept.specs.Kept.{IsOver, TakesAll}
use Rattle.ct_kept.proofs.taking.take_first.Given as goal

abbrev pub invariant-loop-rest : goal.invariant-loop-rest
invariant-loop-rest l = record {
  done : ℕ;
  rest : l.rest ≡ drop done l.lines;
  takes : TakesAll (record { table = l.initial.table; lemmas = l.initial.lemmas.items }) l.terms (theory_lemmas (take done l.lines)) (record { table = l.table; lemmas = l.lemmas.items });
  some : 1 ≤ length l.rest → 1 ≤ l.size;
  sorted : AreSorted l.sig l.table;
  accepted : All (IsAcceptedLemma l.sig l.terms) (theory_lemmas l.rest);
  over : All (IsOver l.initial.table) l.initial.lemmas.items → All (IsOver l.table) l.lemmas.items;
}

abbrev pub decreases-loop-rest : goal.decreases-loop-rest
decreases-loop-rest l = length l.rest + l.size
