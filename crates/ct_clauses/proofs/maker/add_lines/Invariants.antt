use Rattle.std.proofs.Common.{◌≡◌, ◌++◌, length}
use Rattle.std.specs.Vec.Iter.{into_iter_items, into_iter_len}
use Rattle.ct_clauses.specs.Growth.{with_lines}
use Rattle.ct_clauses.proofs.maker.add_lines.Given as goal

abbrev pub invariant-loop-line : goal.invariant-loop-line
invariant-loop-line l = record {
  added : l.derivation ≡ with_lines l.fn.derivation l.yielded;
  yielded : l.yielded ++ into_iter_items l.line-iterator ≡ l.fn.lines.items;
  counted : into_iter_len l.line-iterator ≡ length (into_iter_items l.line-iterator);
}
