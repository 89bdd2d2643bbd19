use Rattle.std.proofs.Common.{◌≡◌, ◌++◌, length}
use Rattle.std.specs.Vec.Iter.{into_iter_items, into_iter_len}
use Rattle.ct_core.specs.Sweep.{IsCopied}
use Rattle.ct_core.proofs.trimming.put_back.Given as goal

abbrev pub invariant-loop-line : goal.invariant-loop-line
invariant-loop-line l = record {
  yielded : l.yielded ++ into_iter_items l.line-iterator ≡ l.fn.lines.items;
  counted : into_iter_len l.line-iterator ≡ length (into_iter_items l.line-iterator);
  number : l.number ≡ length l.yielded;
  copied : IsCopied l.number l.marks l.places.items l.fn.lines.items l.derivation.rec.lines;
  others : l.derivation ≡ record l.fn.derivation { rec = record l.fn.derivation.rec { lines = l.derivation.rec.lines } };
}
