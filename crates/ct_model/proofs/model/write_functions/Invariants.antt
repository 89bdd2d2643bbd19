use Rattle.std.specs.List.{range_with_len}
use Rattle.ct_model.specs.Listed.{lines}
use Rattle.ct_model.specs.TableText.{IsTableText}
use Rattle.ct_model.proofs.ListLemmas.{AreWritten}
use Rattle.ct_model.proofs.model.write_functions.Given as goal

abbrev pub invariant-loop-f : goal.invariant-loop-f
invariant-loop-f l = AreWritten (IsTableText l.sig l.interp) lines (range_with_len 0 l.f) l.fn.out.items l.out.items
