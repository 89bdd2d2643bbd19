use Rattle.std.specs.List.{filter, range_with_len}
use Rattle.ct_model.specs.Listed.{lines}
use Rattle.ct_model.specs.TableText.{IsOffText}
use Rattle.ct_model.specs.ModelText.{can_miss}
use Rattle.ct_model.proofs.ListLemmas.{AreWritten}
use Rattle.ct_model.proofs.model.write_selectors.Given as goal

abbrev pub invariant-loop-s : goal.invariant-loop-s
invariant-loop-s l = AreWritten (IsOffText l.sig l.interp) lines (filter (can_miss l.sig) (range_with_len 0 l.s)) l.fn.out.items l.out.items
