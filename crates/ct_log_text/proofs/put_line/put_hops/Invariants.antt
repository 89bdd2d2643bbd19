use Rattle.std.proofs.Common.{◌≡◌, ◌++◌, length}
use Rattle.ct_sexpr.specs.Written.{written_after}
use Rattle.ct_log_text.specs.Written.{items_as, hop_item}
use Rattle.ct_log_text.proofs.put_line.put_hops.Given as goal

abbrev pub invariant-loop-rest : goal.invariant-loop-rest
invariant-loop-rest l = l.out.items ++ written_after (items_as hop_item l.rest) ≡ l.fn.out.items ++ written_after (items_as hop_item l.hops)

abbrev pub decreases-loop-rest : goal.decreases-loop-rest
decreases-loop-rest l = length l.rest
