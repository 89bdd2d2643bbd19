use Rattle.std.proofs.Common.{◌≡◌, take}
use Rattle.ct_log_text.specs.Reading.{sorts_of}
use Rattle.ct_log_text.proofs.named.sorts_of.Given as goal

abbrev pub invariant-loop-t : goal.invariant-loop-t
invariant-loop-t l = l.sorts.items ≡ sorts_of l.table (take l.t-index l.args)
