use Rattle.std.proofs.Common.{◌≡◌, take}
use Rattle.ct_terms.proofs.table.TermTable.copy.Given as goal

abbrev pub invariant-loop-index : goal.invariant-loop-index
invariant-loop-index l = l.copied.entries ≡ take l.index l.self
