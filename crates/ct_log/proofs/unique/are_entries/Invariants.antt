use Rattle.std.proofs.Common.{◌↔◌, drop}
use Rattle.ct_log.specs.Equations.{AreEntriesFor}
use Rattle.ct_log.proofs.unique.are_entries.Given as goal

abbrev pub invariant-loop-i : goal.invariant-loop-i
invariant-loop-i l = AreEntriesFor l.given l.pairs (drop l.i l.entries) (drop l.i l.xs) (drop l.i l.ys) ↔ AreEntriesFor l.given l.pairs l.entries l.xs l.ys
