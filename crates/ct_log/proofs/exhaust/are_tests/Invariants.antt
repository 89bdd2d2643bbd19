use Rattle.std.proofs.Common.{◌↔◌, drop}
use Rattle.std.specs.List.{AllZip}
use Rattle.ct_log.specs.Gates.{IsTestOf}
use Rattle.ct_log.proofs.exhaust.are_tests.Given as goal

abbrev pub invariant-loop-i : goal.invariant-loop-i
invariant-loop-i l = AllZip (IsTestOf l.table l.t) (drop l.i l.literals) (drop l.i l.ctors) ↔ AllZip (IsTestOf l.table l.t) l.literals l.ctors
