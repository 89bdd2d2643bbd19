use Rattle.std.proofs.Common.{◌↔◌, drop}
use Rattle.std.specs.List.{AllZip}
use Rattle.ct_rules.specs.Rules.{IsSelected}
use Rattle.ct_log.proofs.steps.are_selected.Given as goal

abbrev pub invariant-loop-i : goal.invariant-loop-i
invariant-loop-i l = AllZip (IsSelected l.table l.u) (drop l.i l.args) (drop l.i l.sels) ↔ AllZip (IsSelected l.table l.u) l.args l.sels
