use Rattle.std.proofs.Common.{take}
use Rattle.std.specs.List.{AllZip}
use Rattle.ct_rules.specs.Rules.{IsSelected}
use Rattle.ct_congr.proofs.rules.selected.Given as goal

abbrev pub invariant-loop-s : goal.invariant-loop-s
invariant-loop-s l = AllZip (IsSelected l.table l.u) l.args (take l.s-index l.s-items)
