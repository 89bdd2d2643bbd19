use Rattle.std.proofs.Common.{take}
use Rattle.std.specs.List.{AllZip}
use Rattle.ct_congr.specs.Normal.{IsRepresented}
use Rattle.ct_congr.proofs.normal.represented.Given as goal

abbrev pub invariant-loop-t : goal.invariant-loop-t
invariant-loop-t l = AllZip (IsRepresented l.reps) (take l.t-index l.terms) l.args
