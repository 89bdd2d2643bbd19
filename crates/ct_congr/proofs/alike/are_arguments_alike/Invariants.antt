use Rattle.std.proofs.Common.{take}
use Rattle.std.specs.List.{AllZip}
use Rattle.ct_terms.specs.Children.{core_children}
use Rattle.ct_congr.specs.Partition.{InOneClass}
use Rattle.ct_congr.proofs.alike.are_arguments_alike.Given as goal

abbrev pub invariant-loop-place : goal.invariant-loop-place
invariant-loop-place l = AllZip (InOneClass l.reps) (take l.place (core_children l.left)) (take l.place (core_children l.right))
