use Rattle.std.proofs.Common.{map, take}
use Rattle.ct_values.specs.Partition.{class_at}
use Rattle.ct_values.specs.Renumbering.{Stay}
use Rattle.ct_values.specs.Shape.{Spells, AreSteps}
use Rattle.ct_values.proofs.shape.shape.Given as goal

abbrev pub invariant-loop-child : goal.invariant-loop-child
invariant-loop-child l =
    AreSteps l.steps
    × Stay l.fn.steps.keys l.steps.keys
    × Spells l.steps.keys l.last l.fn.head (map (λ child. class_at l.classes child.0) (take l.child-index l.children))
