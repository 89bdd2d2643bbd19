use Rattle.std.proofs.Common.{◌≤◌, ◌-◌, length}
use Rattle.ct_values.specs.Numbering.{IsInOrder}
use Rattle.ct_values.specs.Renumbering.{IsNumbering, Stay, AreRenumbered}
use Rattle.ct_values.proofs.reach.renumber_all.Given as goal

abbrev pub invariant-loop-id : goal.invariant-loop-id
invariant-loop-id l =
    IsNumbering (length l.g) l.ids
    × Stay l.initial.ids.keys l.ids.keys
    × AreRenumbered l.g l.ids.keys l.nodes
    × (length l.nodes ≤ length l.ids.keys)
    × IsInOrder (length l.initial.ids.keys) 0 l.nodes (length l.ids.keys)

abbrev pub decreases-loop-id : goal.decreases-loop-id
decreases-loop-id l = length l.g - length l.nodes
