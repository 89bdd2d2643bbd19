use Rattle.std.proofs.Common.{◌+◌, ◌-◌, length}
use Rattle.ct_unique.specs.Found.{IsUnderWay, room}
use Rattle.ct_unique.proofs.following.pairs.Given as goal

abbrev pub invariant-loop-next : goal.invariant-loop-next
invariant-loop-next l = IsUnderWay l.classes l.partition (record { left = l.fn.a; right = l.fn.b }) l.found.places l.found.pairs.items l.next

abbrev pub decreases-loop-next : goal.decreases-loop-next
decreases-loop-next l = room l.classes l.found.places + (length l.found.pairs.items - l.next)
