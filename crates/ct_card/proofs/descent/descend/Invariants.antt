use Rattle.std.proofs.Common.{◌≡◌, suc, ◌+◌, ◌*◌, ◌<◌, false, length, get_or, Some}
use Rattle.ct_card.specs.Cardinality.{IsInfinite}
use Rattle.ct_values.specs.declared.node.NodeId.{NodeId}
use Rattle.ct_card.specs.Descent.{LeadsDown, weight, total}
use Rattle.ct_card.specs.Made.{IsMade}
use Rattle.ct_card.proofs.descent.descend.Given as goal

abbrev pub invariant-loop-down : goal.invariant-loop-down
invariant-loop-down l = record {
  down : LeadsDown l.sig l.layers (record { sort = l.s; number = l.n; turn = false }) l.down.way.items l.down.wanted;
  inside : l.down.wanted.sort < length l.sig.sorts;
  infinite : IsInfinite l.sig l.down.wanted.sort;
  made : (k : NodeId) → l.down.top ≡ Some k → (l.down.wanted.turn ≡ false) × IsMade l.made l.down.wanted.sort l.down.wanted.number k;
}

abbrev pub decreases-loop-down : goal.decreases-loop-down
decreases-loop-down l = weight l.down.wanted * suc (total l.several) + get_or l.several l.down.wanted.sort 0
