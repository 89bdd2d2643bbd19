use Rattle.std.proofs.Common.{length, map, All}
use Rattle.ct_command.specs.Seen.{named_seen}
use Rattle.ct_stack.specs.Elaborations.{IsFieldOf, IsBelow}
use Rattle.ct_stack.proofs.ZipLemmas.{IsZipped}
use Rattle.ct_stack.proofs.block.all_fields.Given as goal

abbrev pub invariant-loop-left : goal.invariant-loop-left
invariant-loop-left l = IsZipped (IsFieldOf (map (λ p. p.now) l.params)) (map named_seen l.fields) l.all.items (map named_seen l.left) × All (IsBelow (length l.params)) l.all.items

abbrev pub decreases-loop-left : goal.decreases-loop-left
decreases-loop-left l = length l.left
