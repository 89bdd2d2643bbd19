use Rattle.std.proofs.Common.{length, map, All}
use Rattle.ct_command.specs.Seen.{constructor_seen}
use Rattle.ct_stack.specs.Elaborations.{IsCtorOf, HasFieldsBelow}
use Rattle.ct_stack.proofs.ZipLemmas.{IsZipped}
use Rattle.ct_stack.proofs.block.all_ctors.Given as goal

abbrev pub invariant-loop-left : goal.invariant-loop-left
invariant-loop-left l = IsZipped (IsCtorOf (map (λ p. p.now) l.params)) (map constructor_seen l.ctors) l.all.items (map constructor_seen l.left) × All (HasFieldsBelow (length l.params)) l.all.items

abbrev pub decreases-loop-left : goal.decreases-loop-left
decreases-loop-left l = length l.left
