use Rattle.std.proofs.Common.{◌≡◌, ◌++◌, length, map, List, ℕ, Option, Some}
use Rattle.std.specs.Borrow.{Bor}
use Rattle.ct_names.specs.Bounds.{held_name}
use Rattle.ct_stack.proofs.block.has_repeated_name.Given as goal

abbrev pub invariant-loop-left : goal.invariant-loop-left
invariant-loop-left l = map (λ (name : Bor (List ℕ)). Some name.now) l.names ≡ map held_name l.held.items ++ map (λ (name : Bor (List ℕ)). Some name.now) l.left

abbrev pub decreases-loop-left : goal.decreases-loop-left
decreases-loop-left l = length l.left
