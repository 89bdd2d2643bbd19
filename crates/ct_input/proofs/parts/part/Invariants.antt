use Rattle.std.proofs.Common.{◌≤◌, List, ℕ, length}
use Rattle.ct_sexpr.specs.Expression.{Expression}
use Rattle.ct_input.specs.Parts.{StandsAt, Lacks}
use Rattle.ct_input.proofs.parts.part.Given as goal

abbrev pub invariant-loop-left : goal.invariant-loop-left
invariant-loop-left l =
    ((e : Expression) (from end : List ℕ) → StandsAt e l.fn.path l.fn.bytes from end → (f : Expression) × StandsAt f l.left l.rest from end)
    × (length l.rest ≤ length l.fn.bytes)
    × (Lacks l.fn.path l.fn.bytes → Lacks l.left l.rest)

abbrev pub decreases-loop-left : goal.decreases-loop-left
decreases-loop-left l = length l.left
