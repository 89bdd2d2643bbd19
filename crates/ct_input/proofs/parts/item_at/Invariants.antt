use Rattle.std.proofs.Common.{◌≤◌, List, ℕ, ◌∷◌, length}
use Rattle.ct_sexpr.specs.Expression.{Expression, Expressions}
use Rattle.ct_input.specs.Parts.{StandsAt, StandsAmong, Lacks}
use Rattle.ct_input.proofs.PartLemmas.{LacksAmong}
use Rattle.ct_input.proofs.parts.item_at.Given as goal

abbrev pub invariant-loop-left : goal.invariant-loop-left
invariant-loop-left l =
    ((e : Expression) (path from end : List ℕ) → StandsAt e (l.fn.index ∷ path) l.fn.bytes from end → (es : Expressions) × StandsAmong es l.left path l.rest from end)
    × (length l.rest ≤ length l.fn.bytes)
    × ((path : List ℕ) → Lacks (l.fn.index ∷ path) l.fn.bytes → LacksAmong l.left path l.rest)

abbrev pub decreases-loop-left : goal.decreases-loop-left
decreases-loop-left l = l.left
