use Rattle.std.proofs.Common.{◌≡◌, ◌+◌, ◌≤◌, List, ℕ, length}
use Rattle.ct_sexpr.specs.Whitespace.{after_whitespace}
use Rattle.ct_sexpr.specs.Token.{AreTokens}
use Rattle.ct_sexpr.specs.Expression.{Expression, tokens_of}
use Rattle.ct_input.proofs.PartLemmas.{IsInside}
use Rattle.ct_input.proofs.parts.after_expression.Given as goal

abbrev pub invariant-loop-rest : goal.invariant-loop-rest
invariant-loop-rest l =
    ((e : Expression) (end : List ℕ) → AreTokens (tokens_of e) l.fn.bytes end → IsInside l.depth l.rest end)
    × (after_whitespace l.rest ≡ l.rest)
    × (l.depth + length l.rest ≤ length l.fn.bytes)

abbrev pub decreases-loop-rest : goal.decreases-loop-rest
decreases-loop-rest l = length l.rest
