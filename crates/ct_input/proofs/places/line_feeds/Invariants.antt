use Rattle.std.proofs.Common.{◌≡◌, ◌+◌, ◌≤◌, length}
use Rattle.ct_sexpr.specs.Whitespace as whitespace
use Rattle.ct_input.proofs.places.line_feeds.Given as goal

abbrev pub invariant-loop-rest : goal.invariant-loop-rest
invariant-loop-rest l = (l.count + whitespace.line_feeds l.rest ≡ whitespace.line_feeds l.fn.bytes) × (l.count + length l.rest ≤ length l.fn.bytes)

abbrev pub decreases-loop-rest : goal.decreases-loop-rest
decreases-loop-rest l = length l.rest
