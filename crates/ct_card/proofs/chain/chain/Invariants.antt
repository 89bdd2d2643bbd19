use Rattle.std.proofs.Common.{◌≡◌, ℕ, List, length}
use Rattle.ct_card.specs.Derived.{IsUnderWay}
use Rattle.ct_card.proofs.chain.chain.Given as goal

abbrev pub invariant-loop-i : goal.invariant-loop-i
invariant-loop-i l = record { long : length l.ranks.items ≡ length l.fn.ranks.items; under_way : (old : List ℕ) → IsUnderWay old l.rules l.fn.ranks.items l.fn.order.items → IsUnderWay old l.rules l.ranks.items l.order.items }
