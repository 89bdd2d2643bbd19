use Rattle.std.proofs.Common.{◌≡◌, length}
use Rattle.ct_card.specs.Derived.{IsUnderWay, missing_ranks}
use Rattle.ct_card.proofs.chain.derive.Given as goal

abbrev pub invariant-loop : goal.invariant-loop
invariant-loop l = record { long : length l.ranks.items ≡ l.count; under_way : IsUnderWay l.fn.ranks.items l.rules l.ranks.items l.order.items }

abbrev pub decreases-loop : goal.decreases-loop
decreases-loop l = missing_ranks l.ranks.items
