use Rattle.std.proofs.Common.{◌≡◌, ◌≤◌, ◌-◌, ℕ, length, get_or}
use Rattle.ct_card.proofs.chain.push_zeros.Given as goal

abbrev pub invariant-loop-ranks : goal.invariant-loop-ranks
invariant-loop-ranks l = record { few : length l.ranks.items ≤ l.count; same : (n : ℕ) → get_or l.ranks.items n 0 ≡ get_or l.fn.ranks.items n 0 }

abbrev pub decreases-loop-ranks : goal.decreases-loop-ranks
decreases-loop-ranks l = l.count - length l.ranks.items
