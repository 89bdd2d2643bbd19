-- The lists that give points: where the children of a point begin and end, and that they are points.
use Rattle.std.proofs.Common.{ℕ, ◌+◌, ◌-◌, ◌<◌, ◌≤◌, List, length, drop, slice_index, arith}
use Rattle.std.proofs.lemmas.List.Elements.{All-take, All-drop}
use Rattle.ct_lemmas.proofs.Slices.{rises}
use Rattle.ct_partition.specs.Points.{points, ArePoints}
use Rattle.ct_partition.proofs.AgreeLemmas.{IsClosed}

-- no start is past the end of the children
pub starts_within : (labels starts children : List ℕ) → ArePoints labels starts children → (i : ℕ) → i ≤ length labels → slice_index starts i ≤ length children
starts_within labels starts children formed i within =
    let high = rises starts (length labels) formed.rising (length labels - i) i (omega arith) in
    omega (arith, formed.last)

-- the children of a point are points
pub closed : (labels starts children : List ℕ) → ArePoints labels starts children → IsClosed (points labels starts children)
closed labels starts children formed i within =
    All-take (λ child. child < length labels) (slice_index starts (i + 1) - slice_index starts i) (drop (slice_index starts i) children)
    (All-drop (λ child. child < length labels) (slice_index starts i) children formed.within)
