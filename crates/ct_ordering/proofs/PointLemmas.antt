-- The lists that give a graph: where the kids of a point begin and end, and that they are points.
use Rattle.std.proofs.Common.{ℕ, ◌+◌, ◌-◌, ◌<◌, ◌≤◌, List, length, drop, slice_index, All, subst, arith}
use Rattle.std.proofs.lemmas.List.{length-take, length-drop}
use Rattle.std.proofs.lemmas.List.Elements.{All-take, All-drop}
use Rattle.std.proofs.lemmas.Option.{slice_get_within, get_or_from_slice_get}
use Rattle.ct_lemmas.proofs.Slices.{rises}
use Rattle.ct_ordering.specs.Graph.{graph, ArePoints, HasKid}

-- no start is past the end of the kids
pub starts_within : (starts kids : List ℕ) → ArePoints starts kids → (i : ℕ) → i < length starts → slice_index starts i ≤ length kids
starts_within starts kids formed i within =
    let high = rises starts (length starts - 1) formed.rising (length starts - 1 - i) i (omega arith) in
    omega (arith, formed.last)

-- the kids of a point are points
pub kid_within : (starts kids : List ℕ) → ArePoints starts kids → (point place kid : ℕ) → HasKid (graph starts kids) point place kid → kid < length starts - 1
kid_within starts kids formed point place kid has =
    let these = (graph starts kids).kids point in
    let all : All (λ k. k < length starts - 1) these =
    All-take (λ k. k < length starts - 1) (slice_index starts (point + 1) - slice_index starts point) (drop (slice_index starts point) kids)
    (All-drop (λ k. k < length starts - 1) (slice_index starts point) kids formed.within) in
    subst (λ k. k < length starts - 1) (get_or_from_slice_get these place kid kid has) (all place kid (slice_get_within these place kid has))

-- there are fewer places than kids in all
pub place_within : (starts kids : List ℕ) (point place kid : ℕ) → HasKid (graph starts kids) point place kid → place < length kids
place_within starts kids point place kid has =
    let start = slice_index starts point in
    let these = (graph starts kids).kids point in
    let within = slice_get_within these place kid has in
    let all = length-take (slice_index starts (point + 1) - start) (drop start kids) in
    let rest = length-drop start kids in
    omega (arith, within, all, rest)
