-- Nodes that are numbered when they are first met, one node's children after another's.
use Rattle.std.specs.Prelude.{◌≡◌, ℕ, suc, ◌<◌, ◌⊎◌, List, [], ◌∷◌}
use Rattle.ct_values.specs.declared.node.Node.{Node}
use Rattle.ct_values.specs.Minimal.{child_numbers}

-- each of these numbers in turn is below the count of numbers met before it, or is that count and so the next; and how many are met in the end
abbrev pub CountsUp : ℕ → List ℕ → ℕ → Type 0
CountsUp met [] all = met ≡ all
CountsUp met (n ∷ ns) all = ((n < met) × CountsUp met ns all) ⊎ ((n ≡ met) × CountsUp (suc met) ns all)

-- the same of the children of these nodes, which are numbered from the index on, and each of which was met before
abbrev pub IsInOrder : ℕ → ℕ → List Node → ℕ → Type 0
IsInOrder met index [] all = met ≡ all
IsInOrder met index (node ∷ nodes) all = (index < met) × ((mid : ℕ) × CountsUp met (child_numbers node) mid × IsInOrder mid (suc index) nodes all)
