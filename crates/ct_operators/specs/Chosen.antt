-- Choices between several trees, each after its condition.
use Rattle.std.specs.Prelude.{◌<◌, List, [], ◌∷◌, length}
use Rattle.ct_terms.specs.declared.ids.TermId.{TermId}
use Rattle.ct_terms.specs.Terms.{Terms}
use Rattle.ct_terms.specs.CoreTree.{CoreTree, choice}
use Rattle.ct_operators.specs.declared.choosing.Guarded.{Guarded}

-- the first of the trees whose condition holds, else the last one
abbrev pub chosen_from : (TermId → CoreTree) → List Guarded → CoreTree → CoreTree
chosen_from f [] v = v
chosen_from f (g ∷ gs) v = choice (f g.condition) (f g.body) (chosen_from f gs v)

-- both terms are in the table
abbrev pub IsGuardedIn : Terms → Guarded → Type 0
IsGuardedIn table g = (g.condition.0 < length table) × (g.body.0 < length table)
