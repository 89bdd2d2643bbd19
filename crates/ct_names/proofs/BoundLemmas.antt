-- Variables in the order in which they were bound.
use Rattle.std.proofs.Common.{◌≡◌, List, [], ◌∷◌, ◌++◌, refl}
use Rattle.ct_formulas.specs.Formula.{bind}

-- binding some and then others is binding all of them in order
pub bind-append : {X : Type 0} (xs ys env : List X) → bind (xs ++ ys) env ≡ bind ys (bind xs env)
bind-append [] ys env = refl
bind-append (x ∷ xs) ys env = bind-append xs ys (x ∷ env)
