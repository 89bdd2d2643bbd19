-- A slice that is gone over from its first element on.
use Rattle.std.proofs.Common.{◌≡◌, List, [], ◌∷◌, length, get_or, refl, arith}

-- two elements
pub pair_step : {X : Type 0} (xs : List X) (x y : X) → length xs ≡ 2 → xs ≡ get_or xs 0 x ∷ (get_or xs 1 y ∷ [])
pair_step [] x y e = absurd (omega (arith, e))
pair_step (a ∷ []) x y e = absurd (omega (arith, e))
pair_step (a ∷ (b ∷ [])) x y e = refl
pair_step (a ∷ (b ∷ (c ∷ zs))) x y e = absurd (omega (arith, e))
