-- What a term means where no sort is added.
use Rattle.std.proofs.Common.{◌≡◌, ℕ, Ok, Err, ap}
use Rattle.ct_names.specs.Outcome.{Elaborated, refused, missing}
use Rattle.ct_names.specs.Needs.{ends_with}

-- what ends with a value is there
pub there : {X : Type 0} (number : ℕ) (o : Elaborated X) (x : X) → ends_with number o ≡ Ok x → o ≡ Ok x
there number (Ok y) x e = let same : y ≡ x = cc in ap (λ z. Ok z) same
there number (Err (refused n)) x e = absurd cc
there number (Err (missing m)) x e = absurd cc
