-- What holds of a test and after it.
use Rattle.std.proofs.Common.{◌≡◌, Bool, true, false, cond, refl}

-- a test has what holds of each outcome, where it comes
pub by_test : {A : Type 0} (P : A → Type 0) (p : Bool) (x y : A) → (p ≡ true → P x) → (p ≡ false → P y) → P (cond p x y)
by_test P true x y f g = f refl
by_test P false x y f g = g refl

-- and what holds of both
pub either_has : {A : Type 0} (P : A → Type 0) (p : Bool) (x y : A) → P x → P y → P (cond p x y)
either_has P p x y f g = by_test P p x y (λ e. f) (λ e. g)
