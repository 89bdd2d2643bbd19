-- A row by its number.
use Rattle.std.proofs.Common.{◌≡◌, ℕ, zero, suc, ◌<◌, ◌≤◌, List, [], ◌∷◌, length, get_or, None, Some, refl, sym, ap, arith}
use Rattle.ct_sexpr.specs.declared.sexpr.Sexpr.{Sexpr}
use Rattle.ct_sexpr.specs.View.{expression_of, expressions_of}
use Rattle.ct_readback.specs.Parts.{nth}

-- what stands there
pub nth_at : (rows : List Sexpr) (i : ℕ) (x : Sexpr) → i < length rows → x ≡ get_or rows i x → nth (expressions_of rows) i ≡ Some (expression_of x)
nth_at [] i x within is = absurd (omega (arith, within))
nth_at (y ∷ ys) zero x within is = ap (λ (z : Sexpr). Some (expression_of z)) (sym is)
nth_at (y ∷ ys) (suc i) x within is = nth_at ys i x (omega (arith, within)) is

-- nothing stands past the end
pub nth_past : (rows : List Sexpr) (i : ℕ) → length rows ≤ i → nth (expressions_of rows) i ≡ None
nth_past [] i past = refl
nth_past (y ∷ ys) zero past = absurd (omega (arith, past))
nth_past (y ∷ ys) (suc i) past = nth_past ys i (omega (arith, past))
