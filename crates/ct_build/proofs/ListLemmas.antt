-- Elements of lists by their indices.
use Rattle.std.proofs.Common.{◌≡◌, ℕ, zero, suc, ◌+◌, ◌⊎◌, List, [], ◌∷◌, ◌++◌, length, map, set, slice_get, Some, append_assoc, refl, sym, ◌∙◌, ap, inl, inr, arith}
use Rattle.std.proofs.lemmas.Option.{none-some, same_Some}
use Rattle.std.specs.List.{AllZip}
use Rattle.ct_sorts.specs.Grown.{Begins}

-- what stands in a list with one more at its end
pub pushed_at : {X : Type 0} (xs : List X) (x y : X) (k : ℕ) → slice_get (xs ++ x ∷ []) k ≡ Some y → (slice_get xs k ≡ Some y) ⊎ ((k ≡ length xs) × (y ≡ x))
pushed_at [] x y zero at = inr (refl, sym (same_Some _ _ at))
pushed_at [] x y (suc k) at = absurd (none-some _ at)
pushed_at (z ∷ xs) x y zero at = inl at
pushed_at (z ∷ xs) x y (suc k) at =
    elim (pushed_at xs x y k at) [ inl h ↦ inl h | inr (e, same) ↦ inr (ap suc e, same) ]

pub length-push : {X : Type 0} (xs : List X) (x : X) → length (xs ++ x ∷ []) ≡ length xs + 1
length-push [] x = refl
length-push (z ∷ xs) x = let h = length-push xs x in omega (arith, h)

pub set_twice : {X : Type 0} (xs : List X) (i : ℕ) (x y : X) → set (set xs i x) i y ≡ set xs i y
set_twice [] i x y = refl
set_twice (z ∷ xs) zero x y = refl
set_twice (z ∷ xs) (suc i) x y = ap (λ l. z ∷ l) (set_twice xs i x y)

pub set_length : {X : Type 0} (xs : List X) (i : ℕ) (x : X) → length (set xs i x) ≡ length xs
set_length [] i x = refl
set_length (y ∷ ys) zero x = refl
set_length (y ∷ ys) (suc i) x = ap suc (set_length ys i x)

-- what stands where one element is written is that, at its index, or stood there
pub set_at : {X : Type 0} (xs : List X) (i k : ℕ) (x y : X) → slice_get (set xs i x) k ≡ Some y → ((k ≡ i) × (x ≡ y)) ⊎ ((k ≡ i → ⊥) × (slice_get xs k ≡ Some y))
set_at [] i k x y at = absurd (none-some _ at)
set_at (z ∷ xs) zero zero x y at = inl (refl, same_Some _ _ at)
set_at (z ∷ xs) zero (suc k) x y at = inr (λ e. absurd (omega (arith, e)), at)
set_at (z ∷ xs) (suc i) zero x y at = inr (λ e. absurd (omega (arith, e)), at)
set_at (z ∷ xs) (suc i) (suc k) x y at =
    elim (set_at xs i k x y at) [
      | inl (e, same) ↦ inl (ap suc e, same)
      | inr (other, h) ↦ inr (λ e. other (omega (arith, e)), h)
    ]

-- what begins with a list that begins with another begins with that
pub begins_further : {X : Type 0} (first second third : List X) → Begins first second → Begins second third → Begins first third
begins_further first second third (more, is) (further, is_too) =
    (more ++ further, is_too ∙ ap (λ l. l ++ further) is ∙ append_assoc first more further)

pub begins_itself : {X : Type 0} (list : List X) → Begins list list
begins_itself [] = ([], refl)
begins_itself (x ∷ xs) = let h = begins_itself xs in (h.0, ap (λ l. x ∷ l) h.1)

-- lists side by side, where the first is one of images
pub AllZip-map : {X Y Z : Type 0} (P : X → Z → Type 0) (Q : Y → Z → Type 0) (f : X → Y) (xs : List X) (zs : List Z) → ((x : X) (z : Z) → P x z → Q (f x) z) → AllZip P xs zs → AllZip Q (map f xs) zs
AllZip-map P Q f [] [] step all = tt
AllZip-map P Q f [] (z ∷ zs) step all = absurd all
AllZip-map P Q f (x ∷ xs) [] step all = absurd all
AllZip-map P Q f (x ∷ xs) (z ∷ zs) step all = (step x z all.0, AllZip-map P Q f xs zs step all.1)
