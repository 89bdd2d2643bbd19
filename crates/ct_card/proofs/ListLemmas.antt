-- Elements of lists by their indices.
use Rattle.std.proofs.Common.{◌≡◌, ℕ, zero, suc, ◌⊎◌, List, [], ◌∷◌, ◌++◌, length, slice_get, Some, append_assoc, refl, sym, ◌∙◌, ap, inl, inr, arith}
use Rattle.std.specs.List.{flat_map}
use Rattle.ct_lemmas.proofs.Lists.{slice_get-append_either}
use Rattle.ct_sorts.specs.Grown.{Begins}
use Rattle.std.proofs.lemmas.Option.{none-some, same_Some}

-- what stands in a list with one more at its end
pub pushed_at : {X : Type 0} (xs : List X) (x y : X) (k : ℕ) → slice_get (xs ++ x ∷ []) k ≡ Some y → (slice_get xs k ≡ Some y) ⊎ ((k ≡ length xs) × (y ≡ x))
pushed_at [] x y zero at = inr (refl, sym (same_Some _ _ at))
pushed_at [] x y (suc k) at = absurd (none-some _ at)
pushed_at (z ∷ xs) x y zero at = inl at
pushed_at (z ∷ xs) x y (suc k) at =
    elim (pushed_at xs x y k at) [ inl h ↦ inl h | inr (e, same) ↦ inr (omega arith, same) ]

pub none_at : {X : Type 0} (k : ℕ) (x : X) → slice_get [] k ≡ Some x → ⊥
none_at k x at = none-some _ at

pub append_right : {X : Type 0} (xs ys : List X) (k : ℕ) (x : X) → slice_get ys k ≡ Some x → (j : ℕ) × (slice_get (xs ++ ys) j ≡ Some x)
append_right [] ys k x at = (k, at)
append_right (z ∷ xs) ys k x at = let h = append_right xs ys k x at in (suc h.0, h.1)

pub flat_source : {X Y : Type 0} (f : X → List Y) (xs : List X) (k : ℕ) (y : Y) → slice_get (flat_map f xs) k ≡ Some y → (i : ℕ) × (x : X) × (j : ℕ) × (slice_get xs i ≡ Some x) × (slice_get (f x) j ≡ Some y)
flat_source f [] k y at = absurd (none-some _ at)
flat_source f (x ∷ xs) k y at =
    elim (slice_get-append_either (f x) (flat_map f xs) k y at) [
      | inl h ↦ (0, x, k, refl, h)
      | inr (j, h) ↦ let r = flat_source f xs j y h in (suc r.0, r.1, r.2, r.3, r.4)
    ]

-- what begins with a list that begins with another begins with that
pub begins_further : {X : Type 0} (first second third : List X) → Begins first second → Begins second third → Begins first third
begins_further first second third (more, is) (further, is_too) =
    (more ++ further, is_too ∙ ap (λ l. l ++ further) is ∙ append_assoc first more further)

pub begins_pushed : {X : Type 0} (first second : List X) (x : X) → Begins first second → Begins first (second ++ x ∷ [])
begins_pushed first second x begins = begins_further first second (second ++ x ∷ []) begins (x ∷ [], refl)
