-- Lists by their indices.
use Rattle.std.proofs.Common.{◌≡◌, ℕ, suc, ◌⊎◌, List, [], ◌∷◌, slice_get, Result, Ok, Err, OnErr, refl, sym, ap, ap₂, inl, inr}
use Rattle.std.proofs.lemmas.Option.{none-some, same_Some}
use Rattle.ct_lemmas.proofs.Numbers.{same_or_other}
use Rattle.ct_terms.specs.declared.ids.TermId.{TermId}

module _ {X : Type 0} where
  -- lists with the same at each index are one
  pub same_by_index : (xs ys : List X) → ((k : ℕ) → slice_get xs k ≡ slice_get ys k) → xs ≡ ys
  same_by_index [] [] h = refl
  same_by_index [] (y ∷ ys) h = absurd (none-some y (h 0))
  same_by_index (x ∷ xs) [] h = absurd (none-some x (sym (h 0)))
  same_by_index (x ∷ xs) (y ∷ ys) h =
      let rest = same_by_index xs ys (λ k. h (suc k)) in
      ap₂ (λ (z : X) (zs : List X). z ∷ zs) (same_Some x y (h 0)) rest

-- two terms are one or not
pub term_cases : (x y : TermId) → (x ≡ y) ⊎ (x ≡ y → ⊥)
term_cases x y = elim (same_or_other x.0 y.0) [
  | inl e ↦ inl (λ i. record { 0 = e i })
  | inr other ↦ inr (λ e. other (ap (λ t. t.0) e))
]

-- different terms have different numbers
pub other_number : (x y : TermId) → (x ≡ y → ⊥) → x.0 ≡ y.0 → ⊥
other_number x y other e = other (λ i. record { 0 = e i })

-- what is said of an error
pub on_err : {T E P : Type 0} (r : Result T E) → P → OnErr r P
on_err (Ok x) p = tt
on_err (Err e) p = p
