-- Lists by their indices.
use Rattle.std.proofs.Common.{◌≡◌, ℕ, zero, suc, ◌+◌, ◌<◌, ◌⊎◌, inl, inr, List, [], ◌∷◌, ◌++◌, length, drop, get_or, replicate, Some, slice_get, refl, sym, subst, ◌∙◌, arith}
use Rattle.std.specs.List.{Contains}
use Rattle.std.proofs.lemmas.Option.{none-some, same_Some, slice_get-get_or, slice_get_within}
use Rattle.ct_lemmas.proofs.Contained.{Contains-from_slice_get, slice_get-from_Contains}
use Rattle.ct_lemmas.proofs.Lists.{slice_get-append_left, slice_get-last, slice_get-push_cases}
use Rattle.ct_lemmas.proofs.Numbers.{same_or_other}

module _ {X : Type 0} where
  -- what stands in the first part stands there
  pub Contains-append_left : (xs ys : List X) (x : X) → Contains xs x → Contains (xs ++ ys) x
  Contains-append_left xs ys x h =
      let at = slice_get-from_Contains xs x h in
      Contains-from_slice_get (xs ++ ys) at.0 x (slice_get-append_left xs ys at.0 x at.1)

  pub Contains-last : (xs : List X) (x : X) → Contains (xs ++ x ∷ []) x
  Contains-last xs x = Contains-from_slice_get (xs ++ x ∷ []) (length xs) x (slice_get-last xs x)

  -- with one more at the end, what is in the list was, or is the new one
  pub Contains-push_cases : (xs : List X) (x y : X) → Contains (xs ++ x ∷ []) y → Contains xs y ⊎ (x ≡ y)
  Contains-push_cases xs x y h =
      let at = slice_get-from_Contains (xs ++ x ∷ []) y h in
      elim (slice_get-push_cases xs x y at.0 at.1) [ inl e ↦ inl (Contains-from_slice_get xs at.0 y e) | inr e ↦ inr e.1 ]

  pub drop_past : (xs : List X) (i : ℕ) → (i < length xs → ⊥) → drop i xs ≡ []
  drop_past [] zero h = refl
  drop_past [] (suc i) h = refl
  drop_past (x ∷ xs) zero h = absurd (h (omega arith))
  drop_past (x ∷ xs) (suc i) h = drop_past xs i (λ e. h (omega (arith, e)))

-- what stands in a list of one element many times
pub slice_get-replicate : {X : Type 0} (n k : ℕ) (x y : X) → slice_get (replicate n x) k ≡ Some y → x ≡ y
slice_get-replicate zero k x y at = absurd (none-some y at)
slice_get-replicate (suc n) zero x y at = same_Some x y at
slice_get-replicate (suc n) (suc k) x y at = slice_get-replicate n k x y at

-- an element that was not found below an index, nor at it
pub not_found-next : {X : Type 0} (xs : List X) (k : ℕ) (x d : X) → k < length xs → (get_or xs k d ≡ x → ⊥)
    → ((i : ℕ) → i < k → slice_get xs i ≡ Some x → ⊥) → (i : ℕ) → i < k + 1 → slice_get xs i ≡ Some x → ⊥
not_found-next xs k x d within other before i below at =
    elim (same_or_other i k) [
      | inl same ↦ other (same_Some (get_or xs k d) x (sym (slice_get-get_or xs k d within) ∙ subst (λ (n : ℕ). slice_get xs n ≡ Some x) same at))
      | inr apart ↦ before i (omega (arith, below, apart)) at
    ]

-- one that was found at no index is not there
pub not_found : {X : Type 0} (xs : List X) (k : ℕ) (x : X) → (k < length xs → ⊥) → ((i : ℕ) → i < k → slice_get xs i ≡ Some x → ⊥) → Contains xs x → ⊥
not_found xs k x past before h =
    let at = slice_get-from_Contains xs x h in
    let within = slice_get_within xs at.0 x at.1 in
    before at.0 (omega (arith, past, within)) at.1
