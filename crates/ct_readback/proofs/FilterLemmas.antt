-- What is left of an order where points are left out.
use Rattle.std.proofs.Common.{◌≡◌, ℕ, zero, suc, ◌<◌, Bool, true, false, cond, List, [], ◌∷◌, Some, slice_get, refl, sym, ap, ◌∙◌, arith}
use Rattle.std.specs.List.{filter}
use Rattle.std.proofs.lemmas.Option.{none-some, same_Some}

module _ {X : Type 0} (P : X → Bool) where
  -- what is left stood in the list, and passes
  pub filter_from : (xs : List X) (i : ℕ) (x : X) → slice_get (filter P xs) i ≡ Some x → (k : ℕ) × (slice_get xs k ≡ Some x) × (P x ≡ true)
  filter_from [] i x at = absurd (none-some x at)
  filter_from (z ∷ zs) i x at = by (λ j here. filter_from zs j x here) (P z) refl i at
    where
      by : ((j : ℕ) → slice_get (filter P zs) j ≡ Some x → (k : ℕ) × (slice_get zs k ≡ Some x) × (P x ≡ true)) → (b : Bool) → P z ≡ b → (i : ℕ)
          → slice_get (cond b (z ∷ filter P zs) (filter P zs)) i ≡ Some x → (k : ℕ) × (slice_get (z ∷ zs) k ≡ Some x) × (P x ≡ true)
      by rest true is zero here = (0, here, ap P (sym (same_Some z x here)) ∙ is)
      by rest true is (suc j) here = let found = rest j here in (suc found.0, found.1, found.2)
      by rest false is j here = let found = rest j here in (suc found.0, found.1, found.2)

  -- what passes is left
  pub filter_to : (xs : List X) (k : ℕ) (x : X) → slice_get xs k ≡ Some x → P x ≡ true → (i : ℕ) × (slice_get (filter P xs) i ≡ Some x)
  filter_to [] k x at passes = absurd (none-some x at)
  filter_to (z ∷ zs) zero x at passes = (0, ap (λ b. slice_get (cond b (z ∷ filter P zs) (filter P zs)) 0) (ap P (same_Some z x at) ∙ passes) ∙ at)
  filter_to (z ∷ zs) (suc k) x at passes = by (P z) (filter_to zs k x at passes)
    where
      by : (b : Bool) → (i : ℕ) × (slice_get (filter P zs) i ≡ Some x) → (i : ℕ) × (slice_get (cond b (z ∷ filter P zs) (filter P zs)) i ≡ Some x)
      by true found = (suc found.0, found.1)
      by false found = found

  -- and its order stays
  pub filter_rising : (xs : List X) (i j : ℕ) (x y : X) → i < j → slice_get (filter P xs) i ≡ Some x → slice_get (filter P xs) j ≡ Some y
      → (k : ℕ) × (l : ℕ) × (slice_get xs k ≡ Some x) × (slice_get xs l ≡ Some y) × (k < l)
  filter_rising [] i j x y less at_x at_y = absurd (none-some x at_x)
  filter_rising (z ∷ zs) i j x y less at_x at_y = by (λ m n before here there. filter_rising zs m n x y before here there) (P z) i j less at_x at_y
    where
      by : ((m n : ℕ) → m < n → slice_get (filter P zs) m ≡ Some x → slice_get (filter P zs) n ≡ Some y → (k : ℕ) × (l : ℕ) × (slice_get zs k ≡ Some x) × (slice_get zs l ≡ Some y) × (k < l)) → (b : Bool) (i j : ℕ) → i < j
          → slice_get (cond b (z ∷ filter P zs) (filter P zs)) i ≡ Some x → slice_get (cond b (z ∷ filter P zs) (filter P zs)) j ≡ Some y → (k : ℕ) × (l : ℕ) × (slice_get (z ∷ zs) k ≡ Some x) × (slice_get (z ∷ zs) l ≡ Some y) × (k < l)
      by rest true i zero before here there = absurd (omega (arith, before))
      by rest true zero (suc j) before here there = let found = filter_from zs j y there in (0, suc found.0, here, found.1, omega arith)
      by rest true (suc i) (suc j) before here there =
          let found = rest i j (omega (arith, before)) here there in
          let later = found.4 in
          (suc found.0, suc found.1, found.2, found.3, omega (arith, later))
      by rest false i j before here there =
          let found = rest i j before here there in
          let later = found.4 in
          (suc found.0, suc found.1, found.2, found.3, omega (arith, later))
