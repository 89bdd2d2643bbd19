-- What holds of the element at each index below a bound.
use Rattle.std.proofs.Common.{◌≡◌, ℕ, ◌+◌, ◌<◌, ◌≤◌, inl, inr, List, length, Some, slice_get, get_or, sym, ap, subst, ◌∙◌, arith}
use Rattle.std.proofs.lemmas.Option.{slice_get_within, get_or_from_slice_get}
use Rattle.ct_lemmas.proofs.Numbers.{last_or_before}

-- what holds of the element at each index below a bound
module _ {X : Type 0} (P : ℕ → X → Type 0) (xs : List X) where
  abbrev pub EachBelow : ℕ → Type 0
  EachBelow bound = (k : ℕ) (x : X) → k < bound → slice_get xs k ≡ Some x → P k x

  -- and of the element at the bound
  pub EachBelow-more : (bound : ℕ) → EachBelow bound → ((x : X) → slice_get xs bound ≡ Some x → P bound x) → EachBelow (bound + 1)
  EachBelow-more bound before last k x below at =
      elim (last_or_before k bound below) [
        | inl h ↦ before k x h at
        | inr h ↦ subst (λ (n : ℕ). P n x) (sym h) (last x (ap (slice_get xs) (sym h) ∙ at))
      ]

  -- holds of the element at each index
  pub EachBelow-all : (bound : ℕ) → length xs ≤ bound → EachBelow bound → (k : ℕ) (x : X) → slice_get xs k ≡ Some x → P k x
  EachBelow-all bound long each k x at = let within = slice_get_within xs k x at in each k x (omega arith) at

  -- the same of what an index reads at the bound, of the list by another name
  pub EachBelow-read : (ys : List X) (bound : ℕ) (x : X) → ys ≡ xs → x ≡ get_or ys bound x → EachBelow bound → P bound x → EachBelow (bound + 1)
  EachBelow-read ys bound x same read before last =
      let here : x ≡ get_or xs bound x = read ∙ ap (λ (zs : List X). get_or zs bound x) same in
      EachBelow-more bound before (λ y at. subst (P bound) (here ∙ get_or_from_slice_get xs bound y x at) last)
