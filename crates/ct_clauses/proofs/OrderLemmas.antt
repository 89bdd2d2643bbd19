-- Lists in which no element stands twice.
use Rattle.std.proofs.Common.{◌≡◌, ℕ, zero, suc, ◌+◌, ◌<◌, ◌≤◌, ◌⊎◌, inl, inr, Bool, true, false, cond, List, [], ◌∷◌, ◌++◌, map, filter, Contains, slice_get, Some, refl, sym, ap, subst, ◌∙◌, arith}
use Rattle.std.specs.List.{range_with_len}
use Rattle.std.proofs.lemmas.List.Elements.{Contains-append_cases, All-contains, All-contains_itself, All-filter, filter_passes}
use Rattle.std.proofs.lemmas.Option.{none-some, same_Some}
use Rattle.ct_lemmas.proofs.Contained.{Contains-cons, Contains-first, Contains-from_slice_get, Contains-map_cases, Contains-none, Contains-rest, slice_get-from_Contains}
use Rattle.ct_terms.specs.declared.ids.TermId.{TermId}
use Rattle.ct_closure.specs.ClosedTable.{AreRising}

-- each element stands once
abbrev pub Once : {X : Type 0} → List X → Type 0
Once [] = Unit {0}
Once (x ∷ xs) = (Contains xs x → ⊥) × Once xs

module _ {X : Type 0} where
  -- of two lists that share nothing
  pub once_append : (xs ys : List X) → Once xs → Once ys → ((x : X) → Contains xs x → Contains ys x → ⊥) → Once (xs ++ ys)
  once_append [] ys a b apart = b
  once_append (x ∷ xs) ys a b apart = (
    λ h. elim (Contains-append_cases xs ys x h) [ inl k ↦ a.0 k | inr k ↦ apart x (Contains-first x xs) k ],
    once_append xs ys a.1 b (λ y h k. apart y (Contains-rest x xs y h) k),
  )

  -- so an element stands at one index
  pub once_at : (xs : List X) → Once xs → (i j : ℕ) (x : X) → slice_get xs i ≡ Some x → slice_get xs j ≡ Some x → i ≡ j
  once_at [] h i j x a b = absurd (none-some x a)
  once_at (y ∷ xs) h zero zero x a b = refl
  once_at (y ∷ xs) h zero (suc j) x a b = absurd (h.0 (subst (Contains xs) (sym (same_Some y x a)) (Contains-from_slice_get xs j x b)))
  once_at (y ∷ xs) h (suc i) zero x a b = absurd (h.0 (subst (Contains xs) (sym (same_Some y x b)) (Contains-from_slice_get xs i x a)))
  once_at (y ∷ xs) h (suc i) (suc j) x a b = ap suc (once_at xs h.1 i j x a b)

  -- what a filter passes
  pub Contains-from_filter : (p : X → Bool) (xs : List X) (x : X) → Contains (filter p xs) x → Contains xs x × (p x ≡ true)
  Contains-from_filter p xs x h = (
    All-contains (Contains xs) (filter p xs) x (All-filter p (Contains xs) xs (All-contains_itself xs)) h,
    All-contains (λ (y : X). p y ≡ true) (filter p xs) x (filter_passes p xs) h,
  )

  pub Contains-filter : (p : X → Bool) (xs : List X) (x : X) → Contains xs x → p x ≡ true → Contains (filter p xs) x
  Contains-filter p [] x h passes = absurd (Contains-none x h)
  Contains-filter p (y ∷ ys) x h passes = by (p y) refl (Contains-cons y ys x h) (λ rest. Contains-filter p ys x rest passes)
    where
      by : (b : Bool) → p y ≡ b → (y ≡ x) ⊎ Contains ys x → (Contains ys x → Contains (filter p ys) x) → Contains (cond b (y ∷ filter p ys) (filter p ys)) x
      by true e (inl same) later = subst (Contains (y ∷ filter p ys)) same (Contains-first y (filter p ys))
      by true e (inr rest) later = Contains-rest y (filter p ys) x (later rest)
      by false e (inl same) later = absurd (true_false (sym passes ∙ ap p (sym same) ∙ e))
        where
          true_false : true ≡ false → ⊥
          true_false e = cc
      by false e (inr rest) later = later rest

  pub once_filter : (p : X → Bool) (xs : List X) → Once xs → Once (filter p xs)
  once_filter p [] h = tt
  once_filter p (y ∷ ys) h = by (p y) (once_filter p ys h.1)
    where
      by : (b : Bool) → Once (filter p ys) → Once (cond b (y ∷ filter p ys) (filter p ys))
      by true later = (λ k. h.0 (Contains-from_filter p ys y k).0, later)
      by false later = later

-- numbers that rise from each to the next
abbrev pub Rising : List ℕ → Type 0
Rising [] = Unit {0}
Rising (n ∷ []) = Unit {0}
Rising (n ∷ (m ∷ ns)) = (n < m) × Rising (m ∷ ns)

-- elements whose codes rise
module _ {X : Type 0} (code : X → ℕ) where
  above : (x : X) (xs : List X) → Rising (code x ∷ map code xs) → (y : X) → Contains xs y → code x < code y
  above x [] r y h = absurd (Contains-none y h)
  above x (z ∷ zs) r y h =
      elim (Contains-cons z zs y h) [
        | inl e ↦ subst (λ (w : X). code x < code w) e r.0
        | inr k ↦ let l = above z zs r.1 y k in let m = r.0 in omega (arith, l, m)
      ]

  rest : (x : X) (xs : List X) → Rising (code x ∷ map code xs) → Rising (map code xs)
  rest x [] r = tt
  rest x (z ∷ zs) r = r.1

  pub once_codes : (xs : List X) → Rising (map code xs) → Once xs
  once_codes [] r = tt
  once_codes (x ∷ xs) r = (λ h. let l = above x xs r x h in absurd (omega (arith, l)), once_codes xs (rest x xs r))

-- the images of different elements
pub once_map : {X Y : Type 0} (f : X → Y) → ((x y : X) → f x ≡ f y → x ≡ y) → (xs : List X) → Once xs → Once (map f xs)
once_map f one [] h = tt
once_map f one (x ∷ xs) h = (
  λ k. let from = Contains-map_cases f xs (f x) k in h.0 (subst (Contains xs) (one from.0 x from.2) from.1),
  once_map f one xs h.1,
)

-- terms whose numbers rise
pub once_rising : (ts : List TermId) → AreRising ts → Once ts
once_rising [] r = tt
once_rising (t ∷ ts) r = (
  λ h. let at = slice_get-from_Contains ts t h in let less : t.0 < t.0 = r 0 (suc at.0) t t (omega arith) refl at.1 in absurd (omega (arith, less)),
  once_rising ts (λ i j u v less a b. r (suc i) (suc j) u v (omega (arith, less)) a b),
)

-- numbers in a row
pub range_from : (a n k : ℕ) → Contains (range_with_len a n) k → a ≤ k
range_from a zero k h = absurd (Contains-none k h)
range_from a (suc n) k h =
    elim (Contains-cons a (range_with_len (a + 1) n) k h) [
      | inl e ↦ omega (arith, e)
      | inr rest ↦ let low = range_from (a + 1) n k rest in omega (arith, low)
    ]

first_or_later : (a k : ℕ) → a ≤ k → (a ≡ k) ⊎ (a + 1 ≤ k)
first_or_later zero zero h = inl refl
first_or_later zero (suc k) h = inr (omega arith)
first_or_later (suc a) zero h = absurd (omega (arith, h))
first_or_later (suc a) (suc k) h = elim (first_or_later a k (omega (arith, h))) [ inl e ↦ inl (ap suc e) | inr l ↦ inr (omega (arith, l)) ]

pub range_has : (a n k : ℕ) → a ≤ k → k < a + n → Contains (range_with_len a n) k
range_has a zero k low high = absurd (omega (arith, low, high))
range_has a (suc n) k low high =
    elim (first_or_later a k low) [
      | inl e ↦ subst (Contains (a ∷ range_with_len (a + 1) n)) e (Contains-first a (range_with_len (a + 1) n))
      | inr later ↦ Contains-rest a (range_with_len (a + 1) n) k (range_has (a + 1) n k later (omega (arith, high)))
    ]

pub once_range : (a n : ℕ) → Once (range_with_len a n)
once_range a zero = tt
once_range a (suc n) = (λ h. let low = range_from (a + 1) n a h in absurd (omega (arith, low)), once_range (a + 1) n)
