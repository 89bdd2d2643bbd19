-- The first index at which a test passes.
use Rattle.std.proofs.Common.{◌≡◌, ℕ, zero, suc, ◌+◌, Bool, true, false, cond, List, [], ◌∷◌, ◌++◌, slice_get, Some, position, refl, sym, ◌∙◌, ap, subst, arith}
use Rattle.std.specs.List.{position_from}
use Rattle.std.proofs.lemmas.Iterator.Adapters.{position_from-zero}
use Rattle.std.proofs.lemmas.Option.{none-some, same_Some}
use Rattle.ct_generics.specs.Expression.{Expression}
use Rattle.ct_generics.specs.Reach.{AreDifferent}
use Rattle.ct_sorts.specs.Same.{is_same, number_among}
use Rattle.ct_sorts.proofs.SameLemmas.{is_same-decides, number_at}

module _ {X : Type 0} (test : X → Bool) where
  -- what is found passes the test
  passes_from : (xs : List X) (i n : ℕ) → position_from test i xs ≡ Some n → (k : ℕ) × (x : X) × (n ≡ i + k) × (slice_get xs k ≡ Some x) × (test x ≡ true)
  passes_from [] i n e = absurd (none-some n e)
  passes_from (x ∷ xs) i n e = by (test x) refl e (λ f. passes_from xs (i + 1) n f)
    where
      by : (b : Bool) → test x ≡ b → cond b (Some i) (position_from test (i + 1) xs) ≡ Some n → (position_from test (i + 1) xs ≡ Some n → (k : ℕ) × (y : X) × (n ≡ i + 1 + k) × (slice_get xs k ≡ Some y) × (test y ≡ true)) → (k : ℕ) × (y : X) × (n ≡ i + k) × (slice_get (x ∷ xs) k ≡ Some y) × (test y ≡ true)
      by true t f later = let same : i ≡ n = same_Some i n f in (zero, x, omega (arith, same), refl, t)
      by false t f later = let rest = later f in (suc rest.0, rest.1, omega (arith, rest.2), rest.3, rest.4)

  -- it is found at the same index in a longer list
  longer_from : (xs ys : List X) (i n : ℕ) → position_from test i xs ≡ Some n → position_from test i (xs ++ ys) ≡ Some n
  longer_from [] ys i n e = absurd (none-some n e)
  longer_from (x ∷ xs) ys i n e = by (test x) e (λ f. longer_from xs ys (i + 1) n f)
    where
      by : (b : Bool) → cond b (Some i) (position_from test (i + 1) xs) ≡ Some n → (position_from test (i + 1) xs ≡ Some n → position_from test (i + 1) (xs ++ ys) ≡ Some n) → cond b (Some i) (position_from test (i + 1) (xs ++ ys)) ≡ Some n
      by true f later = f
      by false f later = later f

  pub position_passes : (xs : List X) (n : ℕ) → position test xs ≡ Some n → (x : X) × (slice_get xs n ≡ Some x) × (test x ≡ true)
  position_passes xs n e =
      let found = passes_from xs 0 n (sym (position_from-zero test xs) ∙ e) in
      let same : found.0 ≡ n = omega (arith, found.2) in
      (found.1, subst (λ k. slice_get xs k ≡ Some found.1) same found.3, found.4)

  pub position_longer : (xs ys : List X) (n : ℕ) → position test xs ≡ Some n → position test (xs ++ ys) ≡ Some n
  position_longer xs ys n e = position_from-zero test (xs ++ ys) ∙ longer_from xs ys 0 n (sym (position_from-zero test xs) ∙ e)

-- a sort stands at its number
pub number_found : (origins : List Expression) (e : Expression) (n : ℕ) → number_among origins e ≡ Some n → slice_get origins n ≡ Some e
number_found origins e n is =
    let found = position_passes (is_same e) origins n is in
    found.1 ∙ ap Some (sym ((is_same-decides e found.0).0 found.2))

-- and has it in a longer list
pub number_longer : (origins more : List Expression) (e : Expression) (n : ℕ) → number_among origins e ≡ Some n → number_among (origins ++ more) e ≡ Some n
number_longer origins more e n is = position_longer (is_same e) origins more n is

-- where sorts are different, the number of a sort is where it stands
pub number_is : (origins : List Expression) → AreDifferent origins → (e : Expression) (n : ℕ) → slice_get origins n ≡ Some e → number_among origins e ≡ Some n
number_is origins different e n at =
    let found = number_at origins e (n, at) in
    found.1 ∙ ap (λ (k : ℕ). Some k) (different found.0 n e found.2 at)
