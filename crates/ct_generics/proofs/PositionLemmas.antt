-- Where an element stands first in a list, by a test that decides equality.
use Rattle.std.proofs.Common.{◌≡◌, ℕ, zero, suc, ◌+◌, ◌<◌, Bool, true, false, cond, nat_lt, List, [], ◌∷◌, length, slice_get, position, Some, None, Option, MatchOption, IfSome, IfNone, Decides, refl, sym, ap, subst, arith}
use Rattle.std.specs.List.{position_or_len}
use Rattle.std.proofs.lemmas.Bool.{true≢false}
use Rattle.std.proofs.lemmas.Bool.Decides.{Decides-ltb}
use Rattle.std.proofs.lemmas.Option.{none-some, same_Some}

module _ {X : Type 0} (x : X) (test : X → Bool) (decides : (y : X) → Decides (test y) (x ≡ y)) where
  -- the first that passes is this element
  first-is : (xs : List X) → position_or_len test xs < length xs → slice_get xs (position_or_len test xs) ≡ Some x
  first-is [] within = absurd (omega arith)
  first-is (y ∷ ys) within = by (test y) refl (first-is ys)
    where
      by : (b : Bool) → test y ≡ b → (position_or_len test ys < length ys → slice_get ys (position_or_len test ys) ≡ Some x) → slice_get (y ∷ ys) (position_or_len test (y ∷ ys)) ≡ Some x
      by true e rest = rw e (ap Some (sym ((decides y).0 e)))
      by false e rest =
          let s : 1 + position_or_len test ys ≡ suc (position_or_len test ys) = omega arith in
          let w = rw e at within in
          rw (e, s) (rest (omega arith))

  -- an element that is there passes
  first-below : (xs : List X) (i : ℕ) → slice_get xs i ≡ Some x → position_or_len test xs < length xs
  first-below [] i e = absurd (none-some x e)
  first-below (y ∷ ys) zero e =
      let passes : test y ≡ true = (decides y).1 (sym (same_Some y x e)) in
      rw passes (omega arith)
  first-below (y ∷ ys) (suc i) e = by (test y) refl (first-below ys i e)
    where
      by : (b : Bool) → test y ≡ b → position_or_len test ys < length ys → position_or_len test (y ∷ ys) < length (y ∷ ys)
      by true e rest = rw e (omega arith)
      by false e rest = rw e (omega arith)

  -- a search gives an index of the element, or it is not there
  position-cases : (xs : List X) → MatchOption (position test xs) ((i : ℕ) → slice_get xs i ≡ Some x → ⊥) (λ i. slice_get xs i ≡ Some x)
  position-cases xs = by (nat_lt first (length xs)) (Decides-ltb first (length xs))
    where
      first : ℕ
      first = position_or_len test xs

      by : (b : Bool) → Decides b (position_or_len test xs < length xs) → MatchOption (cond b (Some (position_or_len test xs)) None) ((i : ℕ) → slice_get xs i ≡ Some x → ⊥) (λ i. slice_get xs i ≡ Some x)
      by true tells = first-is xs (tells.0 refl)
      by false tells = λ i at. true≢false (sym (tells.1 (first-below xs i at)))

  pub position-Some : (xs : List X) (found : Option ℕ) → found ≡ position test xs → IfSome found (λ i. slice_get xs i ≡ Some x)
  position-Some xs found is = by found (subst (λ (o : Option ℕ). MatchOption o ((i : ℕ) → slice_get xs i ≡ Some x → ⊥) (λ i. slice_get xs i ≡ Some x)) (sym is) (position-cases xs))
    where
      by : (o : Option ℕ) → MatchOption o ((i : ℕ) → slice_get xs i ≡ Some x → ⊥) (λ i. slice_get xs i ≡ Some x) → IfSome o (λ i. slice_get xs i ≡ Some x)
      by None h = tt
      by (Some i) h = h

  pub position-None : (xs : List X) (found : Option ℕ) → found ≡ position test xs → IfNone found ((i : ℕ) → slice_get xs i ≡ Some x → ⊥)
  position-None xs found is = by found (subst (λ (o : Option ℕ). MatchOption o ((i : ℕ) → slice_get xs i ≡ Some x → ⊥) (λ i. slice_get xs i ≡ Some x)) (sym is) (position-cases xs))
    where
      by : (o : Option ℕ) → MatchOption o ((i : ℕ) → slice_get xs i ≡ Some x → ⊥) (λ i. slice_get xs i ≡ Some x) → IfNone o ((i : ℕ) → slice_get xs i ≡ Some x → ⊥)
      by None h = h
      by (Some i) h = tt
