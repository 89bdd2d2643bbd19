-- Tests of a list that fall from one number to the next: within the length of the list they settle.
use Rattle.std.proofs.Common.{◌≡◌, ℕ, zero, suc, ◌+◌, ◌<◌, ◌≤◌, ◌⊎◌, Bool, true, false, cond, List, [], ◌∷◌, ◌++◌, length, refl, sym, subst, inl, inr, arith, true≢false}

-- x is an element of the list
abbrev pub In : {X : Type 0} → X → List X → Type 0
In x [] = ⊥
In x (y ∷ ys) = (x ≡ y) ⊎ In x ys

module _ {X : Type 0} where
  pub In-left : (x : X) (xs ys : List X) → In x xs → In x (xs ++ ys)
  In-left x [] ys h = absurd h
  In-left x (z ∷ zs) ys (inl e) = inl e
  In-left x (z ∷ zs) ys (inr h) = inr (In-left x zs ys h)

  pub In-right : (x : X) (xs ys : List X) → In x ys → In x (xs ++ ys)
  In-right x [] ys h = h
  In-right x (z ∷ zs) ys h = inr (In-right x zs ys h)

  pub In-split : (x : X) (xs ys : List X) → In x (xs ++ ys) → In x xs ⊎ In x ys
  In-split x [] ys h = inr h
  In-split x (z ∷ zs) ys (inl e) = inl (inl e)
  In-split x (z ∷ zs) ys (inr h) = elim (In-split x zs ys h) [ inl a ↦ inl (inr a) | inr b ↦ inr b ]

-- the test before and after, at one more element: the counts fall, or nothing has changed there and before
one_more : (a b : Bool) (P : Type 0) (m n : ℕ) → (b ≡ true → a ≡ true) → n ≤ m → P ⊎ (n < m)
    → (cond b 1 0 + n ≤ cond a 1 0 + m) × (((a ≡ true → b ≡ true) × P) ⊎ (cond b 1 0 + n < cond a 1 0 + m))
one_more true true P m n falls le (inl p) = (omega arith, inl (λ e. refl, p))
one_more true true P m n falls le (inr less) = (omega arith, inr (omega arith))
one_more true false P m n falls le before = (omega arith, inr (omega arith))
one_more false true P m n falls le before = absurd (true≢false (sym (falls refl)))
one_more false false P m n falls le (inl p) = (omega arith, inl (λ e. e, p))
one_more false false P m n falls le (inr less) = (omega arith, inr (omega arith))

module _ {X : Type 0} (test : ℕ → X → Bool) (falls : (k : ℕ) (x : X) → test (suc k) x ≡ true → test k x ≡ true) where
  -- from this number to the next no test of the list changes
  abbrev pub IsSteady : List X → ℕ → Type 0
  IsSteady xs k = (x : X) → In x xs → test k x ≡ true → test (suc k) x ≡ true

  -- how many of the list pass
  passing : ℕ → List X → ℕ
  passing k [] = 0
  passing k (x ∷ xs) = cond (test k x) 1 0 + passing k xs

  cons_steady : (k : ℕ) (x : X) (xs : List X) → (test k x ≡ true → test (suc k) x ≡ true) → IsSteady xs k → IsSteady (x ∷ xs) k
  cons_steady k x xs here rest y (inl e) h = subst (λ z. test (suc k) z ≡ true) (sym e) (here (subst (λ z. test k z ≡ true) e h))
  cons_steady k x xs here rest y (inr within) h = rest y within h

  passing_falls : (k : ℕ) (xs : List X) → (passing (suc k) xs ≤ passing k xs) × (IsSteady xs k ⊎ (passing (suc k) xs < passing k xs))
  unfolding passing
  passing_falls k [] = (omega arith, inl (λ x within h. absurd within))
  passing_falls k (x ∷ xs) =
      let rest = passing_falls k xs in
      let more = one_more (test k x) (test (suc k) x) (IsSteady xs k) (passing k xs) (passing (suc k) xs) (falls k x) rest.0 rest.1 in
      (more.0, elim more.1 [ inl s ↦ inl (cons_steady k x xs s.0 s.1) | inr less ↦ inr less ])

  passing_all : (k : ℕ) (xs : List X) → passing k xs ≤ length xs
  unfolding passing
  passing_all k [] = omega arith
  passing_all k (x ∷ xs) = at (test k x) (passing_all k xs)
    where
      at : (b : Bool) → passing k xs ≤ length xs → cond b 1 0 + passing k xs ≤ suc (length xs)
      at true h = omega arith
      at false h = omega arith

  settles_within : (xs : List X) (room k : ℕ) → passing k xs ≤ room → (j : ℕ) × (j ≤ k + room) × IsSteady xs j
  settles_within xs zero k h =
      elim (passing_falls k xs).1 [ inl s ↦ (k, omega arith, s) | inr less ↦ absurd (omega arith) ]
  settles_within xs (suc room) k h = elim (passing_falls k xs).1 [
    | inl s ↦ (k, omega arith, s)
    | inr less ↦ let later = settles_within xs room (suc k) (omega arith) in (later.0, omega arith, later.2)
  ]

  -- the tests are steady from some number on that is at most the length of the list
  pub settles : (xs : List X) → (j : ℕ) × (j ≤ length xs) × IsSteady xs j
  settles xs = let found = settles_within xs (length xs) 0 (passing_all 0 xs) in (found.0, omega arith, found.2)

  -- a test that passes passes at each number before
  pub passes_before : (j d : ℕ) (x : X) → test (j + d) x ≡ true → test j x ≡ true
  passes_before j zero x h = subst (λ n. test n x ≡ true) (omega arith) h
  passes_before j (suc d) x h =
      passes_before j d x (falls (j + d) x (subst (λ n. test n x ≡ true) (omega arith) h))
