-- Truth values: conjunctions, disjunctions and negations.
use Rattle.std.proofs.Common.{◌≡◌, Bool, true, false, refl, ◌&&◌, sym, true≢false, ap, ◌∙◌, ◌⊎◌, ◌||◌, inl, inr, not, if◌then◌else◌, ◌<◌, ◌≤◌, arith}

-- a test that is not true is false
pub not_true : (b : Bool) → (b ≡ true → ⊥) → b ≡ false
not_true true h = absurd (h refl)
not_true false h = refl

-- both parts of a true conjunction are true
pub both_parts : (a b : Bool) → (a && b) ≡ true → (a ≡ true) × (b ≡ true)
both_parts true b h = (refl, h)
both_parts false b h = absurd (true≢false (sym h))

-- the conjunction of what is true is true
pub both_true : (a b : Bool) → a ≡ true → b ≡ true → (a && b) ≡ true
both_true a b h k = ap (λ (x : Bool). x && b) h ∙ k

-- a part of a true disjunction is true
pub or_cases : (a b : Bool) → (a || b) ≡ true → (a ≡ true) ⊎ (b ≡ true)
or_cases true b h = inl refl
or_cases false b h = inr h

-- a disjunction is true where its first part is
pub or_left : (a b : Bool) → a ≡ true → (a || b) ≡ true
or_left true b h = refl
or_left false b h = absurd (true≢false (sym h))

-- or where its second part is
pub or_right : (a b : Bool) → b ≡ true → (a || b) ≡ true
or_right true b h = refl
or_right false b h = h

-- a disjunction with what is false
pub or_false : (a : Bool) → (a || false) ≡ a
or_false true = refl
or_false false = refl

-- a disjunction with what is true
pub or_true : (a : Bool) → (a || true) ≡ true
or_true true = refl
or_true false = refl

-- disjunctions of three parts
pub or_assoc : (a b c : Bool) → ((a || b) || c) ≡ (a || (b || c))
or_assoc true b c = refl
or_assoc false b c = refl

-- twice negated
pub not_twice : (b : Bool) → not (not b) ≡ b
not_twice true = refl
not_twice false = refl

-- the negation is another one
pub not_differs : (b : Bool) → not b ≡ b → ⊥
not_differs true e = cc
not_differs false e = cc

-- what is false where the negation is true
pub not_is_false : (b : Bool) → not b ≡ true → b ≡ false
not_is_false true h = cc
not_is_false false h = refl

-- what holds of both branches of a test holds of the whole
pub by_test : {X : Type 0} (P : X → Type 0) (b : Bool) (x y : X) → (b ≡ true → P x) → (b ≡ false → P y) → P (if b then x else y)
by_test P true x y h k = h refl
by_test P false x y h k = k refl

-- a test that passes where another one does counts no more as one that fails
pub bit-falls : (a b : Bool) → (a ≡ true → b ≡ true) → (if b then 0 else 1) ≤ (if a then 0 else 1)
bit-falls true true h = omega arith
bit-falls true false h = absurd (true≢false (sym (h refl)))
bit-falls false true h = omega arith
bit-falls false false h = omega arith

-- and counts less where it alone passes
pub bit-less : (a b : Bool) → a ≡ false → b ≡ true → (if b then 0 else 1) < (if a then 0 else 1)
bit-less true b p q = absurd (true≢false p)
bit-less false true p q = omega arith
bit-less false false p q = absurd (true≢false (sym q))
