-- Sets of points as lists: what a longer list has, and tests that are the same.
use Rattle.std.proofs.Common.{◌≡◌, ℕ, zero, suc, ◌+◌, ◌<◌, Bool, true, false, ◌||◌, List, [], ◌∷◌, ◌++◌, length, take, get_or, nat_eq, All, refl, sym, ap, ap₂, subst, ◌∙◌, arith, true≢false}
use Rattle.std.specs.List.{list_any}
use Rattle.std.proofs.lemmas.Bool.{eqb-true, eq-eqb}
use Rattle.std.proofs.lemmas.List.{take_more}
use Rattle.std.proofs.lemmas.List.Elements.{All-from_get_or}
use Rattle.ct_lemmas.proofs.Booleans.{or_assoc, or_false, or_left, or_right}
use Rattle.ct_partition.specs.Sets.{has}

-- ---- tests

-- tests that pass together are the same
pub same_tests : (a b : Bool) → (a ≡ true → b ≡ true) → (b ≡ true → a ≡ true) → a ≡ b
same_tests true b there back = sym (there refl)
same_tests false true there back = back refl
same_tests false false there back = refl

-- what passes already is not changed by what passes only then
pub or-old : (a b : Bool) → (b ≡ true → a ≡ true) → (a || b) ≡ a
or-old true b h = refl
or-old false true h = sym (h refl)
or-old false false h = refl

-- ---- sets

-- nothing is in the empty set
pub has-nil : (i : ℕ) → has [] i ≡ false
unfolding has
has-nil i = refl

-- what is in two sets
pub has-append : (xs ys : List ℕ) (i : ℕ) → has (xs ++ ys) i ≡ (has xs i || has ys i)
unfolding has
has-append [] ys i = refl
has-append (x ∷ xs) ys i = ap (λ b. nat_eq x i || b) (has-append xs ys i) ∙ sym (or_assoc (nat_eq x i) (has xs i) (has ys i))

-- what is in a set with one more
pub has-push : (xs : List ℕ) (x i : ℕ) → has (xs ++ x ∷ []) i ≡ (has xs i || nat_eq x i)
unfolding has
has-push [] x i = or_false (nat_eq x i)
has-push (y ∷ xs) x i = ap (λ b. nat_eq y i || b) (has-push xs x i) ∙ sym (or_assoc (nat_eq y i) (has xs i) (nat_eq x i))

-- what is in one more of a list
pub has-more : (xs : List ℕ) (k d i : ℕ) → k < length xs → has (take (k + 1) xs) i ≡ (has (take k xs) i || nat_eq (get_or xs k d) i)
has-more xs k d i within = ap (λ (ys : List ℕ). has ys i) (take_more xs k d within) ∙ has-push (take k xs) (get_or xs k d) i

-- each element is in the set
pub has-at : (xs : List ℕ) (k d : ℕ) → k < length xs → has xs (get_or xs k d) ≡ true
unfolding has
has-at [] k d within = absurd (omega arith)
has-at (x ∷ xs) zero d within = or_left (nat_eq x x) (has xs x) (eq-eqb x x refl)
has-at (x ∷ xs) (suc k) d within = or_right (nat_eq x (get_or xs k d)) (has xs (get_or xs k d)) (has-at xs k d (omega arith))

-- what holds of all in the set holds of each element, and back
pub All-from_has : (P : ℕ → Type 0) (xs : List ℕ) → ((i : ℕ) → has xs i ≡ true → P i) → All P xs
All-from_has P xs h = All-from_get_or P xs 0 (λ k within. h (get_or xs k 0) (has-at xs k 0 within))

by_cases : (P : ℕ → Type 0) (x i : ℕ) (b c : Bool) → nat_eq x i ≡ c → P x → (b ≡ true → P i) → (c || b) ≡ true → P i
by_cases P x i b true e here rest h = subst P (eqb-true x i e) here
by_cases P x i b false e here rest h = rest h

pub has-All : (P : ℕ → Type 0) (xs : List ℕ) (i : ℕ) → All P xs → has xs i ≡ true → P i
unfolding has
has-All P [] i all h = absurd (true≢false (sym h))
has-All P (x ∷ xs) i all h =
    by_cases P x i (has xs i) (nat_eq x i) refl (all 0 x (omega arith)) (has-All P xs i (λ k d within. all (suc k) d (omega arith))) h

-- ---- sets that meet

-- some element of one set is in the other
abbrev pub meets : List ℕ → List ℕ → Bool
meets xs ys = list_any (has ys) xs

four : (a b c d : Bool) → ((a || b) || (c || d)) ≡ ((a || c) || (b || d))
four true b c d = refl
four false true true d = refl
four false true false d = refl
four false false c d = refl

-- one of two tests passes somewhere
any-or : (f g : ℕ → Bool) (xs : List ℕ) → list_any (λ x. f x || g x) xs ≡ (list_any f xs || list_any g xs)
any-or f g [] = refl
any-or f g (x ∷ xs) = ap (λ b. (f x || g x) || b) (any-or f g xs) ∙ four (f x) (g x) (list_any f xs) (list_any g xs)

any-nothing : (xs : List ℕ) → list_any (has []) xs ≡ false
unfolding has
any-nothing [] = refl
any-nothing (x ∷ xs) = any-nothing xs

eqb-sym : (x y : ℕ) → nat_eq x y ≡ nat_eq y x
eqb-sym x y = same_tests (nat_eq x y) (nat_eq y x) (λ e. eq-eqb y x (sym (eqb-true x y e))) (λ e. eq-eqb x y (sym (eqb-true y x e)))

any-equal : (x : ℕ) (ys : List ℕ) → has ys x ≡ list_any (nat_eq x) ys
unfolding has
any-equal x [] = refl
any-equal x (y ∷ ys) = ap₂ (λ a b. a || b) (eqb-sym y x) (any-equal x ys)

-- sets meet either way round
pub meets-sym : (xs ys : List ℕ) → meets xs ys ≡ meets ys xs
unfolding has
meets-sym [] ys = sym (any-nothing ys)
meets-sym (x ∷ xs) ys =
    ap₂ (λ a b. a || b) (any-equal x ys) (meets-sym xs ys) ∙ sym (any-or (nat_eq x) (has xs) ys)
