-- How the parentheses of tokens nest, and where the first list closes.
use Rattle.std.proofs.Common.{◌<◌, ◌≡◌, ℕ, ◌+◌, ◌-◌, Bool, true, false, nat_lt, cond, List, [], ◌∷◌, ◌++◌, Option, Some, None, ◌⊎◌, inl, inr, refl, ap, subst, arith}
use Rattle.std.proofs.lemmas.Bool.Decides.{nat_tests}
use Rattle.ct_sexpr.specs.Token.{Token, opening, closing, atom}
use Rattle.ct_sexpr.specs.Reading.{nesting_limit, open_after}

-- a test that guards an answer has passed where there is one
pub passed : (b : Bool) (o : Option ℕ) (m : ℕ) → cond b o None ≡ Some m → (b ≡ true) × (o ≡ Some m)
passed true o m e = (refl, e)
passed false o m e = cc

-- the tests of what is open
pub some_open : (depth : ℕ) → 0 < depth → nat_lt 0 depth ≡ true
some_open depth h = grind (arith, nat_tests)

pub inner_open : (depth : ℕ) → nat_lt 1 depth ≡ true → nat_lt 0 depth ≡ true
inner_open depth h = grind (arith, nat_tests)

still_open : (depth : ℕ) → nat_lt 1 depth ≡ true → 0 < depth - 1
still_open depth h = grind (arith, nat_tests)

pub is_open : (depth : ℕ) → nat_lt 0 depth ≡ true → 0 < depth
is_open depth h = grind (arith, nat_tests)

-- the number of open lists after two lists of tokens
pub open_after-append : (ts us : List Token) (depth m : ℕ) → open_after ts depth ≡ Some m → open_after (ts ++ us) depth ≡ open_after us m
open_after-append [] us depth m e = let same : depth ≡ m = cc in ap (open_after us) same
open_after-append (opening ∷ ts) us depth m e =
    let p = passed (nat_lt depth nesting_limit) (open_after ts (depth + 1)) m e in
    rw p.0 (open_after-append ts us (depth + 1) m p.1)
open_after-append (closing ∷ ts) us depth m e =
    let p = passed (nat_lt 1 depth) (open_after ts (depth - 1)) m e in
    rw p.0 (open_after-append ts us (depth - 1) m p.1)
open_after-append (atom a ∷ ts) us depth m e =
    let p = passed (nat_lt 0 depth) (open_after ts depth) m e in
    rw p.0 (open_after-append ts us depth m p.1)

-- where a list is open one still is after tokens
pub stays_open : (ts : List Token) (depth m : ℕ) → 0 < depth → open_after ts depth ≡ Some m → 0 < m
stays_open [] depth m h e = let same : depth ≡ m = cc in omega arith
stays_open (opening ∷ ts) depth m h e =
    stays_open ts (depth + 1) m (omega arith) (passed (nat_lt depth nesting_limit) (open_after ts (depth + 1)) m e).1
stays_open (closing ∷ ts) depth m h e =
    let p = passed (nat_lt 1 depth) (open_after ts (depth - 1)) m e in
    stays_open ts (depth - 1) m (still_open depth p.0) p.1
stays_open (atom a ∷ ts) depth m h e = stays_open ts depth m h (passed (nat_lt 0 depth) (open_after ts depth) m e).1

-- and so it is after the first token
pub one_is_open : (t : Token) (ts : List Token) (depth m : ℕ) → open_after (t ∷ ts) depth ≡ Some m → 0 < m
one_is_open opening ts depth m e =
    stays_open ts (depth + 1) m (omega arith) (passed (nat_lt depth nesting_limit) (open_after ts (depth + 1)) m e).1
one_is_open closing ts depth m e =
    let p = passed (nat_lt 1 depth) (open_after ts (depth - 1)) m e in
    stays_open ts (depth - 1) m (still_open depth p.0) p.1
one_is_open (atom a) ts depth m e =
    let p = passed (nat_lt 0 depth) (open_after ts depth) m e in
    stays_open ts depth m (is_open depth p.0) p.1

-- the tokens close the first of so many open lists with the last token, and not before
abbrev pub Closes : List Token → ℕ → Type 0
Closes [] depth = ⊥
Closes (opening ∷ ts) depth = (nat_lt depth nesting_limit ≡ true) × Closes ts (depth + 1)
Closes (closing ∷ ts) depth = ((nat_lt 1 depth ≡ true) × Closes ts (depth - 1)) ⊎ ((depth ≡ 1) × (ts ≡ []))
Closes (atom a ∷ ts) depth = (nat_lt 0 depth ≡ true) × Closes ts depth

only_one : (depth : ℕ) → nat_lt 1 depth ≡ true → depth ≡ 1 → ⊥
only_one depth p e = grind (arith, nat_tests)

-- a closing parenthesis closes the one list that is open
pub Closes-last : (ts : List Token) (depth : ℕ) → open_after ts depth ≡ Some 1 → Closes (ts ++ closing ∷ []) depth
Closes-last [] depth e = let one : depth ≡ 1 = cc in inr (one, refl)
Closes-last (opening ∷ ts) depth e =
    let p = passed (nat_lt depth nesting_limit) (open_after ts (depth + 1)) 1 e in
    (p.0, Closes-last ts (depth + 1) p.1)
Closes-last (closing ∷ ts) depth e =
    let p = passed (nat_lt 1 depth) (open_after ts (depth - 1)) 1 e in
    inl (p.0, Closes-last ts (depth - 1) p.1)
Closes-last (atom a ∷ ts) depth e =
    let p = passed (nat_lt 0 depth) (open_after ts depth) 1 e in
    (p.0, Closes-last ts depth p.1)

-- what closes the first list does so after a prefix that leaves some open
pub Closes-rest : (ts us : List Token) (depth m : ℕ) → open_after ts depth ≡ Some m → Closes (ts ++ us) depth → Closes us m
Closes-rest [] us depth m e c = let same : depth ≡ m = cc in subst (Closes us) same c
Closes-rest (opening ∷ ts) us depth m e c =
    Closes-rest ts us (depth + 1) m (passed (nat_lt depth nesting_limit) (open_after ts (depth + 1)) m e).1 c.1
Closes-rest (closing ∷ ts) us depth m e c =
    let p = passed (nat_lt 1 depth) (open_after ts (depth - 1)) m e in
    elim c [
      | inl x ↦ Closes-rest ts us (depth - 1) m p.1 x.1
      | inr x ↦ absurd (only_one depth p.0 x.0)
    ]
Closes-rest (atom a ∷ ts) us depth m e c =
    Closes-rest ts us depth m (passed (nat_lt 0 depth) (open_after ts depth) m e).1 c.1

-- two lists of tokens that close the first list, of which one begins the other, are one
pub Closes-once : (ts us : List Token) (depth : ℕ) → Closes ts depth → Closes (ts ++ us) depth → us ≡ []
Closes-once [] us depth c d = absurd c
Closes-once (opening ∷ ts) us depth c d = Closes-once ts us (depth + 1) c.1 d.1
Closes-once (closing ∷ ts) us depth c d =
    elim c [
      | inl x ↦ elim d [ inl y ↦ Closes-once ts us (depth - 1) x.1 y.1 | inr y ↦ absurd (only_one depth x.0 y.0) ]
      | inr x ↦ elim d [ inl y ↦ absurd (only_one depth y.0 x.0) | inr y ↦ rw x.1 at y.1 ]
    ]
Closes-once (atom a ∷ ts) us depth c d = Closes-once ts us depth c.1 d.1

-- after what closes the first list nothing goes on
pub Closes-ends : (ts us : List Token) (depth m : ℕ) → Closes ts depth → open_after (ts ++ us) depth ≡ Some m → ⊥
Closes-ends [] us depth m c e = absurd c
Closes-ends (opening ∷ ts) us depth m c e =
    Closes-ends ts us (depth + 1) m c.1 (passed (nat_lt depth nesting_limit) (open_after (ts ++ us) (depth + 1)) m e).1
Closes-ends (closing ∷ ts) us depth m c e =
    let p = passed (nat_lt 1 depth) (open_after (ts ++ us) (depth - 1)) m e in
    elim c [
      | inl x ↦ Closes-ends ts us (depth - 1) m x.1 p.1
      | inr x ↦ only_one depth p.0 x.0
    ]
Closes-ends (atom a ∷ ts) us depth m c e =
    Closes-ends ts us depth m c.1 (passed (nat_lt 0 depth) (open_after (ts ++ us) depth) m e).1
