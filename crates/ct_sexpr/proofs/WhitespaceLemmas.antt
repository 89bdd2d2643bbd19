-- Whitespace, comments and runs of bytes that pass a test, byte by byte.
use Rattle.std.proofs.Common.{◌≡◌, ℕ, Bool, true, false, eqb, cond, List, [], ◌∷◌, ◌++◌, inl, inr, refl, sym, ap, ◌∙◌, subst, true≢false}
use Rattle.std.proofs.lemmas.Bool.Decides.{eqb_tells}
use Rattle.ct_sexpr.specs.Whitespace.{is_whitespace, after_whitespace}
use Rattle.ct_sexpr.specs.TakeWhile.{take_while, drop_while}
use Rattle.ct_sexpr.specs.Token.{begins_atom}

-- two bytes that a test tells apart are two
pub distinguished : (f : ℕ → Bool) (b n : ℕ) → f b ≡ true → f n ≡ false → eqb b n ≡ false
distinguished f b n p q =
    elim (eqb_tells b n) [
      | inl x ↦ absurd (true≢false (sym (subst (λ m. f m ≡ true) x.1 p) ∙ q))
      | inr x ↦ x.0
    ]

-- what is no whitespace and begins no comment is left
pub after_whitespace-other : (b : ℕ) (bs : List ℕ) → is_whitespace b ≡ false → eqb b 59 ≡ false → after_whitespace (b ∷ bs) ≡ b ∷ bs
after_whitespace-other b bs h k = rw (k, h) refl

-- an atom begins with no whitespace and no comment
pub after_whitespace-atom : (b : ℕ) (bs : List ℕ) → begins_atom b ≡ true → after_whitespace (b ∷ bs) ≡ b ∷ bs
after_whitespace-atom b bs h =
    rw (
      distinguished begins_atom b 59 h refl,
      distinguished begins_atom b 9 h refl,
      distinguished begins_atom b 10 h refl,
      distinguished begins_atom b 13 h refl,
      distinguished begins_atom b 32 h refl,
    )
    refl

-- a run that nothing is left after goes on after its first byte
pub run_goes_on : (passes : Bool) (rest all : List ℕ) (c : ℕ) → cond passes rest (c ∷ all) ≡ [] → (passes ≡ true) × (rest ≡ [])
run_goes_on true rest all c e = (refl, e)
run_goes_on false rest all c e = cc

-- a run goes on after bytes that all pass
pub take_while-append : (test : ℕ → Bool) (w bs : List ℕ) → drop_while test w ≡ [] → take_while test (w ++ bs) ≡ w ++ take_while test bs
take_while-append test [] bs e = refl
take_while-append test (c ∷ w) bs e =
    let p = run_goes_on (test c) (drop_while test w) w c e in
    rw p.0 (ap (λ v. c ∷ v) (take_while-append test w bs p.1))

pub drop_while-append : (test : ℕ → Bool) (w bs : List ℕ) → drop_while test w ≡ [] → drop_while test (w ++ bs) ≡ drop_while test bs
drop_while-append test [] bs e = refl
drop_while-append test (c ∷ w) bs e =
    let p = run_goes_on (test c) (drop_while test w) w c e in
    rw p.0 (drop_while-append test w bs p.1)

-- one more byte of a run
pub drop_while-push : (test : ℕ → Bool) (w : List ℕ) (b : ℕ) → drop_while test w ≡ [] → test b ≡ true → drop_while test (w ++ b ∷ []) ≡ []
drop_while-push test w b e h = drop_while-append test w (b ∷ []) e ∙ rw h refl
