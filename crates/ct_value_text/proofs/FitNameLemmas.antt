-- Names that are declared: none begins with `@`, and each can be a quoted symbol.
use Rattle.std.proofs.Common.{◌≡◌, ℕ, zero, suc, ◌+◌, ◌<◌, true, not, nat_eq, List, [], ◌∷◌, map, take, drop, Some, slice_get, refl, sym, ap, subst, ◌∙◌, inl, inr, arith, codes}
use Rattle.std.specs.List.{list_all}
use Rattle.std.specs.Cmp.Derive.{both_true}
use Rattle.std.proofs.lemmas.Option.{none-some, same_Some}
use Rattle.std.proofs.lemmas.Bool.Decides.{nat_tests}
use Rattle.ct_sorts.specs.Declarations.{Declarations, Constructor, ctor_names, start}
use Rattle.ct_sorts.specs.Availability.{HasByte, IsUnfit}
use Rattle.ct_sorts.specs.Consistent.{IsConsistent}
use Rattle.ct_sexpr.specs.Atom.{is_word_byte}
use Rattle.ct_sexpr.specs.Token.{is_in_quoted_symbol}
use Rattle.ct_value_text.specs.Numeral.{numeral}
use Rattle.ct_value_text.proofs.NumeralLemmas.{numeral_all}

-- a name that may be declared
abbrev pub IsFit : List ℕ → Type 0
IsFit name = IsUnfit name → ⊥

-- ---- `true` and `false`

byte_fits : (name : List ℕ) (byte index : ℕ) → list_all (λ b. not (nat_eq b byte)) name ≡ true → slice_get name index ≡ Some byte → ⊥
byte_fits [] byte index all at = none-some byte at
byte_fits (b ∷ bs) byte zero all at =
    let same : b ≡ byte = same_Some b byte at in
    grind (arith, nat_tests)
byte_fits (b ∷ bs) byte (suc index) all at = byte_fits bs byte index (grind (arith, nat_tests)) at

true_fits : IsFit (codes "true")
true_fits (inl e) = absurd (omega (arith, same_Some 116 64 e))
true_fits (inr (inl e)) = absurd (omega (arith, same_Some 116 46 e))
true_fits (inr (inr (inl e))) = byte_fits (codes "true") 124 e.0 refl e.1
true_fits (inr (inr (inr e))) = byte_fits (codes "true") 92 e.0 refl e.1

false_fits : IsFit (codes "false")
false_fits (inl e) = absurd (omega (arith, same_Some 102 64 e))
false_fits (inr (inl e)) = absurd (omega (arith, same_Some 102 46 e))
false_fits (inr (inr (inl e))) = byte_fits (codes "false") 124 e.0 refl e.1
false_fits (inr (inr (inr e))) = byte_fits (codes "false") 92 e.0 refl e.1

-- ---- declared names

-- the names from the third on fit, and the first two are these
fit_from_third : (cs : List Constructor) (n : ℕ) (name : List ℕ) → take 2 cs ≡ start.ctors → ((index : ℕ) (later : List ℕ) → slice_get (drop 2 (map (λ c. c.name) cs)) index ≡ Some later → IsFit later) → slice_get (map (λ c. c.name) cs) n ≡ Some name → IsFit name
fit_from_third [] n name first rest at = absurd (none-some name at)
fit_from_third (c ∷ []) n name first rest at = cc
fit_from_third (c ∷ (e ∷ cs)) zero name first rest at =
    let is : c ≡ record { name = codes "true"; sort = record { 0 = 0 }; sels = [] } = cc in
    let named : codes "true" ≡ name = sym (ap (λ (k : Constructor). k.name) is) ∙ same_Some c.name name at in
    subst IsFit named true_fits
fit_from_third (c ∷ (e ∷ cs)) (suc zero) name first rest at =
    let is : e ≡ record { name = codes "false"; sort = record { 0 = 0 }; sels = [] } = cc in
    let named : codes "false" ≡ name = sym (ap (λ (k : Constructor). k.name) is) ∙ same_Some e.name name at in
    subst IsFit named false_fits
fit_from_third (c ∷ (e ∷ cs)) (suc (suc n)) name first rest at = rest n name at

pub ctor_fits : (d : Declarations) (n : ℕ) (name : List ℕ) → IsConsistent d → slice_get (ctor_names d) n ≡ Some name → IsFit name
ctor_fits d n name consistent at =
    fit_from_third d.ctors n name consistent.first_ctors (λ index later is unfit. consistent.ctors_available index later is (inr (inr unfit))) at

-- ---- bytes that may stand in a quoted symbol

pub in_quoted_symbol : (name : List ℕ) → (HasByte name 124 → ⊥) → (HasByte name 92 → ⊥) → list_all is_in_quoted_symbol name ≡ true
in_quoted_symbol [] quotes slashes = refl
in_quoted_symbol (b ∷ bs) quotes slashes =
    let rest = in_quoted_symbol bs (λ h. quotes (suc h.0, h.1)) (λ h. slashes (suc h.0, h.1)) in
    let first : is_in_quoted_symbol b ≡ true = fits_byte b (λ e. quotes (0, ap Some e)) (λ e. slashes (0, ap Some e)) in
    both_true first rest
  where
    fits_byte : (b : ℕ) → (b ≡ 124 → ⊥) → (b ≡ 92 → ⊥) → is_in_quoted_symbol b ≡ true
    fits_byte b no_bar no_slash = grind (arith, nat_tests)

pub fit_between : (name : List ℕ) → IsFit name → list_all is_in_quoted_symbol name ≡ true
fit_between name fits = in_quoted_symbol name (λ h. fits (inr (inr (inl h)))) (λ h. fits (inr (inr (inr h))))

-- ---- digits

digit_between : (n : ℕ) → n < 10 → is_in_quoted_symbol (48 + n) ≡ true
digit_between n small = grind (arith, nat_tests)

digit_word : (n : ℕ) → n < 10 → is_word_byte (48 + n) ≡ true
digit_word n small = grind (arith, nat_tests)

pub digits_between : (n : ℕ) → list_all is_in_quoted_symbol (numeral n) ≡ true
digits_between = numeral_all is_in_quoted_symbol digit_between

pub digits_word : (n : ℕ) → list_all is_word_byte (numeral n) ≡ true
digits_word = numeral_all is_word_byte digit_word
