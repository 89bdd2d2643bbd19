-- The index of a name in a list of names.
use Rattle.std.proofs.Common.{◌≡◌, ℕ, zero, suc, ◌+◌, ◌<◌, ◌⊎◌, Bool, true, false, cond, nat_lt, List, [], ◌∷◌, ◌++◌, length, Some, None, MatchOption, Decides, slice_get, position, refl, sym, ap, inl, inr, ⊎_elim, arith}
use Rattle.std.specs.List.{position_or_len}
use Rattle.std.specs.Str.{bytes_eq}
use Rattle.std.proofs.lemmas.Slice.Eq.{bytes_eq-Decides}
use Rattle.std.proofs.lemmas.Bool.{true≢false}
use Rattle.std.proofs.lemmas.Bool.Decides.{Decides-ltb}
use Rattle.std.proofs.lemmas.Option.{none-some, same_Some}
use Rattle.ct_sorts.specs.Availability.{IsListed}

module _ (name : List ℕ) where
  -- the first text that is the name is the name
  slice_get-first : (texts : List (List ℕ)) → position_or_len (bytes_eq name) texts < length texts → slice_get texts (position_or_len (bytes_eq name) texts) ≡ Some name
  slice_get-first [] within = absurd (omega arith)
  slice_get-first (text ∷ texts) within = by (bytes_eq name text) refl (slice_get-first texts)
    where
      by : (b : Bool) → bytes_eq name text ≡ b → (position_or_len (bytes_eq name) texts < length texts → slice_get texts (position_or_len (bytes_eq name) texts) ≡ Some name) → slice_get (text ∷ texts) (position_or_len (bytes_eq name) (text ∷ texts)) ≡ Some name
      by true e rest = rw e (ap Some (sym ((bytes_eq-Decides name text).0 e)))
      by false e rest =
          let s : 1 + position_or_len (bytes_eq name) texts ≡ suc (position_or_len (bytes_eq name) texts) = omega arith in
          let w = rw e at within in
          rw (e, s) (rest (omega arith))

  -- a listed name is found
  first-listed : (texts : List (List ℕ)) (index : ℕ) → slice_get texts index ≡ Some name → position_or_len (bytes_eq name) texts < length texts
  first-listed [] index e = absurd (none-some _ e)
  first-listed (text ∷ texts) zero e =
      let passes : bytes_eq name text ≡ true = (bytes_eq-Decides name text).1 (sym (same_Some _ _ e)) in
      rw passes (omega arith)
  first-listed (text ∷ texts) (suc index) e = by (bytes_eq name text) refl (first-listed texts index e)
    where
      by : (b : Bool) → bytes_eq name text ≡ b → position_or_len (bytes_eq name) texts < length texts → position_or_len (bytes_eq name) (text ∷ texts) < length (text ∷ texts)
      by true e rest = rw e (omega arith)
      by false e rest = rw e (omega arith)

  -- a look-up gives an index of the name, or the name is not listed
  pub position-cases : (texts : List (List ℕ)) → MatchOption (position (bytes_eq name) texts) (IsListed texts name → ⊥) (λ index. slice_get texts index ≡ Some name)
  position-cases texts = by (nat_lt first (length texts)) (Decides-ltb first (length texts))
    where
      first : ℕ
      first = position_or_len (bytes_eq name) texts

      by : (b : Bool) → Decides b (position_or_len (bytes_eq name) texts < length texts) → MatchOption (cond b (Some (position_or_len (bytes_eq name) texts)) None) (IsListed texts name → ⊥) (λ index. slice_get texts index ≡ Some name)
      by true tells = slice_get-first texts (tells.0 refl)
      by false tells = λ h. true≢false (sym (tells.1 (first-listed texts h.0 h.1)))

  -- a name that is listed in two lists is listed in one of them
  listed-append : (texts others : List (List ℕ)) (index : ℕ) → slice_get (texts ++ others) index ≡ Some name → IsListed texts name ⊎ IsListed others name
  listed-append [] others index e = inr (index, e)
  listed-append (text ∷ texts) others zero e = inl (zero, e)
  listed-append (text ∷ texts) others (suc index) e = ⊎_elim (λ (h : IsListed texts name). inl (suc h.0, h.1)) (λ h. inr h) (listed-append texts others index e)

  pub unlisted-append : (texts others : List (List ℕ)) → (IsListed texts name → ⊥) → (IsListed others name → ⊥) → IsListed (texts ++ others) name → ⊥
  unlisted-append texts others p q listed = ⊎_elim p q (listed-append texts others listed.0 listed.1)
