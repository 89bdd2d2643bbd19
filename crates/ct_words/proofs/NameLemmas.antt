-- What the names of a text are.
use Rattle.std.proofs.Common.{◌≡◌, ℕ, zero, suc, ◌+◌, ◌-◌, ◌<◌, ◌==◌, Bool, true, false, List, [], ◌∷◌, length, take, drop, slice_get, position, nat_lt, length-take-le, length-drop, Some, None, refl, ap, ◌∙◌, arith}
use Rattle.std.specs.List.{position_or_len}
use Rattle.std.proofs.lemmas.Bool.Decides.{Decides-ltb}
use Rattle.std.proofs.lemmas.List.{take_all}
use Rattle.std.proofs.lemmas.Option.{none-some, same_Some}
use Rattle.ct_words.specs.NameList.{names_in, with_first_byte}

-- a byte before the first name changes no count
pub length-with_first_byte : (byte : ℕ) (names : List (List ℕ)) → length (with_first_byte byte names) ≡ length names
length-with_first_byte byte [] = refl
length-with_first_byte byte (name ∷ names) = refl

-- where the first name of a text ends
abbrev pub end_of : List ℕ → ℕ
end_of text = position_or_len (λ byte. byte == 10) text

-- the first name of a text ends before the first byte 10, and the others follow that
abbrev pub BeginsWithName : List ℕ → Type 0
BeginsWithName text = (end_of text < length text) × (names_in text ≡ take (end_of text) text ∷ names_in (drop (end_of text + 1) text))

-- a text that has names begins with one
pub begins_with_name : (text : List ℕ) → 0 < length (names_in text) → BeginsWithName text
begins_with_name [] named = absurd (omega arith)
begins_with_name (byte ∷ text) named = by (byte == 10) refl (begins_with_name text)
  where
    by : (b : Bool) → (byte == 10) ≡ b → (0 < length (names_in text) → BeginsWithName text) → BeginsWithName (byte ∷ text)
    by true e rest = rw e (omega arith, refl)
    by false e rest =
        let n = rw e at named in
        let same = length-with_first_byte byte (names_in text) in
        let r = rest (omega arith) in
        let s : 1 + end_of text ≡ suc (end_of text) = omega arith in
        let t : suc (end_of text) + 1 ≡ suc (end_of text + 1) = omega arith in
        rw (e, s, t) (omega arith, ap (with_first_byte byte) r.1)

-- what a list has from an index on begins with the item at the index
pub slice_get-drop_cons : {X : Type 0} (xs : List X) (index : ℕ) (x : X) (others : List X) → drop index xs ≡ x ∷ others → slice_get xs index ≡ Some x
slice_get-drop_cons xs zero x others e = ap (λ ys. slice_get ys 0) e
slice_get-drop_cons [] (suc index) x others e = absurd (omega (arith, ap length e))
slice_get-drop_cons (y ∷ xs) (suc index) x others e = slice_get-drop_cons xs index x others e

-- in a text that has names, the search for the first byte 10 finds the end of the first name
pub position-end_of : (text : List ℕ) → 0 < length (names_in text) → position (λ byte. byte == 10) text ≡ Some (end_of text)
position-end_of text named =
    let below : nat_lt (end_of text) (length text) ≡ true = (Decides-ltb (end_of text) (length text)).1 (begins_with_name text named).0 in
    rw below refl

-- what the search found is the end of the first name
pub first_name-found : (text : List ℕ) (end : ℕ) → 0 < length (names_in text) → Some end ≡ position (λ byte. byte == 10) text → (names_in text ≡ take end text ∷ names_in (drop (length (take end text) + 1) text)) × (length (take end text) < length text)
first_name-found text end named e =
    let b = begins_with_name text named in
    let s : end ≡ end_of text = same_Some _ _ (e ∙ position-end_of text named) in
    let l : length (take (end_of text) text) ≡ end_of text = length-take-le (end_of text) text (omega (arith, b.0)) in
    rw (s, l) (b.1, b.0)

-- a text that has names has an end of the first
pub first_name-missing : {A : Type 0} (text : List ℕ) → 0 < length (names_in text) → None ≡ position (λ byte. byte == 10) text → A
first_name-missing text named e = absurd (none-some _ (e ∙ position-end_of text named))

-- the part of a list from an index to the end
pub take-drop_all : {X : Type 0} (xs : List X) (n : ℕ) → take (length xs - n) (drop n xs) ≡ drop n xs
take-drop_all xs n = take_all (length xs - n) (drop n xs) (omega (arith, length-drop n xs))
