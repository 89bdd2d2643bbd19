-- What a look-up in a list says of a name.
use Rattle.std.proofs.Common.{◌≡◌, ℕ, zero, suc, ◌+◌, ◌<◌, ◌⊎◌, ◌||◌, ◌&&◌, not, Bool, true, false, cond, nat_lt, List, [], ◌∷◌, ◌++◌, length, map, slice_get, position, Some, None, MatchOption, Decides, refl, sym, ◌∙◌, ap, inl, inr, ⊎_elim, arith}
use Rattle.std.specs.List.{list_any, position_or_len}
use Rattle.std.specs.Borrow.{Bor}
use Rattle.std.specs.Map.{keys_of}
use Rattle.std.specs.Str.{bytes_eq}
use Rattle.indexmap.specs.IndexMap.{insert_entry}
use Rattle.std.proofs.lemmas.Slice.Eq.{bytes_eq-Decides}
use Rattle.std.proofs.lemmas.Bool.{true≢false}
use Rattle.std.proofs.lemmas.Bool.Decides.{Decides-or, Decides-like, Decides-ltb}
use Rattle.std.proofs.lemmas.Option.{none-some, same_Some}
use Rattle.ct_sorts.specs.Availability.{IsListed}
use Rattle.ct_sorts.specs.Lookup.{AreDistinct}

-- a listed name is the first text or listed among the others
pub IsListed-cons : (text : List ℕ) (texts : List (List ℕ)) (name : List ℕ) → IsListed (text ∷ texts) name → (text ≡ name) ⊎ IsListed texts name
IsListed-cons text texts name (zero, e) = inl (same_Some _ _ e)
IsListed-cons text texts name (suc index, e) = inr (index, e)

-- a search for a name finds it exactly where it is listed
pub list_any-IsListed : (texts : List (List ℕ)) (name : List ℕ) → Decides (list_any (λ text. bytes_eq text name) texts) (IsListed texts name)
list_any-IsListed [] name = (λ e. absurd (true≢false (sym e)), λ h. absurd (none-some _ h.1))
list_any-IsListed (text ∷ texts) name =
    Decides-like _ (⊎_elim (λ e. (0, ap Some e)) (λ h. (suc h.0, h.1))) (IsListed-cons text texts name)
    (Decides-or _ _ (bytes_eq-Decides text name) (list_any-IsListed texts name))

-- no text stands again after itself
abbrev pub differ : List (List ℕ) → Bool
differ [] = true
differ (text ∷ texts) = not (list_any (λ t. bytes_eq t text) texts) && differ texts

-- a text before distinct ones that it is none of
AreDistinct-cons : (text : List ℕ) (texts : List (List ℕ)) → (IsListed texts text → ⊥) → AreDistinct texts → AreDistinct (text ∷ texts)
AreDistinct-cons text texts fresh rest zero zero name at also = refl
AreDistinct-cons text texts fresh rest zero (suc j) name at also = absurd (fresh (j, also ∙ sym at))
AreDistinct-cons text texts fresh rest (suc i) zero name at also = absurd (fresh (i, at ∙ sym also))
AreDistinct-cons text texts fresh rest (suc i) (suc j) name at also = ap suc (rest i j name at also)

pub AreDistinct-differ : (texts : List (List ℕ)) → differ texts ≡ true → AreDistinct texts
AreDistinct-differ [] e = λ i j name at also. absurd (none-some _ at)
AreDistinct-differ (text ∷ texts) e = by (list_any (λ t. bytes_eq t text) texts) refl e (AreDistinct-differ texts)
  where
    by : (b : Bool) → list_any (λ t. bytes_eq t text) texts ≡ b → (not b && differ texts) ≡ true → (differ texts ≡ true → AreDistinct texts) → AreDistinct (text ∷ texts)
    by true is h rest = absurd (true≢false (sym h))
    by false is h rest = AreDistinct-cons text texts (λ listed. true≢false (sym ((list_any-IsListed texts text).1 listed) ∙ is)) (rest h)

module _ {K : Type 0} (text_of : K → List ℕ) (test : K → Bool) (name : List ℕ) (decides : (key : K) → Decides (test key) (name ≡ text_of key)) where
  -- the first key that passes a test for the name has the name
  pub slice_get-position : (keys : List K) → position_or_len test keys < length keys → slice_get (map text_of keys) (position_or_len test keys) ≡ Some name
  slice_get-position [] within = absurd (omega arith)
  slice_get-position (key ∷ keys) within = by (test key) refl (slice_get-position keys)
    where
      by : (b : Bool) → test key ≡ b → (position_or_len test keys < length keys → slice_get (map text_of keys) (position_or_len test keys) ≡ Some name) → slice_get (map text_of (key ∷ keys)) (position_or_len test (key ∷ keys)) ≡ Some name
      by true e rest = rw e (ap Some (sym ((decides key).0 e)))
      by false e rest =
          let s : 1 + position_or_len test keys ≡ suc (position_or_len test keys) = omega arith in
          let w = rw e at within in
          rw (e, s) (rest (omega arith))

  -- a listed name is found
  pub position_or_len-IsListed : (keys : List K) (index : ℕ) → slice_get (map text_of keys) index ≡ Some name → position_or_len test keys < length keys
  position_or_len-IsListed [] index e = absurd (none-some _ e)
  position_or_len-IsListed (key ∷ keys) zero e =
      let passes : test key ≡ true = (decides key).1 (sym (same_Some _ _ e)) in
      rw passes (omega arith)
  position_or_len-IsListed (key ∷ keys) (suc index) e = by (test key) refl (position_or_len-IsListed keys index e)
    where
      by : (b : Bool) → test key ≡ b → position_or_len test keys < length keys → position_or_len test (key ∷ keys) < length (key ∷ keys)
      by true e rest = rw e (omega arith)
      by false e rest = rw e (omega arith)

  -- a look-up gives an index of the name, or the name is not listed
  pub position-cases : (keys : List K) → MatchOption (position test keys) (IsListed (map text_of keys) name → ⊥) (λ index. slice_get (map text_of keys) index ≡ Some name)
  position-cases keys = by (nat_lt first (length keys)) (Decides-ltb first (length keys))
    where
      first : ℕ
      first = position_or_len test keys

      by : (b : Bool) → Decides b (position_or_len test keys < length keys) → MatchOption (cond b (Some (position_or_len test keys)) None) (IsListed (map text_of keys) name → ⊥) (λ index. slice_get (map text_of keys) index ≡ Some name)
      by true tells = slice_get-position keys (tells.0 refl)
      by false tells = λ h. true≢false (sym (tells.1 (position_or_len-IsListed keys h.0 h.1)))

-- a pair whose name is not listed goes last
pub insert_entry-fresh : {K V : Type 0} (eq : K → K → Bool) (text_of : K → List ℕ) → ((a b : K) → Decides (eq a b) (text_of a ≡ text_of b)) → (es : List (K × V)) (key : K) (value : V) → (IsListed (map text_of (keys_of es)) (text_of key) → ⊥) → insert_entry eq es key value ≡ es ++ (key, value) ∷ []
insert_entry-fresh eq text_of decides [] key value fresh = refl
insert_entry-fresh {K} {V} eq text_of decides (e ∷ es) key value fresh =
    by (eq key e.0) (decides key e.0) refl (insert_entry-fresh eq text_of decides es key value (λ h. fresh (suc h.0, h.1)))
  where
    by : (b : Bool) → Decides b (text_of key ≡ text_of e.0) → eq key e.0 ≡ b → insert_entry eq es key value ≡ es ++ (key, value) ∷ [] → insert_entry eq (e ∷ es) key value ≡ (e ∷ es) ++ (key, value) ∷ []
    by true tells is rest = absurd (fresh (0, ap Some (sym (tells.0 refl))))
    by false tells is rest = rw is (ap (λ (tail : List (K × V)). e ∷ tail) rest)

-- a search through lent texts is one through the texts
pub list_any-lent : (words : List (Bor (List ℕ))) (name : List ℕ) → list_any (λ word. bytes_eq word.now name) words ≡ list_any (λ text. bytes_eq text name) (map (λ word. word.now) words)
list_any-lent [] name = refl
list_any-lent (word ∷ words) name = ap (λ (b : Bool). bytes_eq word.now name || b) (list_any-lent words name)
