-- Tables of signatures: that no signature stands twice, and under which one a term stands.
use Rattle.std.proofs.Common.{◌≡◌, ℕ, ◌<◌, ◌↔◌, Bool, true, false, [], ◌∷◌, ◌++◌, length, slice_get, get_or, Option, Some, None, option_map, refl, sym, ap, ap₂, ◌∙◌, inl, inr, arith, true≢false}
use Rattle.std.specs.Cmp.{IsEquivalence}
use Rattle.std.specs.List.{IsDistinct}
use Rattle.std.specs.Map.{keys_of}
use Rattle.std.proofs.lemmas.Bool.{cases_lt}
use Rattle.std.proofs.lemmas.Map.Entries.{length-keys_of}
use Rattle.std.proofs.lemmas.Map.Keys.{apart_from_distinct}
use Rattle.std.proofs.lemmas.Map.Views.{hash_map_get_iff}
use Rattle.std.proofs.lemmas.Option.{slice_get-map, slice_get_within, get_or_from_slice_get}
use Rattle.ct_lemmas.proofs.Numbers.{same_or_other}
use Rattle.indexmap.specs.IndexMap.{IndexMap, IsUnique, get, insert_entry}
use Rattle.indexmap.proofs.CallerLemmas.{insert_entry-new}
use Rattle.ct_terms.specs.declared.ids.TermId.{TermId}
use Rattle.ct_terms.specs.declared.term.Core.{Core}
use Rattle.ct_terms.proofs.CoreLemmas.{Decides-same_core}
use Rattle.ct_equivalence.specs.Signatures.{Signatures, same_core, IsUnder, IsFree, AreDifferent}

-- the signature of an entry is a key, at its index
key_at : (entries : Signatures) (i : ℕ) (key : Core) (t : TermId) → slice_get entries i ≡ Some (key, t) → get_or (keys_of entries) i key ≡ key
key_at entries i key t at =
    let f : Core × TermId → Core = λ e. e.0 in
    get_or_from_slice_get (keys_of entries) i key key (slice_get-map f entries i ∙ ap (option_map f) at)

-- of two entries the signatures are not the same
apart : (entries : Signatures) (i j : ℕ) (key : Core) (t u : TermId) → IsDistinct same_core (keys_of entries) → slice_get entries i ≡ Some (key, t) → slice_get entries j ≡ Some (key, u) → i < j → ⊥
apart entries i j key t u distinct at_i at_j before =
    let within : j < length (keys_of entries) = omega (arith, slice_get_within entries j (key, u) at_j, length-keys_of entries) in
    let other : same_core (get_or (keys_of entries) i key) (get_or (keys_of entries) j key) ≡ false = apart_from_distinct same_core (keys_of entries) i j key distinct before within in
    let same : same_core key key ≡ true = (Decides-same_core key key).1 refl in
    true≢false (sym same ∙ sym (ap₂ same_core (key_at entries i key t at_i) (key_at entries j key u at_j)) ∙ other)

pub AreDifferent-unique : (entries : Signatures) → IsDistinct same_core (keys_of entries) → AreDifferent entries
AreDifferent-unique entries distinct i j key t u at_i at_j = elim (same_or_other i j) [
  | inl e ↦ e
  | inr other ↦ elim (cases_lt i j) [
    | inl before ↦ absurd (apart entries i j key t u distinct at_i at_j before)
    | inr after ↦ absurd (apart entries j i key u t distinct at_j at_i (omega arith))
  ]
]

-- a look-up by the signature finds exactly the term under it
pub exact : (a b : Core) → same_core a b ≡ true → a ≡ b
exact a b e = (Decides-same_core a b).0 e

-- tests that say the same
one_test : (b c : Bool) → (b ≡ true → c ≡ true) → (c ≡ true → b ≡ true) → b ≡ c
one_test true c there back = sym (there refl)
one_test false true there back = back refl
one_test false false there back = refl

pub laws : IsEquivalence same_core
laws = record {
  refl = λ a. (Decides-same_core a a).1 refl;
  symm = λ a b. one_test (same_core a b) (same_core b a) (λ h. (Decides-same_core b a).1 (sym (exact a b h))) (λ h. (Decides-same_core a b).1 (sym (exact b a h)));
  congr = λ a b c h. ap (λ (x : Core). same_core x c) (exact a b h);
}

module _ {S : Type 0} (table : IndexMap Core TermId S) (unique : IsUnique same_core table) where
  pub get_iff : (key : Core) (t : TermId) → (get same_core table key ≡ Some t) ↔ IsUnder table.entries key t
  get_iff key t = hash_map_get_iff laws exact table unique key t

  -- a signature under which no term stands goes to the end
  pub entries-new : (key : Core) (t : TermId) → IsFree table.entries key → insert_entry same_core table.entries key t ≡ table.entries ++ (key, t) ∷ []
  entries-new key t free = insert_entry-new same_core table key t (at (get same_core table key) refl)
    where
      at : (found : Option TermId) → get same_core table key ≡ found → get same_core table key ≡ None
      at None e = e
      at (Some u) e = absurd (free u ((get_iff key u).0 e))
