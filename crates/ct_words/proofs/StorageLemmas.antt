-- How the indices of names are stored.
use Rattle.std.proofs.Common.{◌≡◌, ℕ, ◌+◌, ◌<◌, ◌≤◌, inl, inr, List, [], ◌∷◌, length, drop, set, get_or, slice_get, Some, sym, ap, ◌∙◌, arith, length-drop, drop-drop}
use Rattle.std.proofs.lemmas.List.{get_or-set_same, get_or-set_other}
use Rattle.std.proofs.lemmas.Option.{get_or_from_slice_get}
use Rattle.ct_lemmas.proofs.Numbers.{last_or_before}
use Rattle.ct_words.specs.NameList.{names_in}
use Rattle.ct_words.specs.Storage.{AreStarts, bucket, bucket_at}
use Rattle.ct_words.proofs.NameLemmas.{slice_get-drop_cons}

-- no index has a start at first
pub AreStarts-none : (text starts : List ℕ) → AreStarts text 0 starts
AreStarts-none text starts index below = absurd (omega arith)

-- one more start is stored
pub AreStarts-more : (text starts : List ℕ) (count start : ℕ) → count < length starts → AreStarts text count starts → start ≤ length text → names_in (drop start text) ≡ drop count (names_in text) → AreStarts text (count + 1) (set starts count start)
AreStarts-more text starts count start room stored within begins index below = elim (last_or_before index count below) [
  | inl earlier ↦ rw (get_or-set_other starts count index start 0 (λ e. omega arith)) (stored index earlier)
  | inr same ↦ rw (same, get_or-set_same starts count start 0 room) (within, begins)
]

-- the names after the first one are those from the next index on
pub names_in-next : (text : List ℕ) (start index n : ℕ) (name : List ℕ) → names_in (drop start text) ≡ drop index (names_in text) → names_in (drop start text) ≡ name ∷ names_in (drop (n + 1) (drop start text)) → names_in (drop (start + (n + 1)) text) ≡ drop (index + 1) (names_in text)
names_in-next text start index n name here first =
    ap names_in (sym (drop-drop (n + 1) start text)) ∙ ap (drop 1) (sym first ∙ here) ∙ drop-drop 1 index (names_in text)

-- where a name starts, there is one
pub starts-named : (text starts : List ℕ) (count index : ℕ) → AreStarts text count starts → length (names_in text) ≡ count → index < count → 0 < length (names_in (drop (get_or starts index 0) text))
starts-named text starts count index stored counted below =
    let same : length (names_in (drop (get_or starts index 0) text)) ≡ length (drop index (names_in text)) = ap length (stored index below).1 in
    let l = length-drop index (names_in text) in
    omega arith

-- the first name from a start on is the name at the index
pub starts-name : (text starts : List ℕ) (count index : ℕ) (name : List ℕ) (others : List (List ℕ)) → AreStarts text count starts → index < count → names_in (drop (get_or starts index 0) text) ≡ name ∷ others → slice_get (names_in text) index ≡ Some name
starts-name text starts count index name others stored below first =
    slice_get-drop_cons (names_in text) index name others (sym (stored index below).1 ∙ first)

-- the bucket of an index is that of its name
pub bucket_at-name : (names : List (List ℕ)) (index : ℕ) (name : List ℕ) → slice_get names index ≡ Some name → bucket_at names index ≡ bucket name
bucket_at-name names index name at = ap bucket (get_or_from_slice_get names index name [] at)
