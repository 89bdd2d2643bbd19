-- Rows of terms: what one that is lengthened is, and that it is as before when it is cut.
use Rattle.std.proofs.Common.{◌≡◌, ℕ, ◌<◌, List, [], ◌++◌, length, set, take, map, slice_get, get_or, Some, Vec, refl, sym, ap, ap₂, ◌∙◌, subst}
use Rattle.std.proofs.lemmas.List.{length-set, map-set, set-set, set_comm, set-get_or, get_or-set_same, get_or-set_other, get_or-map, take_at}
use Rattle.std.proofs.lemmas.Option.{slice_get-get_or, get_or_from_slice_get}
use Rattle.ct_lemmas.proofs.Lists.{slice_get-set_other, slice_get-set_same}
use Rattle.ct_terms.specs.declared.ids.TermId.{TermId}
use Rattle.ct_equivalence.specs.Undoing.{row_of, cut_row}
use Rattle.ct_equivalence.specs.Union.{AreRowsJoined}
use Rattle.ct_equivalence.proofs.ListLemmas.{other_number}

-- the row of a term that has one
pub row_of-at : (rows : List (List TermId)) (t : TermId) → t.0 < length rows → slice_get rows t.0 ≡ Some (row_of rows t)
row_of-at rows t within = slice_get-get_or rows t.0 [] within

pub row_of-is : (rows : List (List TermId)) (t : TermId) (row : List TermId) → slice_get rows t.0 ≡ Some row → row_of rows t ≡ row
row_of-is rows t row at = get_or_from_slice_get rows t.0 row [] at

-- a row that was written
pub row_of-set : (rows : List (List TermId)) (t : TermId) (row : List TermId) → t.0 < length rows → row_of (set rows t.0 row) t ≡ row
row_of-set rows t row within = get_or-set_same rows t.0 row [] within

-- ---- rows in a list of vectors

-- the row of a term, as it is read
pub row_of-read : {A : Type 0} (rows : List (Vec TermId A)) (t : TermId) (row : Vec TermId A) → t.0 < length rows → row ≡ get_or rows t.0 row → row_of (map (λ v. v.items) rows) t ≡ row.items
row_of-read {A} rows t row within read =
    let f : Vec TermId A → List TermId = λ v. v.items in
    get_or-map f rows t.0 row [] within ∙ ap f (sym read)

-- one row is written
pub map-written : {A : Type 0} (rows : List (Vec TermId A)) (i : ℕ) (row : Vec TermId A) (items : List TermId) → row.items ≡ items → map (λ v. v.items) (set rows i row) ≡ set (map (λ v. v.items) rows) i items
map-written {A} rows i row items is =
    let f : Vec TermId A → List TermId = λ v. v.items in
    map-set f rows i row ∙ ap (set (map f rows) i) is

-- a row is taken out while another one is written, and put back
put_back : (rows : List (List TermId)) (into from : TermId) (none joined : List TermId) → (into ≡ from → ⊥) → set (set (set rows from.0 none) into.0 joined) from.0 (row_of rows from) ≡ set rows into.0 joined
put_back rows into from none joined apart =
    let other : from.0 ≡ into.0 → ⊥ = other_number from into (λ e. apart (sym e)) in
    let more = set rows into.0 joined in
    ap (λ (list : List (List TermId)). set list from.0 (row_of rows from)) (set_comm rows from.0 into.0 none joined other)
    ∙ set-set more from.0 none (row_of rows from)
    ∙ ap (set more from.0) (sym (get_or-set_other rows into.0 from.0 joined [] other))
    ∙ set-get_or more from.0 []

module _ {A : Type 0} (rows : List (Vec TermId A)) (into from : TermId) (none mine joined moved : Vec TermId A) (apart : into ≡ from → ⊥) (into_in : into.0 < length rows) (from_in : from.0 < length rows) (moved_is : moved ≡ get_or rows from.0 moved) (mine_is : mine ≡ get_or (set rows from.0 none) into.0 mine) where
  pub row_of-mine : row_of (map (λ v. v.items) rows) into ≡ mine.items
  row_of-mine = row_of-read rows into mine into_in (mine_is ∙ get_or-set_other rows from.0 into.0 none mine (other_number into from apart))

  pub row_of-moved : row_of (map (λ v. v.items) rows) from ≡ moved.items
  row_of-moved = row_of-read rows from moved from_in moved_is

  pub map-appended : (items : List TermId) → joined.items ≡ items → map (λ v. v.items) (set (set (set rows from.0 none) into.0 joined) from.0 moved) ≡ set (map (λ v. v.items) rows) into.0 items
  map-appended items is =
      let first = map-written rows from.0 none none.items refl in
      let second = map-written (set rows from.0 none) into.0 joined items is ∙ ap (λ (list : List (List TermId)). set list into.0 items) first in
      map-written (set (set rows from.0 none) into.0 joined) from.0 moved (row_of (map (λ v. v.items) rows) from) (sym row_of-moved)
      ∙ ap (λ (list : List (List TermId)). set list from.0 (row_of (map (λ v. v.items) rows) from)) second
      ∙ put_back (map (λ v. v.items) rows) into from none.items items apart

  -- where nothing was put to its end
  pub map-unchanged : joined.items ≡ mine.items → map (λ v. v.items) (set (set (set rows from.0 none) into.0 joined) from.0 moved) ≡ map (λ v. v.items) rows
  map-unchanged is = map-appended (row_of (map (λ v. v.items) rows) into) (is ∙ sym row_of-mine) ∙ set-get_or (map (λ v. v.items) rows) into.0 []

-- ---- a row with more at its end
pub AreRowsJoined-set : (old new : List (List TermId)) (winner loser : TermId) → winner.0 < length old → new ≡ set old winner.0 (row_of old winner ++ row_of old loser) → AreRowsJoined old new winner loser
AreRowsJoined-set old new winner loser within is =
    subst (λ (rows : List (List TermId)). AreRowsJoined old rows winner loser) (sym is) (record {
      long = length-set old winner.0 (row_of old winner ++ row_of old loser);
      others = λ k other. slice_get-set_other old winner.0 k (row_of old winner ++ row_of old loser) other;
      joined = λ mine moved at_winner at_loser.
          slice_get-set_same old winner.0 (row_of old winner ++ row_of old loser) within
          ∙ ap Some (ap₂ (λ (xs ys : List TermId). xs ++ ys) (row_of-is old winner mine at_winner) (row_of-is old loser moved at_loser));
    })

-- cut to its old length it is as it was
pub cut_row-back : (rows : List (List TermId)) (t : TermId) (more : List TermId) → t.0 < length rows → cut_row (set rows t.0 (row_of rows t ++ more)) t (length (row_of rows t)) ≡ rows
cut_row-back rows t more within =
    let row = row_of rows t in
    let longer = set rows t.0 (row ++ more) in
    let cut : take (length row) (row_of longer t) ≡ row = ap (take (length row)) (row_of-set rows t (row ++ more) within) ∙ take_at row more (length row) refl in
    ap (set longer t.0) cut ∙ set-set rows t.0 (row ++ more) row ∙ set-get_or rows t.0 []
