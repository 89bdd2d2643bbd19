-- A round of refinement, as far as it has come: the map has for each key that a point had the first such point.
use Rattle.std.proofs.Common.{◌≡◌, ℕ, zero, suc, ◌+◌, ◌<◌, ◌≤◌, ◌⊎◌, List, [], ◌∷◌, ◌++◌, length, Some, refl, sym, ap, ◌∙◌, inl, inr, arith, length-append, eq-or-lt_of_le}
use Rattle.std.proofs.lemmas.Option.{same_Some}
use Rattle.indexmap.specs.IndexMap.{IndexMap, get}
use Rattle.ct_partition.specs.declared.key.Key.{Key}
use Rattle.ct_partition.specs.KeyTest.{same_key}
use Rattle.ct_partition.specs.Points.{Points}
use Rattle.ct_partition.specs.Partition.{block_at}
use Rattle.ct_partition.specs.Refinement.{key_of, IsRefined}

-- the points before this one have their blocks
pub record IsRound {S : Type 0} (p : Points) (old : List ℕ) (representatives : IndexMap Key ℕ S) (next : List ℕ) (index : ℕ) : Type 0 where
  pub long : length next ≡ index
  pub early : (i : ℕ) → block_at next i ≤ i
  pub stored : (i : ℕ) → i < index → get same_key representatives (key_of p old i) ≡ Some (block_at next i)
  pub first : (key : Key) (n : ℕ) → get same_key representatives key ≡ Some n → (n < index) × (key_of p old n ≡ key)

-- a block among those so far, and the one that is added
block_at-before : (xs : List ℕ) (x i : ℕ) → i < length xs → block_at (xs ++ x ∷ []) i ≡ block_at xs i
block_at-before [] x i h = absurd (omega arith)
block_at-before (y ∷ ys) x zero h = refl
block_at-before (y ∷ ys) x (suc i) h = block_at-before ys x i (omega arith)

block_at-last : (xs : List ℕ) (x : ℕ) → block_at (xs ++ x ∷ []) (length xs) ≡ x
block_at-last [] x = refl
block_at-last (y ∷ ys) x = block_at-last ys x

early-push : (xs : List ℕ) (x d : ℕ) → x ≤ length xs + d → ((i : ℕ) → block_at xs i ≤ i + d) → (i : ℕ) → block_at (xs ++ x ∷ []) i ≤ i + d
early-push [] x d last early zero = omega arith
early-push [] x d last early (suc i) = omega arith
early-push (y ∷ ys) x d last early zero = early 0
early-push (y ∷ ys) x d last early (suc i) =
    let more : (j : ℕ) → block_at ys j ≤ j + suc d = λ j. let e : block_at ys j ≤ suc j + d = early (suc j) in omega arith in
    let e : block_at (ys ++ x ∷ []) i ≤ i + suc d = early-push ys x (suc d) (omega arith) more i in
    omega arith

early-last : (xs : List ℕ) (x index : ℕ) → length xs ≡ index → x ≤ index → ((i : ℕ) → block_at xs i ≤ i) → (i : ℕ) → block_at (xs ++ x ∷ []) i ≤ i
early-last xs x index long last early i =
    let e : block_at (xs ++ x ∷ []) i ≤ i + 0 = early-push xs x 0 (omega arith) (λ j. let b : block_at xs j ≤ j = early j in omega arith) i in
    omega arith

-- an index below the next one is this one or comes before it
pub last_or_before : (i index : ℕ) → i < index + 1 → (i ≡ index) ⊎ (i < index)
last_or_before i index h = eq-or-lt_of_le (below h)
  where
    below : i < index + 1 → i ≤ index
    below h = omega arith

-- one more point
pub IsRound-push : {S : Type 0} (p : Points) (old : List ℕ) (representatives more : IndexMap Key ℕ S) (next : List ℕ) (index n : ℕ) (key : Key) → IsRound p old representatives next index → key_of p old index ≡ key → get same_key more key ≡ Some n → ((k : Key) (m : ℕ) → get same_key representatives k ≡ Some m → get same_key more k ≡ Some m) → ((k : Key) (m : ℕ) → get same_key more k ≡ Some m → (get same_key representatives k ≡ Some m) ⊎ ((k ≡ key) × (m ≡ index))) → IsRound p old more (next ++ n ∷ []) (index + 1)
IsRound-push p old representatives more next index n key round at found stay only =
    let last : n ≤ index = elim (only key n found) [
      | inl had ↦ let before = round.first key n had in omega (arith, before.0)
      | inr new ↦ omega (arith, new.1)
    ] in
    record {
      long = omega (arith, round.long, length-append next (n ∷ []));
      early = early-last next n index round.long last round.early;
      stored = λ i within. stored_at i (last_or_before i index within);
      first = λ k m h. elim (only k m h) [
        | inl had ↦ let before = round.first k m had in (omega (arith, before.0), before.1)
        | inr new ↦ (omega (arith, new.1), ap (key_of p old) new.1 ∙ at ∙ sym new.0)
      ];
    }
  where
    stored_at : (i : ℕ) → (i ≡ index) ⊎ (i < index) → get same_key more (key_of p old i) ≡ Some (block_at (next ++ n ∷ []) i)
    stored_at i (inl e) =
        ap (λ (j : ℕ). get same_key more (key_of p old j)) e ∙ ap (get same_key more) at ∙ found ∙ ap Some (sym (ap (block_at (next ++ n ∷ [])) (e ∙ sym round.long) ∙ block_at-last next n))
    stored_at i (inr before) =
        stay (key_of p old i) (block_at next i) (round.stored i before) ∙ ap Some (sym (block_at-before next n i (omega (arith, round.long))))

-- after the last point the round is done
pub IsRefined-round : {S : Type 0} (p : Points) (old : List ℕ) (representatives : IndexMap Key ℕ S) (next : List ℕ) (index : ℕ) → index ≡ length old → IsRound p old representatives next index → IsRefined p old next
IsRefined-round p old representatives next index all round = record {
  long = round.long ∙ all;
  early = round.early;
  alike = λ i within. (round.first (key_of p old i) (block_at next i) (round.stored i (omega arith))).1;
  together = λ i j i_in j_in e.
      same_Some (block_at next i) (block_at next j) (sym (round.stored i (omega arith)) ∙ ap (get same_key representatives) e ∙ round.stored j (omega arith));
}
