-- Groups of points by their keys, as far as a list of waiting points has come.
use Rattle.std.proofs.Common.{◌≡◌, ℕ, zero, suc, ◌+◌, ◌<◌, ◌≤◌, ◌⊎◌, Bool, true, false, ◌&&◌, ◌||◌, List, [], ◌∷◌, ◌++◌, length, take, get_or, set, Some, nat_eq, All, refl, sym, ap, subst, ◌∙◌, inl, inr, arith, true≢false, get_or-set_same, get_or-set_other, length-append}
use Rattle.std.proofs.lemmas.Bool.{eqb-true, eqb-false, eq-eqb}
use Rattle.std.proofs.lemmas.Option.{same_Some, none-some}
use Rattle.std.proofs.lemmas.List.Elements.{All-from_get_or}
use Rattle.ct_lemmas.proofs.Booleans.{both_parts, both_true, or_cases, or_false, or_left, or_right}
use Rattle.indexmap.specs.IndexMap.{IndexMap, get}
use Rattle.std.specs.Map.{lookup}
use Rattle.ct_partition.specs.declared.key.Key.{Key}
use Rattle.ct_partition.specs.KeyTest.{same_key}
use Rattle.ct_partition.specs.Points.{Points}
use Rattle.ct_partition.specs.Sets.{has, row_at, IsSaturated}
use Rattle.ct_partition.specs.Refinement.{KeepsTogether, key_of}
use Rattle.ct_partition.proofs.SetLemmas.{same_tests, has-nil, has-more, has-push, has-All, All-from_has}
use Rattle.ct_partition.proofs.AgreeLemmas.{IsClosed}
use Rattle.ct_partition.proofs.SaturatedLemmas.{keys_together}

-- ---- rows

-- an empty row after the last changes no row
pub row_at-empty : (rows : List (List ℕ)) (g : ℕ) → row_at (rows ++ [] ∷ []) g ≡ row_at rows g
row_at-empty [] zero = refl
row_at-empty [] (suc g) = refl
row_at-empty (row ∷ rows) zero = refl
row_at-empty (row ∷ rows) (suc g) = row_at-empty rows g

put_at : (rows : List (List ℕ)) (group i g j : ℕ) (same : Bool) → nat_eq group g ≡ same → group < length rows → has (row_at (set rows group (row_at rows group ++ i ∷ [])) g) j ≡ (has (row_at rows g) j || (same && nat_eq i j))
put_at rows group i g j true e within =
    let here : g ≡ group = sym (eqb-true group g e) in
    ap (λ n. has (row_at (set rows group (row_at rows group ++ i ∷ [])) n) j) here ∙ ap (λ (row : List ℕ). has row j) (get_or-set_same rows group (row_at rows group ++ i ∷ []) [] within) ∙ has-push (row_at rows group) i j ∙ ap (λ n. has (row_at rows n) j || nat_eq i j) (sym here)
put_at rows group i g j false e within =
    ap (λ (row : List ℕ). has row j) (get_or-set_other rows group g (row_at rows group ++ i ∷ []) [] (λ same. eqb-false group g e (sym same))) ∙ sym (or_false (has (row_at rows g) j))

-- a point at the end of one row
pub row_at-put : (rows : List (List ℕ)) (group i : ℕ) → group < length rows → (g j : ℕ) → has (row_at (set rows group (row_at rows group ++ i ∷ [])) g) j ≡ (has (row_at rows g) j || (nat_eq group g && nat_eq i j))
row_at-put rows group i within g j = put_at rows group i g j (nat_eq group g) refl within

-- ---- groups

-- the points of the set are in groups: each in the one whose number its key has
pub record AreGrouped {S : Type 0} (p : Points) (blocks taken : List ℕ) (known : IndexMap Key ℕ S) (groups : List (List ℕ)) : Type 0 where
  pub range : (key : Key) (g : ℕ) → get same_key known key ≡ Some g → g < length groups
  pub grouped : (i : ℕ) → has taken i ≡ true → (g : ℕ) × (get same_key known (key_of p blocks i) ≡ Some g) × (has (row_at groups g) i ≡ true)
  pub only : (g i : ℕ) → has (row_at groups g) i ≡ true → (get same_key known (key_of p blocks i) ≡ Some g) × (has taken i ≡ true)

-- the number of the next key is that of a group or the next number
pub next_group : {S : Type 0} (p : Points) (blocks taken : List ℕ) (known more : IndexMap Key ℕ S) (groups : List (List ℕ)) (count : ℕ) (key : Key) (g : ℕ) → count ≡ length groups → AreGrouped p blocks taken known groups → get same_key more key ≡ Some g → ((k : Key) (n : ℕ) → get same_key more k ≡ Some n → (get same_key known k ≡ Some n) ⊎ ((k ≡ key) × (n ≡ count))) → g ≤ length groups
next_group p blocks taken known more groups count key g counted grouped found only =
    elim (only key g found) [
      | inl had ↦ let low = grouped.range key g had in omega arith
      | inr new ↦ let same = new.1 in omega arith
    ]

-- one more point, in the group of its key
pub AreGrouped-more : {S : Type 0} (p : Points) (blocks waiting : List ℕ) (k d : ℕ) (known more : IndexMap Key ℕ S) (groups next : List (List ℕ)) (count : ℕ) (key : Key) (group : ℕ) → k < length waiting → count ≡ length groups → AreGrouped p blocks (take k waiting) known groups → key_of p blocks (get_or waiting k d) ≡ key → get same_key more key ≡ Some group → ((q : Key) (n : ℕ) → get same_key known q ≡ Some n → get same_key more q ≡ Some n) → ((q : Key) (n : ℕ) → get same_key more q ≡ Some n → (get same_key known q ≡ Some n) ⊎ ((q ≡ key) × (n ≡ count))) → group < length next → length groups ≤ length next → ((g j : ℕ) → has (row_at next g) j ≡ (has (row_at groups g) j || (nat_eq group g && nat_eq (get_or waiting k d) j))) → AreGrouped p blocks (take (k + 1) waiting) more next
AreGrouped-more p blocks waiting k d known more groups next count key group within counted grouped at found stay only room longer put = record {
  range = λ q n h. elim (only q n h) [
    | inl had ↦ let low = grouped.range q n had in omega arith
    | inr new ↦
        let same : group ≡ n = same_Some group n (sym found ∙ ap (get same_key more) (sym new.0) ∙ h) in
        subst (λ m. m < length next) same room
  ];
  grouped = λ i h. grouped_at i (or_cases (has (take k waiting) i) (nat_eq (get_or waiting k d) i) (sym (has-more waiting k d i within) ∙ h));
  only = λ g i h. only_at g i (or_cases (has (row_at groups g) i) (nat_eq group g && nat_eq (get_or waiting k d) i) (sym (put g i) ∙ h));
}
  where
    grouped_at : (i : ℕ) → (has (take k waiting) i ≡ true) ⊎ (nat_eq (get_or waiting k d) i ≡ true) → (g : ℕ) × (get same_key more (key_of p blocks i) ≡ Some g) × (has (row_at next g) i ≡ true)
    grouped_at i (inl before) =
        let old = grouped.grouped i before in
        (old.0, stay (key_of p blocks i) old.0 old.1, put old.0 i ∙ or_left (has (row_at groups old.0) i) (nat_eq group old.0 && nat_eq (get_or waiting k d) i) old.2)
    grouped_at i (inr here) =
        let same = eqb-true (get_or waiting k d) i here in (
          group,
          ap (λ n. get same_key more (key_of p blocks n)) (sym same) ∙ ap (get same_key more) at ∙ found,
          put group i ∙ or_right (has (row_at groups group) i) (nat_eq group group && nat_eq (get_or waiting k d) i) (both_true (nat_eq group group) (nat_eq (get_or waiting k d) i) (eq-eqb group group refl) here),
        )

    only_at : (g i : ℕ) → (has (row_at groups g) i ≡ true) ⊎ ((nat_eq group g && nat_eq (get_or waiting k d) i) ≡ true) → (get same_key more (key_of p blocks i) ≡ Some g) × (has (take (k + 1) waiting) i ≡ true)
    only_at g i (inl before) =
        let old = grouped.only g i before in (
          stay (key_of p blocks i) g old.0,
          has-more waiting k d i within ∙ or_left (has (take k waiting) i) (nat_eq (get_or waiting k d) i) old.1,
        )
    only_at g i (inr new) =
        let parts = both_parts (nat_eq group g) (nat_eq (get_or waiting k d) i) new in
        let same = eqb-true (get_or waiting k d) i parts.1 in (
          ap (λ n. get same_key more (key_of p blocks n)) (sym same) ∙ ap (get same_key more) at ∙ found ∙ ap Some (eqb-true group g parts.0),
          has-more waiting k d i within ∙ or_right (has (take k waiting) i) (nat_eq (get_or waiting k d) i) parts.1,
        )

-- the groups of a set have points of it
pub AreGrouped-within : {S : Type 0} (p : Points) (blocks waiting : List ℕ) (count : ℕ) (known : IndexMap Key ℕ S) (groups : List (List ℕ)) → AreGrouped p blocks waiting known groups → All (λ i. i < count) waiting → All (λ group. All (λ i. i < count) group) groups
AreGrouped-within p blocks waiting count known groups grouped inside =
    All-from_get_or (λ group. All (λ i. i < count) group) groups [] (λ g within.
    All-from_has (λ i. i < count) (row_at groups g) (λ i h. has-All (λ n. n < count) waiting i inside (grouped.only g i h).1))

-- the groups of a saturated set are saturated
one_way : {S : Type 0} (p : Points) (blocks waiting : List ℕ) (known : IndexMap Key ℕ S) (groups : List (List ℕ)) (g i j : ℕ) → AreGrouped p blocks waiting known groups → key_of p blocks i ≡ key_of p blocks j → has waiting i ≡ has waiting j → has (row_at groups g) i ≡ true → has (row_at groups g) j ≡ true
one_way p blocks waiting known groups g i j grouped keys sets h =
    let mine = grouped.only g i h in
    let other = grouped.grouped j (sym sets ∙ mine.1) in
    let same : other.0 ≡ g = same_Some other.0 g (sym other.1 ∙ ap (get same_key known) (sym keys) ∙ mine.0) in
    subst (λ n. has (row_at groups n) j ≡ true) same other.2

pub AreGrouped-saturated : {S : Type 0} (p : Points) (blocks waiting : List ℕ) (known : IndexMap Key ℕ S) (groups : List (List ℕ)) → IsClosed p → KeepsTogether p blocks → IsSaturated p waiting → AreGrouped p blocks waiting known groups → All (λ group. IsSaturated p group) groups
AreGrouped-saturated p blocks waiting known groups closed keeps saturated grouped =
    All-from_get_or (λ group. IsSaturated p group) groups [] (λ g within i j i_in j_in alike.
    let keys = keys_together p blocks i j closed keeps i_in j_in alike in
    let sets = saturated i j i_in j_in alike in
    same_tests
    (has (row_at groups g) i)
    (has (row_at groups g) j)
    (one_way p blocks waiting known groups g i j grouped keys sets)
    (one_way p blocks waiting known groups g j i grouped (sym keys) (sym sets)))

-- no points are in no groups
pub AreGrouped-none : {S : Type 0} (p : Points) (blocks : List ℕ) (known : IndexMap Key ℕ S) → known.entries ≡ [] → AreGrouped p blocks [] known []
AreGrouped-none p blocks known empty = record {
  range = λ key g h. absurd (none-some g (sym (ap (lookup (same_key key)) empty) ∙ h));
  grouped = λ i h. absurd (true≢false (sym h ∙ has-nil i));
  only = λ g i h. absurd (true≢false (sym h ∙ row_nil g i));
}
  where
    row_nil : (g i : ℕ) → has (row_at [] g) i ≡ false
    row_nil zero i = has-nil i
    row_nil (suc g) i = has-nil i

-- ---- one more point in a row

-- the rows, and perhaps an empty one after them, among which there is the group
pub record HaveRow (old rows : List (List ℕ)) (group : ℕ) : Type 0 where
  pub room : group < length rows
  pub longer : length old ≤ length rows
  pub same : (g : ℕ) → row_at rows g ≡ row_at old g

pub HaveRow-new : (old rows : List (List ℕ)) (group : ℕ) → rows ≡ old ++ [] ∷ [] → group ≡ length old → HaveRow old rows group
HaveRow-new old rows group e last =
    subst (λ (more : List (List ℕ)). HaveRow old more group) (sym e) (record {
      room = omega (arith, length-append old ([] ∷ []));
      longer = omega (arith, length-append old ([] ∷ []));
      same = row_at-empty old;
    })

pub HaveRow-old : (old rows : List (List ℕ)) (group : ℕ) → rows ≡ old → group ≤ length old → (group ≡ length old → ⊥) → HaveRow old rows group
HaveRow-old old rows group e low other =
    subst (λ (more : List (List ℕ)). HaveRow old more group) (sym e) (record { room = omega (arith, other); longer = omega arith; same = λ g. refl })

pub put_row : (old rows : List (List ℕ)) (row : List ℕ) (group i : ℕ) → HaveRow old rows group → row ≡ row_at rows group ++ i ∷ [] → (g j : ℕ) → has (row_at (set rows group row) g) j ≡ (has (row_at old g) j || (nat_eq group g && nat_eq i j))
put_row old rows row group i have e g j =
    ap (λ (xs : List ℕ). has (row_at (set rows group xs) g) j) e ∙ row_at-put rows group i have.room g j ∙ ap (λ (xs : List ℕ). has xs j || (nat_eq group g && nat_eq i j)) (have.same g)
