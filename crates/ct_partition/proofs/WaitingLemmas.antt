-- Parents: rows that get one more parent, and the points in the rows of a set.
use Rattle.std.proofs.Common.{◌≡◌, ℕ, zero, suc, ◌+◌, ◌<◌, ◌≤◌, Bool, true, false, ◌&&◌, ◌||◌, List, [], ◌∷◌, ◌++◌, length, take, get_or, slice_index, set, nat_eq, nat_lt, All, refl, sym, ap, ap₂, subst, ◌∙◌, inl, inr, arith, true≢false, get_or-set_other, length-set}
use Rattle.std.proofs.lemmas.List.{take_more}
use Rattle.std.proofs.lemmas.Bool.{eqb-true, eqb-false, eq-eqb, ltb-true, lt-ltb}
use Rattle.std.proofs.lemmas.List.Elements.{All-set, All-nil, All-cons, All-from_get_or}
use Rattle.ct_lemmas.proofs.Booleans.{both_parts, or_assoc, or_cases, or_false, or_left, or_right, or_true}
use Rattle.ct_partition.specs.Sets.{has, row_at, IsSaturated}
use Rattle.ct_partition.specs.Blocks.{AreBlocks, KeepAlike}
use Rattle.ct_partition.specs.Points.{Points}
use Rattle.ct_partition.specs.Parents.{AreParents, in_row_of}
use Rattle.ct_partition.proofs.RoundLemmas.{last_or_before}
use Rattle.ct_partition.proofs.GroupLemmas.{row_at-put}
use Rattle.ct_partition.proofs.SetLemmas.{same_tests, All-from_has, or-old, has-nil, has-more, has-push}

in_row-push : (rows : List (List ℕ)) (set : List ℕ) (x i : ℕ) → in_row_of rows (set ++ x ∷ []) i ≡ (in_row_of rows set i || has (row_at rows x) i)
in_row-push rows [] x i = or_false (has (row_at rows x) i)
in_row-push rows (y ∷ set) x i =
    ap (λ b. has (row_at rows y) i || b) (in_row-push rows set x i) ∙ sym (or_assoc (has (row_at rows y) i) (in_row_of rows set i) (has (row_at rows x) i))

-- one more of the set
pub in_row-more : (rows : List (List ℕ)) (set : List ℕ) (k d i : ℕ) → k < length set → in_row_of rows (take (k + 1) set) i ≡ (in_row_of rows (take k set) i || has (row_at rows (get_or set k d)) i)
in_row-more rows set k d i within = ap (λ (xs : List ℕ). in_row_of rows xs i) (take_more set k d within) ∙ in_row-push rows (take k set) (get_or set k d) i

-- no stamp is above this one; the points that have it wait; and what waits waited before or is in the set
pub record AreStamped (old before set : List ℕ) (stamp : ℕ) (stamps waiting : List ℕ) : Type 0 where
  pub long : length stamps ≡ length old
  pub low : All (λ s. s ≤ stamp) stamps
  pub stamped : (i : ℕ) → i < length stamps → slice_index stamps i ≡ stamp → has waiting i ≡ true
  pub added : (i : ℕ) → has waiting i ≡ (has before i || has set i)

pub AreStamped-none : (old before : List ℕ) (stamp : ℕ) → All (λ s. s ≤ stamp) old → ((i : ℕ) → i < length old → slice_index old i ≡ stamp → has before i ≡ true) → AreStamped old before [] stamp old before
AreStamped-none old before stamp low stamped = record {
  long = refl;
  low = low;
  stamped = stamped;
  added = λ i. sym (ap (λ b. has before i || b) (has-nil i) ∙ or_false (has before i));
}

-- one more point that has the stamp
pub AreStamped-old : (old before points : List ℕ) (k d stamp : ℕ) (stamps waiting : List ℕ) → k < length points → get_or points k d < length stamps → slice_index stamps (get_or points k d) ≡ stamp → AreStamped old before (take k points) stamp stamps waiting → AreStamped old before (take (k + 1) points) stamp stamps waiting
AreStamped-old old before points k d stamp stamps waiting within inside here done = record {
  long = done.long;
  low = done.low;
  stamped = done.stamped;
  added = λ i.
      sym (or-old (has waiting i) (nat_eq (get_or points k d) i) (λ e. subst (λ n. has waiting n ≡ true) (eqb-true (get_or points k d) i e) (done.stamped (get_or points k d) inside here))) ∙ more before points k d i waiting within done.added;
}
  where
    more : (before points : List ℕ) (k d i : ℕ) (waiting : List ℕ) → k < length points → ((j : ℕ) → has waiting j ≡ (has before j || has (take k points) j)) → (has waiting i || nat_eq (get_or points k d) i) ≡ (has before i || has (take (k + 1) points) i)
    more before points k d i waiting within added =
        ap (λ b. b || nat_eq (get_or points k d) i) (added i) ∙ or_assoc (has before i) (has (take k points) i) (nat_eq (get_or points k d) i) ∙ ap (λ b. has before i || b) (sym (has-more points k d i within))

-- one more point that gets it
pub AreStamped-new : (old before points : List ℕ) (k d stamp : ℕ) (stamps waiting : List ℕ) → k < length points → get_or points k d < length stamps → AreStamped old before (take k points) stamp stamps waiting → AreStamped old before (take (k + 1) points) stamp (set stamps (get_or points k d) stamp) (waiting ++ get_or points k d ∷ [])
AreStamped-new old before points k d stamp stamps waiting within inside done = record {
  long = length-set stamps (get_or points k d) stamp ∙ done.long;
  low = All-set (λ s. s ≤ stamp) stamps (get_or points k d) stamp (omega arith) done.low;
  stamped = λ i i_in h. has-push waiting (get_or points k d) i ∙ stamped_at i (subst (λ n. i < n) (length-set stamps (get_or points k d) stamp) i_in) h (nat_eq (get_or points k d) i) refl;
  added = λ i.
      has-push waiting (get_or points k d) i ∙ ap (λ b. b || nat_eq (get_or points k d) i) (done.added i) ∙ or_assoc (has before i) (has (take k points) i) (nat_eq (get_or points k d) i) ∙ ap (λ b. has before i || b) (sym (has-more points k d i within));
}
  where
    stamped_at : (i : ℕ) → i < length stamps → slice_index (set stamps (get_or points k d) stamp) i ≡ stamp → (same : Bool) → nat_eq (get_or points k d) i ≡ same → (has waiting i || same) ≡ true
    stamped_at i i_in h true e = or_true (has waiting i)
    stamped_at i i_in h false e =
        or_left (has waiting i) false (done.stamped i i_in (sym (get_or-set_other stamps (get_or points k d) i stamp 0 (λ same. eqb-false (get_or points k d) i e (sym same))) ∙ h))

-- ---- parents

-- a parent is in the rows of the children of the set
pub record IsParentAdded (old : List (List ℕ)) (parent : ℕ) (set : List ℕ) (rows : List (List ℕ)) : Type 0 where
  pub long : length rows ≡ length old
  pub added : (child i : ℕ) → has (row_at rows child) i ≡ (has (row_at old child) i || (nat_eq parent i && has set child))

pub IsParentAdded-none : (old : List (List ℕ)) (parent : ℕ) → IsParentAdded old parent [] old
IsParentAdded-none old parent = record {
  long = refl;
  added = λ child i. sym (ap (λ b. has (row_at old child) i || (nat_eq parent i && b)) (has-nil child) ∙ nothing (has (row_at old child) i) (nat_eq parent i));
}
  where
    nothing : (a b : Bool) → (a || (b && false)) ≡ a
    nothing true b = refl
    nothing false true = refl
    nothing false false = refl

one_more : (h a b c : Bool) → ((h || (a && b)) || (c && a)) ≡ (h || (a && (b || c)))
one_more true a b c = refl
one_more false true true c = refl
one_more false true false true = refl
one_more false true false false = refl
one_more false false b true = refl
one_more false false b false = refl

pub IsParentAdded-more : (old : List (List ℕ)) (parent : ℕ) (children : List ℕ) (k d : ℕ) (rows : List (List ℕ)) (row : List ℕ) → k < length children → get_or children k d < length old → row ≡ row_at rows (get_or children k d) ++ parent ∷ [] → IsParentAdded old parent (take k children) rows → IsParentAdded old parent (take (k + 1) children) (set rows (get_or children k d) row)
IsParentAdded-more old parent children k d rows row within inside e done = record {
  long = length-set rows (get_or children k d) row ∙ done.long;
  added = λ child i.
      ap (λ (xs : List ℕ). has (row_at (set rows (get_or children k d) xs) child) i) e ∙ row_at-put rows (get_or children k d) parent (subst (λ n. get_or children k d < n) (sym done.long) inside) child i ∙ ap (λ b. b || (nat_eq (get_or children k d) child && nat_eq parent i)) (done.added child i) ∙ one_more (has (row_at old child) i) (nat_eq parent i) (has (take k children) child) (nat_eq (get_or children k d) child) ∙ ap (λ b. has (row_at old child) i || (nat_eq parent i && b)) (sym (has-more children k d child within));
}

-- the rows have the parents below this number
pub record AreParentsBelow (p : Points) (k : ℕ) (rows : List (List ℕ)) : Type 0 where
  pub long : length rows ≡ p.count
  pub parents : (child i : ℕ) → has (row_at rows child) i ≡ (nat_lt i k && has (p.children i) child)

pub AreParentsBelow-none : (p : Points) (rows : List (List ℕ)) → length rows ≡ p.count → ((n : ℕ) → row_at rows n ≡ []) → AreParentsBelow p 0 rows
AreParentsBelow-none p rows long empty = record {
  long = long;
  parents = λ child i. ap (λ (row : List ℕ). has row i) (empty child) ∙ has-nil i ∙ none i (has (p.children i) child) (nat_lt i 0) refl;
}
  where
    none : (i : ℕ) (h b : Bool) → nat_lt i 0 ≡ b → false ≡ (b && h)
    none i h true e = absurd (omega (arith, ltb-true i 0 e))
    none i h false e = refl

next_parent : (p : Points) (k child i : ℕ) (a b c : Bool) → nat_lt i k ≡ a → nat_eq k i ≡ b → nat_lt i (k + 1) ≡ c → ((a && has (p.children i) child) || (b && has (p.children k) child)) ≡ (c && has (p.children i) child)
next_parent p k child i true true c below same next = absurd (omega (arith, ltb-true i k below, eqb-true k i same))
next_parent p k child i true false true below same next = or_false (has (p.children i) child)
next_parent p k child i true false false below same next = absurd (true≢false (sym (lt-ltb i (k + 1) (omega (arith, ltb-true i k below))) ∙ next))
next_parent p k child i false true true below same next = ap (λ n. has (p.children n) child) (eqb-true k i same)
next_parent p k child i false true false below same next = absurd (true≢false (sym (lt-ltb i (k + 1) (omega (arith, eqb-true k i same))) ∙ next))
next_parent p k child i false false true below same next =
    let low : i < k + 1 = ltb-true i (k + 1) next in
    let other : k ≡ i → ⊥ = eqb-false k i same in
    absurd (true≢false (sym (lt-ltb i k (omega (arith, other))) ∙ below))
next_parent p k child i false false false below same next = refl

pub AreParentsBelow-more : (p : Points) (k : ℕ) (children : List ℕ) (rows more : List (List ℕ)) → children ≡ p.children k → length more ≡ length rows → ((child i : ℕ) → has (row_at more child) i ≡ (has (row_at rows child) i || (nat_eq k i && has children child))) → AreParentsBelow p k rows → AreParentsBelow p (k + 1) more
AreParentsBelow-more p k children rows more e long added done = record {
  long = long ∙ done.long;
  parents = λ child i.
      added child i ∙ ap₂ (λ (b : Bool) (xs : List ℕ). b || (nat_eq k i && has xs child)) (done.parents child i) e ∙ next_parent p k child i (nat_lt i k) (nat_eq k i) (nat_lt i (k + 1)) refl refl refl;
}

-- the rows have points
pub rows_within : (p : Points) (rows : List (List ℕ)) → AreParents p rows → All (λ row. All (λ i. i < p.count) row) rows
rows_within p rows parents =
    All-from_get_or (λ row. All (λ i. i < p.count) row) rows [] (λ child within.
    All-from_has (λ i. i < p.count) (row_at rows child) (λ i h. ltb-true i p.count (both_parts (nat_lt i p.count) (has (p.children i) child) (sym (parents.parents child i) ∙ h)).0))

in_row_within : (p : Points) (rows : List (List ℕ)) (set : List ℕ) (i : ℕ) → AreParents p rows → in_row_of rows set i ≡ true → i < p.count
in_row_within p rows [] i parents h = absurd (true≢false (sym h))
in_row_within p rows (x ∷ set) i parents h =
    elim (or_cases (has (row_at rows x) i) (in_row_of rows set i) h) [
      | inl here ↦ ltb-true i p.count (both_parts (nat_lt i p.count) (has (p.children i) x) (sym (parents.parents x i) ∙ here)).0
      | inr later ↦ in_row_within p rows set i parents later
    ]

pub waiting_within : (p : Points) (rows : List (List ℕ)) (set waiting : List ℕ) → AreParents p rows → ((i : ℕ) → has waiting i ≡ in_row_of rows set i) → All (λ i. i < p.count) waiting
waiting_within p rows set waiting parents value =
    All-from_has (λ i. i < p.count) waiting (λ i h. in_row_within p rows set i parents (sym (value i) ∙ h))

-- what waits is in the rows of the set
pub record AreWaiting (rows : List (List ℕ)) (set : List ℕ) (stamp : ℕ) (old stamps waiting : List ℕ) : Type 0 where
  pub long : length stamps ≡ length old
  pub low : All (λ s. s ≤ stamp) stamps
  pub stamped : (i : ℕ) → i < length stamps → slice_index stamps i ≡ stamp → has waiting i ≡ true
  pub parents : (i : ℕ) → has waiting i ≡ in_row_of rows set i

pub AreWaiting-none : (rows : List (List ℕ)) (stamp : ℕ) (old waiting : List ℕ) → waiting ≡ [] → All (λ s. s < stamp) old → AreWaiting rows [] stamp old old waiting
AreWaiting-none rows stamp old waiting empty fresh = record {
  long = refl;
  low = λ k d within. let s = fresh k d within in omega arith;
  stamped = λ i within h. let s : slice_index old i < stamp = fresh i 0 within in absurd (omega arith);
  parents = λ i. ap (λ (xs : List ℕ). has xs i) empty ∙ has-nil i;
}

pub AreWaiting-more : (rows : List (List ℕ)) (set : List ℕ) (k d stamp : ℕ) (old stamps next waiting more row : List ℕ) → k < length set → AreWaiting rows (take k set) stamp old stamps waiting → row ≡ row_at rows (get_or set k d) → length next ≡ length stamps → All (λ s. s ≤ stamp) next → ((i : ℕ) → i < length next → slice_index next i ≡ stamp → has more i ≡ true) → ((i : ℕ) → has more i ≡ (has waiting i || has row i)) → AreWaiting rows (take (k + 1) set) stamp old next more
AreWaiting-more rows set k d stamp old stamps next waiting more row within done e long low stamped added = record {
  long = long ∙ done.long;
  low = low;
  stamped = stamped;
  parents = λ i.
      added i ∙ ap₂ (λ (b : Bool) (xs : List ℕ). b || has xs i) (done.parents i) e ∙ sym (in_row-more rows set k d i within);
}

-- ---- the first round

pub row_at-nil : (n : ℕ) → row_at [] n ≡ []
row_at-nil zero = refl
row_at-nil (suc n) = refl

-- one more of the numbers below
pub below_next : (i k : ℕ) → (nat_lt i k || nat_eq k i) ≡ nat_lt i (k + 1)
below_next i k =
    same_tests
    (nat_lt i k || nat_eq k i)
    (nat_lt i (k + 1))
    (λ h. elim (or_cases (nat_lt i k) (nat_eq k i) h) [
      | inl before ↦ lt-ltb i (k + 1) (omega (arith, ltb-true i k before))
      | inr here ↦ lt-ltb i (k + 1) (omega (arith, eqb-true k i here))
    ])
    (λ h. elim (last_or_before i k (ltb-true i (k + 1) h)) [
      | inl here ↦ or_right (nat_lt i k) (nat_eq k i) (eq-eqb k i (sym here))
      | inr before ↦ or_left (nat_lt i k) (nat_eq k i) (lt-ltb i k before)
    ])

-- the blocks keep points together, and the points that wait are saturated
pub record IsUnderWay (p : Points) (round : ℕ) (numbers : List ℕ) (rows : List (List ℕ)) (sizes stamps waiting : List ℕ) : Type 0 where
  pub blocks : AreBlocks numbers rows sizes
  pub keep : KeepAlike p numbers rows
  pub within : All (λ i. i < p.count) waiting
  pub saturated : IsSaturated p waiting
  pub low : All (λ s. s ≤ round) stamps
  pub stamped : length stamps ≡ p.count

-- all points wait
pub all_saturated : (p : Points) (set : List ℕ) → ((i : ℕ) → has set i ≡ nat_lt i p.count) → IsSaturated p set
all_saturated p set value i j i_in j_in alike = value i ∙ lt-ltb i p.count i_in ∙ sym (value j ∙ lt-ltb j p.count j_in)

pub all_within : (count : ℕ) (set : List ℕ) → ((i : ℕ) → has set i ≡ nat_lt i count) → All (λ i. i < count) set
all_within count set value = All-from_has (λ i. i < count) set (λ i h. ltb-true i count (sym (value i) ∙ h))

-- all points are one block
pub AreBlocks-one : (numbers all : List ℕ) (size : ℕ) → All (λ n. n ≡ 0) numbers → All (λ i. i < length numbers) all → AreBlocks numbers (all ∷ []) (size ∷ [])
AreBlocks-one numbers all size zeros inside = record {
  below = λ k d within. let e : get_or numbers k d ≡ 0 = zeros k d within in omega arith;
  sized = refl;
  within = All-cons (λ row. All (λ i. i < length numbers) row) all [] inside (All-nil (λ row. All (λ i. i < length numbers) row));
}

pub KeepAlike-one : (p : Points) (numbers all : List ℕ) → length numbers ≡ p.count → All (λ n. n ≡ 0) numbers → ((i : ℕ) → has all i ≡ nat_lt i p.count) → KeepAlike p numbers (all ∷ [])
KeepAlike-one p numbers all long zeros value = record {
  keeps = record {
    long = long;
    together = λ i j i_in j_in alike. zeros i 0 (omega arith) ∙ sym (zeros j 0 (omega arith));
  };
  saturated = All-cons (λ row. IsSaturated p row) all [] (all_saturated p all value) (All-nil (λ row. IsSaturated p row));
}
