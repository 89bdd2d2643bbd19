-- Blocks while they are split: numbers written for the points of a set, and rows that are stored, replaced and added.
use Rattle.std.proofs.Common.{◌≡◌, ℕ, suc, ◌+◌, ◌<◌, Bool, true, false, ◌&&◌, ◌||◌, cond, List, [], ◌∷◌, ◌++◌, length, take, get_or, set, nat_eq, All, refl, sym, ap, subst, ◌∙◌, arith, true≢false, length-append, length-set, get_or-set_same, get_or-set_other}
use Rattle.std.proofs.lemmas.Bool.{eqb-true, eqb-false, eq-eqb, ne_eqb}
use Rattle.std.proofs.lemmas.List.Elements.{All-set, All-nil, All-cons, All-push, All-weaker, All-from_get_or}
use Rattle.std.proofs.lemmas.List.Sorted.{All-permutation}
use Rattle.std.specs.List.Sorted.{IsPermutation}
use Rattle.ct_lemmas.proofs.Booleans.{both_parts, or_false, or_true}
use Rattle.ct_partition.specs.Points.{Points}
use Rattle.ct_partition.specs.Partition.{block_at}
use Rattle.ct_partition.specs.Sets.{has, row_at, IsSaturated}
use Rattle.ct_partition.specs.Blocks.{AreBlocks, KeepAlike}
use Rattle.ct_partition.proofs.SetLemmas.{has-nil, has-more, has-push, has-All, All-from_has}
use Rattle.ct_partition.proofs.SaturatedLemmas.{IsSaturated-nil, IsSaturated-block, KeepsTogether-renumbered}

-- ---- numbers

-- the points of the set have this number, and the others the old ones
pub record AreRenumbered (old new set : List ℕ) (number : ℕ) : Type 0 where
  pub long : length new ≡ length old
  pub value : (i : ℕ) → i < length old → block_at new i ≡ cond (has set i) number (block_at old i)

pub AreRenumbered-none : (old : List ℕ) (number : ℕ) → AreRenumbered old old [] number
AreRenumbered-none old number = record {
  long = refl;
  value = λ i within. ap (λ b. cond b number (block_at old i)) (sym (has-nil i));
}

written : (new : List ℕ) (x i number old : ℕ) (a c : Bool) → nat_eq x i ≡ c → x < length new → block_at new i ≡ cond a number old → block_at (set new x number) i ≡ cond (a || c) number old
written new x i number old a true e within h =
    let same : i ≡ x = sym (eqb-true x i e) in
    ap (block_at (set new x number)) same ∙ get_or-set_same new x number 0 within ∙ ap (λ b. cond b number old) (sym (or_true a))
written new x i number old a false e within h =
    get_or-set_other new x i number 0 (λ same. eqb-false x i e (sym same)) ∙ h ∙ ap (λ b. cond b number old) (sym (or_false a))

-- one more point of the set has the number
pub AreRenumbered-more : (old new points : List ℕ) (k d number : ℕ) → k < length points → get_or points k d < length old → AreRenumbered old new (take k points) number → AreRenumbered old (set new (get_or points k d) number) (take (k + 1) points) number
AreRenumbered-more old new points k d number within inside done = record {
  long = length-set new (get_or points k d) number ∙ done.long;
  value = λ i i_in.
      written new (get_or points k d) i number (block_at old i) (has (take k points) i) (nat_eq (get_or points k d) i) refl (subst (λ n. get_or points k d < n) (sym done.long) inside) (done.value i i_in) ∙ ap (λ b. cond b number (block_at old i)) (sym (has-more points k d i within));
}

-- ---- points with a number

stored_more : (h a c t : Bool) → h ≡ (a && t) → (c ≡ true → t ≡ true) → (h || c) ≡ ((a || c) && t)
stored_more true true c t e passes = e
stored_more true false c t e passes = absurd (true≢false e)
stored_more false true true t e passes = absurd (true≢false (sym (passes refl) ∙ sym e))
stored_more false true false t e passes = e
stored_more false false true t e passes = sym (passes refl)
stored_more false false false t e passes = refl

-- one more point that has the number, and one that has another
pub stored-more : (stored points numbers : List ℕ) (k d number : ℕ) → k < length points → block_at numbers (get_or points k d) ≡ number → ((i : ℕ) → has stored i ≡ (has (take k points) i && nat_eq (block_at numbers i) number)) → (i : ℕ) → has (stored ++ get_or points k d ∷ []) i ≡ (has (take (k + 1) points) i && nat_eq (block_at numbers i) number)
stored-more stored points numbers k d number within here done i =
    let x = get_or points k d in
    let passes : nat_eq x i ≡ true → nat_eq (block_at numbers i) number ≡ true = λ e. eq-eqb (block_at numbers i) number (ap (block_at numbers) (sym (eqb-true x i e)) ∙ here) in
    has-push stored x i ∙ stored_more (has stored i) (has (take k points) i) (nat_eq x i) (nat_eq (block_at numbers i) number) (done i) passes ∙ ap (λ b. b && nat_eq (block_at numbers i) number) (sym (has-more points k d i within))

left_more : (h a c t : Bool) → h ≡ (a && t) → (c ≡ true → t ≡ false) → h ≡ ((a || c) && t)
left_more h a true t e fails = e ∙ ap (λ b. a && b) (fails refl) ∙ nothing a ∙ sym (ap (λ b. (a || true) && b) (fails refl) ∙ nothing (a || true))
  where
    nothing : (b : Bool) → (b && false) ≡ false
    nothing true = refl
    nothing false = refl
left_more h a false t e fails = e ∙ ap (λ b. b && t) (sym (or_false a))

pub stored-left : (stored points numbers : List ℕ) (k d number : ℕ) → k < length points → (block_at numbers (get_or points k d) ≡ number → ⊥) → ((i : ℕ) → has stored i ≡ (has (take k points) i && nat_eq (block_at numbers i) number)) → (i : ℕ) → has stored i ≡ (has (take (k + 1) points) i && nat_eq (block_at numbers i) number)
stored-left stored points numbers k d number within other done i =
    let x = get_or points k d in
    let fails : nat_eq x i ≡ true → nat_eq (block_at numbers i) number ≡ false = λ e. ne_eqb (block_at numbers i) number (λ same. other (ap (block_at numbers) (eqb-true x i e) ∙ same)) in
    left_more (has stored i) (has (take k points) i) (nat_eq x i) (nat_eq (block_at numbers i) number) (done i) fails ∙ ap (λ b. b && nat_eq (block_at numbers i) number) (sym (has-more points k d i within))

-- ---- blocks

-- numbers below a bound stay below it where a set has a number below it
below_renumbered : (old new set : List ℕ) (number bound : ℕ) → AreRenumbered old new set number → number < bound → All (λ n. n < bound) old → All (λ n. n < bound) new
below_renumbered old new set number bound done low below =
    All-from_get_or (λ n. n < bound) new 0 (λ i within.
    let i_in : i < length old = subst (λ n. i < n) done.long within in
    subst (λ n. n < bound) (sym (done.value i i_in)) (either (has set i) (block_at old i) (below i 0 i_in)))
  where
    either : (b : Bool) (n : ℕ) → n < bound → cond b number n < bound
    either true n h = low
    either false n h = h

-- rows of points stay rows of points where there are as many
rows_along : (m n : ℕ) (rows : List (List ℕ)) → n ≡ m → All (λ row. All (λ i. i < m) row) rows → All (λ row. All (λ i. i < n) row) rows
rows_along m n rows e h = subst (λ k. All (λ row. All (λ i. i < k) row) rows) (sym e) h

-- a new block for the points of a set
pub AreBlocks-new : (old new set sizes : List ℕ) (rows : List (List ℕ)) (size : ℕ) → AreBlocks old rows sizes → AreRenumbered old new set (length rows) → All (λ i. i < length old) set → AreBlocks new (rows ++ set ∷ []) (sizes ++ size ∷ [])
AreBlocks-new old new set sizes rows size blocks done inside = record {
  below = below_renumbered old new set (length rows) (length (rows ++ set ∷ [])) done (omega (arith, length-append rows (set ∷ []))) (All-weaker (λ n. n < length rows) (λ n. n < length (rows ++ set ∷ [])) (λ n low. omega (arith, low, length-append rows (set ∷ []))) old blocks.below);
  sized = omega (arith, length-append rows (set ∷ []), length-append sizes (size ∷ []), blocks.sized);
  within = rows_along (length old) (length new) (rows ++ set ∷ []) done.long (All-push (λ row. All (λ i. i < length old) row) rows set blocks.within inside);
}

pub KeepAlike-new : (p : Points) (old new set : List ℕ) (rows : List (List ℕ)) (number : ℕ) → KeepAlike p old rows → AreRenumbered old new set number → IsSaturated p set → KeepAlike p new (rows ++ set ∷ [])
KeepAlike-new p old new set rows number keep done saturated = record {
  keeps = KeepsTogether-renumbered p old new set number keep.keeps saturated done.long done.value;
  saturated = All-push (λ row. IsSaturated p row) rows set keep.saturated saturated;
}

-- ---- the rest of a block

-- a set that has one number gets another
pub AreRenumbered-again : (old mid new set : List ℕ) (m n : ℕ) → AreRenumbered old mid set m → AreRenumbered mid new set n → AreRenumbered old new set n
AreRenumbered-again old mid new set m n one two = record {
  long = two.long ∙ one.long;
  value = λ i within.
      two.value i (subst (λ k. i < k) (sym one.long) within) ∙ ap (λ x. cond (has set i) n x) (one.value i within) ∙ last (has set i) (block_at old i);
}
  where
    last : (b : Bool) (x : ℕ) → cond b n (cond b m x) ≡ cond b n x
    last true x = refl
    last false x = refl

-- sizes that are written are as many
pub AreBlocks-sized : (numbers sizes more : List ℕ) (rows : List (List ℕ)) → length more ≡ length sizes → AreBlocks numbers rows sizes → AreBlocks numbers rows more
AreBlocks-sized numbers sizes more rows e blocks = record { below = blocks.below; sized = e ∙ blocks.sized; within = blocks.within }

-- the group has the number again, and is the row of the block
pub AreBlocks-rest : (old new group sizes : List ℕ) (rows : List (List ℕ)) (number : ℕ) → AreBlocks old rows sizes → AreRenumbered old new group number → number < length rows → All (λ i. i < length old) group → AreBlocks new (set rows number group) sizes
AreBlocks-rest old new group sizes rows number blocks done low inside = record {
  below = subst (λ n. All (λ x. x < n) new) (sym (length-set rows number group)) (below_renumbered old new group number (length rows) done low blocks.below);
  sized = blocks.sized ∙ sym (length-set rows number group);
  within = rows_along (length old) (length new) (set rows number group) done.long (All-set (λ row. All (λ i. i < length old) row) rows number group inside blocks.within);
}

pub KeepAlike-rest : (p : Points) (old new group : List ℕ) (rows : List (List ℕ)) (number : ℕ) → KeepAlike p old rows → AreRenumbered old new group number → IsSaturated p group → KeepAlike p new (set rows number group)
KeepAlike-rest p old new group rows number keep done saturated = record {
  keeps = KeepsTogether-renumbered p old new group number keep.keeps saturated done.long done.value;
  saturated = All-set (λ row. IsSaturated p row) rows number group saturated keep.saturated;
}

-- the rest is saturated
pub IsSaturated-rest : (p : Points) (old apart group rest : List ℕ) (rows : List (List ℕ)) (number other : ℕ) → KeepAlike p old rows → AreRenumbered old apart group other → IsSaturated p group → number < length rows → ((i : ℕ) → has rest i ≡ (has (row_at rows number) i && nat_eq (block_at apart i) number)) → IsSaturated p rest
IsSaturated-rest p old apart group rest rows number other keep done saturated low value =
    IsSaturated-block p (row_at rows number) rest apart number (keep.saturated number [] low) (KeepsTogether-renumbered p old apart group other keep.keeps saturated done.long done.value) value

-- and has points
pub rest_within : (numbers apart rest : List ℕ) (rows : List (List ℕ)) (number : ℕ) → All (λ row. All (λ i. i < length numbers) row) rows → number < length rows → ((i : ℕ) → has rest i ≡ (has (row_at rows number) i && nat_eq (block_at apart i) number)) → All (λ i. i < length numbers) rest
rest_within numbers apart rest rows number within low value =
    All-from_has (λ i. i < length numbers) rest (λ i h.
    has-All (λ n. n < length numbers) (row_at rows number) i (within number [] low) (both_parts (has (row_at rows number) i) (nat_eq (block_at apart i) number) (sym (value i) ∙ h)).0)

-- ---- groups, one after another

-- what holds of all of a list holds of its last element, and of those before
pub All-last : (P : List ℕ → Type 0) (xs : List (List ℕ)) (x : List ℕ) → All P (xs ++ x ∷ []) → P x
All-last P [] x h = h 0 x (omega arith)
All-last P (y ∷ xs) x h = All-last P xs x (λ k d within. h (suc k) d (omega arith))

pub All-before : (P : List ℕ → Type 0) (xs : List (List ℕ)) (x : List ℕ) → All P (xs ++ x ∷ []) → All P xs
All-before P [] x h = All-nil P
All-before P (y ∷ xs) x h = All-cons P y xs (h 0 y (omega arith)) (All-before P xs x (λ k d within. h (suc k) d (omega arith)))

-- the blocks are split by all but these groups
pub record AreSplit (old : List ℕ) (old_rows all : List (List ℕ)) (numbers : List ℕ) (rows : List (List ℕ)) (sizes : List ℕ) (groups : List (List ℕ)) (changed : List ℕ) : Type 0 where
  pub blocks : AreBlocks numbers rows sizes
  pub long : length numbers ≡ length old
  pub groups_in : All (λ group. All (λ i. i < length old) group) groups
  pub changed_in : All (λ i. i < length old) changed
  pub alike : (p : Points) → KeepAlike p old old_rows → All (λ group. IsSaturated p group) all → KeepAlike p numbers rows × IsSaturated p changed × All (λ group. IsSaturated p group) groups

pub AreSplit-none : (old : List ℕ) (rows all groups : List (List ℕ)) (sizes changed : List ℕ) → AreBlocks old rows sizes → IsPermutation all groups → changed ≡ [] → All (λ group. All (λ i. i < length old) group) all → AreSplit old rows all old rows sizes groups changed
AreSplit-none old rows all groups sizes changed blocks sorted empty inside = record {
  blocks = blocks;
  long = refl;
  groups_in = All-permutation (λ group. All (λ i. i < length old) group) all groups sorted inside;
  changed_in = subst (λ (xs : List ℕ). All (λ i. i < length old) xs) (sym empty) (All-nil (λ i. i < length old));
  alike = λ p keep saturated. (
    keep,
    subst (λ (xs : List ℕ). IsSaturated p xs) (sym empty) (IsSaturated-nil p),
    All-permutation (λ group. IsSaturated p group) all groups sorted saturated,
  );
}

pub AreSplit-more : (old : List ℕ) (old_rows all : List (List ℕ)) (numbers : List ℕ) (rows : List (List ℕ)) (sizes : List ℕ) (groups rest : List (List ℕ)) (group changed : List ℕ) (numbers' : List ℕ) (rows' : List (List ℕ)) (sizes' changed' : List ℕ) → groups ≡ rest ++ group ∷ [] → AreSplit old old_rows all numbers rows sizes groups changed → AreBlocks numbers' rows' sizes' → length numbers' ≡ length numbers → All (λ i. i < length numbers) changed' → ((p : Points) → KeepAlike p numbers rows → IsSaturated p group → IsSaturated p changed → KeepAlike p numbers' rows' × IsSaturated p changed') → AreSplit old old_rows all numbers' rows' sizes' rest changed'
AreSplit-more old old_rows all numbers rows sizes groups rest group changed numbers' rows' sizes' changed' e done blocks long changed_in alike = record {
  blocks = blocks;
  long = long ∙ done.long;
  groups_in = All-before (λ row. All (λ i. i < length old) row) rest group (subst (λ (xs : List (List ℕ)). All (λ row. All (λ i. i < length old) row) xs) e done.groups_in);
  changed_in = subst (λ n. All (λ i. i < n) changed') done.long changed_in;
  alike = λ p keep saturated.
      let before = done.alike p keep saturated in
      let sets = subst (λ (xs : List (List ℕ)). All (λ row. IsSaturated p row) xs) e before.2 in
      let after = alike p before.0 (All-last (λ row. IsSaturated p row) rest group sets) before.1 in
      (after.0, after.1, All-before (λ row. IsSaturated p row) rest group sets);
}

-- the next group has points
pub group_within : (old : List ℕ) (old_rows all : List (List ℕ)) (numbers : List ℕ) (rows : List (List ℕ)) (sizes : List ℕ) (groups rest : List (List ℕ)) (group changed : List ℕ) → groups ≡ rest ++ group ∷ [] → AreSplit old old_rows all numbers rows sizes groups changed → All (λ i. i < length numbers) group
group_within old old_rows all numbers rows sizes groups rest group changed e done =
    subst (λ n. All (λ i. i < n) group) (sym done.long) (All-last (λ row. All (λ i. i < length old) row) rest group (subst (λ (xs : List (List ℕ)). All (λ row. All (λ i. i < length old) row) xs) e done.groups_in))

pub changed_within : (old : List ℕ) (old_rows all : List (List ℕ)) (numbers : List ℕ) (rows : List (List ℕ)) (sizes : List ℕ) (groups : List (List ℕ)) (changed : List ℕ) → AreSplit old old_rows all numbers rows sizes groups changed → All (λ i. i < length numbers) changed
changed_within old old_rows all numbers rows sizes groups changed done = subst (λ n. All (λ i. i < n) changed) (sym done.long) done.changed_in
