-- Saturated sets of points, and partitions that keep points together which agree at every depth.
use Rattle.std.proofs.Common.{◌≡◌, ℕ, suc, ◌<◌, true, ◌&&◌, ◌||◌, List, [], ◌∷◌, ◌++◌, length, map, nat_eq, nat_lt, cond, All, refl, sym, ap, ap₂, subst, ◌∙◌, arith}
use Rattle.std.specs.List.{AllZip}
use Rattle.std.proofs.lemmas.Bool.{lt-ltb}
use Rattle.ct_partition.specs.Points.{Points}
use Rattle.ct_partition.specs.Bisimilarity.{AgreeAlways}
use Rattle.ct_partition.specs.Partition.{block_at}
use Rattle.ct_partition.specs.Sets.{has, IsSaturated}
use Rattle.ct_partition.specs.Refinement.{KeepsTogether, key_of}
use Rattle.ct_partition.specs.Parents.{AreParents, in_row_of}
use Rattle.ct_partition.proofs.SetLemmas.{has-append, has-nil, meets, meets-sym}
use Rattle.ct_partition.proofs.AgreeLemmas.{IsClosed, AgreeAlways-parts}

-- the empty set, and two sets together
pub IsSaturated-nil : (p : Points) → IsSaturated p []
IsSaturated-nil p i j i_in j_in alike = has-nil i ∙ sym (has-nil j)

pub IsSaturated-append : (p : Points) (xs ys : List ℕ) → IsSaturated p xs → IsSaturated p ys → IsSaturated p (xs ++ ys)
IsSaturated-append p xs ys one two i j i_in j_in alike =
    has-append xs ys i ∙ ap₂ (λ a b. a || b) (one i j i_in j_in alike) (two i j i_in j_in alike) ∙ sym (has-append xs ys j)

-- a set with one number keeps points together
pub KeepsTogether-renumbered : (p : Points) (old new set : List ℕ) (number : ℕ) → KeepsTogether p old → IsSaturated p set → length new ≡ length old → ((i : ℕ) → i < length old → block_at new i ≡ cond (has set i) number (block_at old i)) → KeepsTogether p new
KeepsTogether-renumbered p old new set number keeps saturated long value = record {
  long = long ∙ keeps.long;
  together = λ i j i_in j_in alike.
      value i (subst (λ n. i < n) (sym keeps.long) i_in) ∙ ap₂ (λ b n. cond b number n) (saturated i j i_in j_in alike) (keeps.together i j i_in j_in alike) ∙ sym (value j (subst (λ n. j < n) (sym keeps.long) j_in));
}

-- the points of a set that are in one block
pub IsSaturated-block : (p : Points) (set stored blocks : List ℕ) (number : ℕ) → IsSaturated p set → KeepsTogether p blocks → ((i : ℕ) → has stored i ≡ (has set i && nat_eq (block_at blocks i) number)) → IsSaturated p stored
IsSaturated-block p set stored blocks number saturated keeps value i j i_in j_in alike =
    value i ∙ ap₂ (λ a b. a && nat_eq b number) (saturated i j i_in j_in alike) (keeps.together i j i_in j_in alike) ∙ sym (value j)

-- children that agree one for one are in one block each
blocks_together : (p : Points) (blocks ms ns : List ℕ) → KeepsTogether p blocks → All (λ m. m < p.count) ms → All (λ n. n < p.count) ns → AllZip (AgreeAlways p) ms ns → map (block_at blocks) ms ≡ map (block_at blocks) ns
blocks_together p blocks [] [] keeps ms_in ns_in h = refl
blocks_together p blocks [] (n ∷ ns) keeps ms_in ns_in h = absurd h
blocks_together p blocks (m ∷ ms) [] keeps ms_in ns_in h = absurd h
blocks_together p blocks (m ∷ ms) (n ∷ ns) keeps ms_in ns_in h =
    ap₂ (λ (x : ℕ) (xs : List ℕ). x ∷ xs)
    (keeps.together m n (ms_in 0 m (omega arith)) (ns_in 0 n (omega arith)) h.0)
    (blocks_together p blocks ms ns keeps (λ k d within. ms_in (suc k) d (omega arith)) (λ k d within. ns_in (suc k) d (omega arith)) h.1)

-- points that agree at every depth have one key
pub keys_together : (p : Points) (blocks : List ℕ) (i j : ℕ) → IsClosed p → KeepsTogether p blocks → i < p.count → j < p.count → AgreeAlways p i j → key_of p blocks i ≡ key_of p blocks j
keys_together p blocks i j closed keeps i_in j_in alike =
    let parts = AgreeAlways-parts p i j alike in
    let block : block_at blocks i ≡ block_at blocks j = keeps.together i j i_in j_in alike in
    let children = blocks_together p blocks (p.children i) (p.children j) keeps (closed i i_in) (closed j j_in) parts.1 in
    λ t. record { label = parts.0 t; block = block t; children = children t }

-- ---- parents

-- children that agree one for one meet the same saturated sets
meets_together : (p : Points) (set ms ns : List ℕ) → IsSaturated p set → All (λ m. m < p.count) ms → All (λ n. n < p.count) ns → AllZip (AgreeAlways p) ms ns → meets ms set ≡ meets ns set
meets_together p set [] [] saturated ms_in ns_in h = refl
meets_together p set [] (n ∷ ns) saturated ms_in ns_in h = absurd h
meets_together p set (m ∷ ms) [] saturated ms_in ns_in h = absurd h
meets_together p set (m ∷ ms) (n ∷ ns) saturated ms_in ns_in h =
    ap₂ (λ a b. a || b)
    (saturated m n (ms_in 0 m (omega arith)) (ns_in 0 n (omega arith)) h.0)
    (meets_together p set ms ns saturated (λ k d within. ms_in (suc k) d (omega arith)) (λ k d within. ns_in (suc k) d (omega arith)) h.1)

-- a point is in the row of some element where its children meet the set
in_row-meets : (p : Points) (rows : List (List ℕ)) (set : List ℕ) (i : ℕ) → AreParents p rows → i < p.count → in_row_of rows set i ≡ meets set (p.children i)
in_row-meets p rows [] i parents within = refl
in_row-meets p rows (x ∷ set) i parents within =
    let inside : nat_lt i p.count ≡ true = lt-ltb i p.count within in
    ap₂ (λ a b. a || b)
    (parents.parents x i ∙ ap (λ b. b && has (p.children i) x) inside)
    (in_row-meets p rows set i parents within)

-- the parents of a saturated set
pub IsSaturated-parents : (p : Points) (rows : List (List ℕ)) (set waiting : List ℕ) → IsClosed p → AreParents p rows → IsSaturated p set → ((i : ℕ) → has waiting i ≡ in_row_of rows set i) → IsSaturated p waiting
IsSaturated-parents p rows set waiting closed parents saturated value i j i_in j_in alike =
    let row = λ (k : ℕ) (within : k < p.count). value k ∙ in_row-meets p rows set k parents within ∙ meets-sym set (p.children k) in
    row i i_in ∙ meets_together p set (p.children i) (p.children j) saturated (closed i i_in) (closed j j_in) (AgreeAlways-parts p i j alike).1 ∙ sym (row j j_in)
