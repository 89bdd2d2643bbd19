-- How many generics there are with how many constructors and fields, one sort or generic after the other.
use Rattle.std.proofs.Common.{◌≡◌, ℕ, zero, suc, ◌+◌, ◌<◌, ◌≤◌, ◌==◌, Bool, true, false, if◌then◌else◌, List, [], ◌∷◌, length, take, Option, Some, unwrap_or, slice_get, add-one, refl, sym, ap, subst, ◌∙◌, inl, inr, ⊎_elim, arith}
use Rattle.std.specs.List.{flat_map}
use Rattle.std.proofs.lemmas.Bool.Decides.{Decides-eqb}
use Rattle.std.proofs.lemmas.Option.{none-some, same_Some}
use Rattle.ct_lemmas.proofs.Numbers.{below_or_not}
use Rattle.ct_generics.specs.Declarations.{Head}
use Rattle.ct_generics.specs.declared.room.Room.{Room}
use Rattle.ct_sorts.specs.declared.spelling.Spelling.{Spelling}
use Rattle.ct_sorts.specs.Declarations.{Declarations, most_sorts, most_ctors, most_sels}
use Rattle.ct_sorts.specs.Limits.{generic_count, generic_ctors, generic_sels, sort_count, ctor_count, sel_count, IsOverLimits}

-- what one sort or generic adds to a count
abbrev pub when_generic : Head → ℕ → ℕ
when_generic head count = if head.params == 0 then 0 else count

no_more : (b : Bool) → ◌≡◌ {A = ℕ} 0 (0 + (if b then 0 else 0))
no_more true = omega arith
no_more false = omega arith

one_more : (b : Bool) (n : ℕ) → (if b then n else 1 + n) ≡ (if b then 0 else 1) + n
one_more true n = omega arith
one_more false n = refl

swap : (n : ℕ) → n + 0 ≡ 0 + n
swap n = omega arith

regroup : (m n k : ℕ) → m + (n + k) ≡ m + n + k
regroup m n k = omega arith

count_next : (heads : List Head) (n : ℕ) (head : Head) → slice_get heads n ≡ Some head → generic_count (take (suc n) heads) ≡ generic_count (take n heads) + when_generic head 1
count_next [] n head at = absurd (none-some head at)
count_next (x ∷ heads) zero head at = one_more (x.params == 0) 0 ∙ ap (λ (y : Head). when_generic y 1 + 0) (same_Some x head at) ∙ swap (when_generic head 1)
count_next (x ∷ heads) (suc n) head at =
    one_more (x.params == 0) (generic_count (take (suc n) heads)) ∙ ap (λ k. when_generic x 1 + k) (count_next heads n head at)
    ∙ regroup (when_generic x 1) (generic_count (take n heads)) (when_generic head 1)
    ∙ ap (λ k. k + when_generic head 1) (sym (one_more (x.params == 0) (generic_count (take n heads))))

ctors_next : (heads : List Head) (spellings : List (List Spelling)) (n : ℕ) (head : Head) → slice_get heads n ≡ Some head → generic_ctors (take (suc n) heads) spellings ≡ generic_ctors (take n heads) spellings + when_generic head (length (unwrap_or (slice_get spellings n) []))
ctors_next [] spellings n head at = absurd (none-some head at)
ctors_next (x ∷ heads) [] zero head at = no_more (head.params == 0)
ctors_next (x ∷ heads) [] (suc n) head at = no_more (head.params == 0)
ctors_next (x ∷ heads) (s ∷ spellings) zero head at = ap (λ (y : Head). when_generic y (length s) + 0) (same_Some x head at) ∙ swap (when_generic head (length s))
ctors_next (x ∷ heads) (s ∷ spellings) (suc n) head at =
    let rest = unwrap_or (slice_get spellings n) [] in
    ap (λ k. when_generic x (length s) + k) (ctors_next heads spellings n head at)
    ∙ regroup (when_generic x (length s)) (generic_ctors (take n heads) spellings) (when_generic head (length rest))

sels_next : (heads : List Head) (spellings : List (List Spelling)) (n : ℕ) (head : Head) → slice_get heads n ≡ Some head → generic_sels (take (suc n) heads) spellings ≡ generic_sels (take n heads) spellings + when_generic head (length (flat_map (λ (c : Spelling). c.fields) (unwrap_or (slice_get spellings n) [])))
sels_next [] spellings n head at = absurd (none-some head at)
sels_next (x ∷ heads) [] zero head at = no_more (head.params == 0)
sels_next (x ∷ heads) [] (suc n) head at = no_more (head.params == 0)
sels_next (x ∷ heads) (s ∷ spellings) zero head at =
    let count = length (flat_map (λ (c : Spelling). c.fields) s) in
    ap (λ (y : Head). when_generic y count + 0) (same_Some x head at) ∙ swap (when_generic head count)
sels_next (x ∷ heads) (s ∷ spellings) (suc n) head at =
    let count = length (flat_map (λ (c : Spelling). c.fields) s) in
    let rest = length (flat_map (λ (c : Spelling). c.fields) (unwrap_or (slice_get spellings n) [])) in
    ap (λ k. when_generic x count + k) (sels_next heads spellings n head at)
    ∙ regroup (when_generic x count) (generic_sels (take n heads) spellings) (when_generic head rest)

-- the first of them have no more than all
count_first : (heads : List Head) (n : ℕ) → generic_count (take n heads) ≤ generic_count heads
count_first heads zero = omega arith
count_first [] (suc n) = omega arith
count_first (x ∷ heads) (suc n) =
    let rest = count_first heads n in
    let first = one_more (x.params == 0) (generic_count (take n heads)) in
    let all = one_more (x.params == 0) (generic_count heads) in
    omega (arith, rest, first, all)

ctors_first : (heads : List Head) (spellings : List (List Spelling)) (n : ℕ) → generic_ctors (take n heads) spellings ≤ generic_ctors heads spellings
ctors_first heads spellings zero = omega arith
ctors_first [] spellings (suc n) = omega arith
ctors_first (x ∷ heads) [] (suc n) = omega arith
ctors_first (x ∷ heads) (s ∷ spellings) (suc n) = let rest = ctors_first heads spellings n in omega (arith, rest)

sels_first : (heads : List Head) (spellings : List (List Spelling)) (n : ℕ) → generic_sels (take n heads) spellings ≤ generic_sels heads spellings
sels_first heads spellings zero = omega arith
sels_first [] spellings (suc n) = omega arith
sels_first (x ∷ heads) [] (suc n) = omega arith
sels_first (x ∷ heads) (s ∷ spellings) (suc n) = let rest = sels_first heads spellings n in omega (arith, rest)

-- a generic adds all of it
is_generic : (head : Head) → 0 < head.params → (k : ℕ) → when_generic head k ≡ k
is_generic head some k = by (head.params == 0) (Decides-eqb head.params 0).0
  where
    by : (b : Bool) → (b ≡ true → head.params ≡ 0) → (if b then 0 else k) ≡ k
    by true tells = absurd (let none = tells refl in omega (arith, some, none))
    by false tells = refl

-- the totals are those of the first sorts and generics
pub record AreTotals (heads : List Head) (spellings : List (List Spelling)) (totals : Room) (n : ℕ) : Type 0 where
  pub sorts : totals.sorts ≡ generic_count (take n heads)
  pub ctors : totals.ctors ≡ generic_ctors (take n heads) spellings
  pub sels : totals.sels ≡ generic_sels (take n heads) spellings

module _ (heads : List Head) (spellings : List (List Spelling)) (totals : Room) (n : ℕ) (head : Head) (at : slice_get heads n ≡ Some head) (are : AreTotals heads spellings totals n) where
  next : n + 1 ≡ suc n
  next = omega arith

  generic : (k : ℕ) → 0 < head.params → when_generic head k ≡ k
  generic k some = is_generic head some k

  plain : (k : ℕ) → head.params ≡ 0 → when_generic head k ≡ 0
  plain k none = ap (λ (b : Bool). if b then 0 else k) ((Decides-eqb head.params 0).1 none)

  -- a sort without parameters adds nothing
  pub AreTotals-plain : head.params ≡ 0 → AreTotals heads spellings totals (n + 1)
  AreTotals-plain none =
      record {
        sorts = omega (arith, are.sorts, ap (λ k. generic_count (take k heads)) next, count_next heads n head at, plain 1 none);
        ctors = omega (arith, are.ctors, ap (λ k. generic_ctors (take k heads) spellings) next, ctors_next heads spellings n head at, plain (length (unwrap_or (slice_get spellings n) [])) none);
        sels = omega (arith, are.sels, ap (λ k. generic_sels (take k heads) spellings) next, sels_next heads spellings n head at, plain (length (flat_map (λ (c : Spelling). c.fields) (unwrap_or (slice_get spellings n) []))) none);
      }

  -- a generic adds what it has
  pub AreTotals-generic : (later : Room) → 0 < head.params → later.sorts ≡ totals.sorts + 1 → later.ctors ≡ totals.ctors + length (unwrap_or (slice_get spellings n) []) → later.sels ≡ totals.sels + length (flat_map (λ (c : Spelling). c.fields) (unwrap_or (slice_get spellings n) [])) → AreTotals heads spellings later (n + 1)
  AreTotals-generic later some sorts ctors sels =
      record {
        sorts = omega (arith, sorts, are.sorts, ap (λ k. generic_count (take k heads)) next, count_next heads n head at, generic 1 some);
        ctors = omega (arith, ctors, are.ctors, ap (λ k. generic_ctors (take k heads) spellings) next, ctors_next heads spellings n head at, generic (length (unwrap_or (slice_get spellings n) [])) some);
        sels = omega (arith, sels, are.sels, ap (λ k. generic_sels (take k heads) spellings) next, sels_next heads spellings n head at, generic (length (flat_map (λ (c : Spelling). c.fields) (unwrap_or (slice_get spellings n) []))) some);
      }

  -- either of them
  pub AreTotals-more : (later : Room) → (head.params ≡ 0 → later ≡ totals) → (0 < head.params → later.sorts ≡ totals.sorts + 1) → (0 < head.params → later.ctors ≡ totals.ctors + length (unwrap_or (slice_get spellings n) [])) → (0 < head.params → later.sels ≡ totals.sels + length (flat_map (λ (c : Spelling). c.fields) (unwrap_or (slice_get spellings n) []))) → AreTotals heads spellings later (n + 1)
  AreTotals-more later same sorts ctors sels =
      ⊎_elim (λ some. AreTotals-generic later some (sorts some) (ctors some) (sels some))
      (λ none. let is : head.params ≡ 0 = omega (arith, none) in subst (λ (t : Room). AreTotals heads spellings t (n + 1)) (sym (same is)) (AreTotals-plain is)) (below_or_not 0 head.params)

  -- there is room for one more where there is for all
  pub sorts_fit : 0 < head.params → generic_count heads ≤ most_sorts → totals.sorts < most_sorts
  sorts_fit some few = omega (arith, are.sorts, count_next heads n head at, count_first heads (suc n), generic 1 some, few)

  pub ctors_fit : 0 < head.params → generic_ctors heads spellings ≤ most_ctors → totals.ctors + length (unwrap_or (slice_get spellings n) []) ≤ most_ctors
  ctors_fit some few = omega (arith, are.ctors, ctors_next heads spellings n head at, ctors_first heads spellings (suc n), generic (length (unwrap_or (slice_get spellings n) [])) some, few)

  pub sels_fit : 0 < head.params → generic_sels heads spellings ≤ most_sels → totals.sels + length (flat_map (λ (c : Spelling). c.fields) (unwrap_or (slice_get spellings n) [])) ≤ most_sels
  sels_fit some few = omega (arith, are.sels, sels_next heads spellings n head at, sels_first heads spellings (suc n), generic (length (flat_map (λ (c : Spelling). c.fields) (unwrap_or (slice_get spellings n) []))) some, few)

-- all have as many constructors as one of them, or more
pub generic_has : (heads : List Head) (spellings : List (List Spelling)) (n : ℕ) (head : Head) → slice_get heads n ≡ Some head → 0 < head.params → (ctors : List Spelling) → slice_get spellings n ≡ Some ctors → length ctors ≤ generic_ctors heads spellings
generic_has heads spellings n head at some ctors at_ctors =
    let own : length (unwrap_or (slice_get spellings n) []) ≡ length ctors = ap (λ (o : Option (List Spelling)). length (unwrap_or o [])) at_ctors in
    omega (arith, own, ctors_next heads spellings n head at, ctors_first heads spellings (suc n), is_generic head some (length (unwrap_or (slice_get spellings n) [])))

-- no limit is passed
pub within_sorts : (d : Declarations) → (IsOverLimits d → ⊥) → sort_count d ≤ most_sorts
within_sorts d within = ⊎_elim (λ over. absurd (within (inl over))) (λ h. h) (below_or_not most_sorts (sort_count d))

pub within_ctors : (d : Declarations) → (IsOverLimits d → ⊥) → ctor_count d ≤ most_ctors
within_ctors d within = ⊎_elim (λ over. absurd (within (inr (inl over)))) (λ h. h) (below_or_not most_ctors (ctor_count d))

pub within_sels : (d : Declarations) → (IsOverLimits d → ⊥) → sel_count d ≤ most_sels
within_sels d within = ⊎_elim (λ over. absurd (within (inr (inr over)))) (λ h. h) (below_or_not most_sels (sel_count d))
