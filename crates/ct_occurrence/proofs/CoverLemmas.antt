-- Which constructors of a sort have cases: cases of too few constructors leave one out.
use Rattle.std.proofs.Common.{◌≡◌, ℕ, zero, suc, ◌+◌, ◌<◌, ◌≤◌, inl, inr, Bool, true, false, true≢false, cond, ◌||◌, ◌==◌, List, [], ◌∷◌, ◌++◌, length, reverse, Option, Some, None, option_map, slice_get, refl, sym, ap, subst, ◌∙◌, arith}
use Rattle.std.specs.List.{AllByRecursion, IsDistinct, list_all, flat_map}
use Rattle.std.specs.Set.{is_member, unique_keys}
use Rattle.std.proofs.lemmas.Bool.{ne_eqb}
use Rattle.std.proofs.lemmas.Map.Made.{length-le_from_is_member}
use Rattle.std.proofs.lemmas.Map.Steps.{list_any_congr}
use Rattle.std.proofs.lemmas.Option.{none-some, same_Some}
use Rattle.ct_lemmas.proofs.Booleans.{both_parts, not_true, or_cases}
use Rattle.ct_sorts.specs.declared.ids.CtorId.{CtorId}
use Rattle.ct_sorts.specs.Declarations.{Declarations, Sort, ctor_ids}
use Rattle.ct_sorts.specs.Consistent.{IsConsistent}
use Rattle.ct_formulas.specs.Compiled.{is_among}
use Rattle.ct_occurrence.specs.Earlier.{same_ctor, distinct_ctors}
use Rattle.ct_occurrence.proofs.EarlierLemmas.{same_equiv, among_is_member}
use Rattle.ct_occurrence.proofs.FlagLemmas.{among_reversed}

-- ---- no constructor stands twice among those of a sort

smaller : (k first count : ℕ) → k < first → AllByRecursion (λ (c : CtorId). (k == c.0) ≡ false) (ctor_ids first count)
smaller k first zero h = tt
smaller k first (suc n) h = (ne_eqb k first (λ e. omega (arith, h, e)), smaller k (first + 1) n (omega (arith, h)))

ids_distinct : (first count : ℕ) → IsDistinct same_ctor (ctor_ids first count)
unfolding IsDistinct
ids_distinct first zero = tt
ids_distinct first (suc n) = (smaller first (first + 1) n (omega arith), ids_distinct (first + 1) n)

all_left : (P : CtorId → Type 0) (cs others : List CtorId) → AllByRecursion P (cs ++ others) → AllByRecursion P cs
all_left P [] others h = tt
all_left P (c ∷ cs) others h = (h.0, all_left P cs others h.1)

distinct_left : (cs others : List CtorId) → IsDistinct same_ctor (cs ++ others) → IsDistinct same_ctor cs
unfolding IsDistinct
distinct_left [] others h = tt
distinct_left (c ∷ cs) others h = (all_left (λ (k : CtorId). same_ctor c k ≡ false) cs others h.0, distinct_left cs others h.1)

distinct_right : (cs others : List CtorId) → IsDistinct same_ctor (cs ++ others) → IsDistinct same_ctor others
unfolding IsDistinct
distinct_right [] others h = h
distinct_right (c ∷ cs) others h = distinct_right cs others h.1

of_one_sort : (sorts : List Sort) (s : ℕ) (sort : Sort) → IsDistinct same_ctor (flat_map (λ (x : Sort). x.ctors) sorts) → slice_get sorts s ≡ Some sort → IsDistinct same_ctor sort.ctors
of_one_sort [] s sort h at = absurd (none-some _ at)
of_one_sort (x ∷ xs) zero sort h at = subst (λ (y : Sort). IsDistinct same_ctor y.ctors) (same_Some x sort at) (distinct_left x.ctors (flat_map (λ (y : Sort). y.ctors) xs) h)
of_one_sort (x ∷ xs) (suc s) sort h at = of_one_sort xs s sort (distinct_right x.ctors (flat_map (λ (y : Sort). y.ctors) xs) h) at

sort_distinct : (d : Declarations) (s : ℕ) (all : List CtorId) → IsConsistent d → option_map (λ (x : Sort). x.ctors) (slice_get d.sorts s) ≡ Some all → IsDistinct same_ctor all
sort_distinct d s all h = of (slice_get d.sorts s) refl
  where
    of : (found : Option Sort) → slice_get d.sorts s ≡ found → option_map (λ (x : Sort). x.ctors) found ≡ Some all → IsDistinct same_ctor all
    of None here k = absurd (none-some _ k)
    of (Some sort) here k = subst (IsDistinct same_ctor) (same_Some sort.ctors all k) (of_one_sort d.sorts s sort (subst (IsDistinct same_ctor) (sym h.all_ctors) (ids_distinct 0 (length d.ctors))) here)

-- ---- those that are covered are at most those that have cases

-- a constructor is this one, or has a case before it
abbrev pub covered : List CtorId → CtorId → CtorId → Bool
covered earlier c k = (k.0 == c.0) || is_among earlier k

member_by : (earlier : List CtorId) (c k q : CtorId) → same_ctor q k ≡ true → covered earlier c k ≡ true → is_member same_ctor (c ∷ earlier) q ≡ true
member_by earlier c k q e h = list_any_congr same_equiv q k (c ∷ earlier) e ∙ (sym (ap (λ (x : Bool). (k.0 == c.0) || x) (among_is_member earlier k)) ∙ h)

members : (earlier : List CtorId) (c : CtorId) (all : List CtorId) → list_all (covered earlier c) all ≡ true → (q : CtorId) → is_member same_ctor all q ≡ true → is_member same_ctor (c ∷ earlier) q ≡ true
members earlier c [] h q m = absurd (true≢false (sym m))
members earlier c (k ∷ ks) h q m =
    let parts = both_parts (covered earlier c k) (list_all (covered earlier c) ks) h in
    elim (or_cases (same_ctor q k) (is_member same_ctor ks q) m) [
      | inl here ↦ member_by earlier c k q here parts.0
      | inr later ↦ members earlier c ks parts.1 q later
    ]

reversed : (earlier : List CtorId) (c q : CtorId) → is_member same_ctor (c ∷ earlier) q ≡ is_member same_ctor (c ∷ reverse earlier) q
reversed earlier c q = ap (λ (x : Bool). same_ctor q c || x) (sym (among_is_member earlier q) ∙ (sym (among_reversed earlier q) ∙ among_is_member (reverse earlier) q))

in-unique : (cs : List CtorId) (q : CtorId) → is_member same_ctor cs q ≡ true → is_member same_ctor (unique_keys same_ctor cs) q ≡ true
in-unique [] q h = h
in-unique (c ∷ cs) q h = by (is_member same_ctor cs c) (same_ctor q c) refl refl h (in-unique cs q)
  where
    once : List CtorId
    once = unique_keys same_ctor cs

    by : (b e : Bool) → is_member same_ctor cs c ≡ b → same_ctor q c ≡ e → (e || is_member same_ctor cs q) ≡ true → (is_member same_ctor cs q ≡ true → is_member same_ctor once q ≡ true) → is_member same_ctor (cond b once (c ∷ once)) q ≡ true
    by true true m t g r = r (list_any_congr same_equiv q c cs t ∙ m)
    by true false m t g r = r g
    by false true m t g r = ap (λ (x : Bool). x || is_member same_ctor once q) t
    by false false m t g r = ap (λ (x : Bool). x || is_member same_ctor once q) t ∙ r g

-- a list without repetitions is at most as long as one in which all its constructors stand has distinct ones
most_distinct : (all cs : List CtorId) → IsDistinct same_ctor all → ((q : CtorId) → is_member same_ctor all q ≡ true → is_member same_ctor cs q ≡ true) → length all ≤ distinct_ctors cs
most_distinct all cs d h = length-le_from_is_member same_equiv all (unique_keys same_ctor cs) d (λ q m. in-unique cs q (h q m))

-- where the cases are of fewer constructors than the sort has, some constructor has none
pub too_few : (d : Declarations) (s : ℕ) (all earlier : List CtorId) (c : CtorId) → IsConsistent d → option_map (λ (x : Sort). x.ctors) (slice_get d.sorts s) ≡ Some all → distinct_ctors (c ∷ earlier) < length all → list_all (covered (reverse earlier) c) all ≡ false
too_few d s all earlier c h at few =
    not_true (list_all (covered (reverse earlier) c) all) (λ whole.
    let most : length all ≤ distinct_ctors (c ∷ earlier) = most_distinct all (c ∷ earlier) (sort_distinct d s all h at) (λ q m. reversed earlier c q ∙ members (reverse earlier) c all whole q m) in
    omega (arith, most, few))
