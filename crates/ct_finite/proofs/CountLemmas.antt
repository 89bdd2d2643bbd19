-- Counts of sorts are noted one after the other, until no more can be.
use Rattle.std.proofs.Common.{◌≡◌, ℕ, zero, suc, ◌+◌, ◌<◌, ◌≤◌, ◌⊎◌, true, List, [], ◌∷◌, length, Option, Some, option_map, unwrap_or, slice_get, get_or, set, nat_lt, Contains, refl, sym, ◌∙◌, ap, subst, inl, inr, arith}
use Rattle.std.specs.List.{flat_map}
use Rattle.std.proofs.lemmas.Bool.Decides.{Decides-ltb}
use Rattle.ct_lemmas.proofs.Lists.{slice_get-there}
use Rattle.ct_lemmas.proofs.Numbers.{same_or_other}
use Rattle.ct_sorts.specs.declared.ids.CtorId.{CtorId}
use Rattle.ct_sorts.specs.declared.ids.SortId.{SortId}
use Rattle.ct_sorts.specs.declared.ids.Kind.TheVariants.{Free}
use Rattle.ct_sorts.specs.Declarations.{Declarations, Sort}
use Rattle.ct_sorts.specs.Consistent.{IsConsistent, FitsKind}
use Rattle.ct_terms.specs.Fields.{ctor_ids_of_sort}
use Rattle.ct_listing.specs.Listable.{field_sorts, IsListable}
use Rattle.ct_listing.specs.Listing.{built_by, built_of, listed}
use Rattle.ct_finite.specs.Counts.{most_values, capped, count_at, IsCounted, AreCounts}
use Rattle.ct_finite.specs.Counting.{total, AreCapped, AreReady, IsUnderWay, IsComplete, missing}
use Rattle.ct_finite.proofs.CapLemmas.{capped_bound, capped_only, total_capped, length-built}

-- the theorems on listable sorts that counting rests on
pub record Theorems (d : Declarations) : Type 0 where
  pub consistent : IsConsistent d
  pub built : (s : SortId) (sort : Sort) → slice_get d.sorts s.0 ≡ Some sort → (sort.kind ≡ Free → ⊥) → ((c : CtorId) (field : SortId) → Contains sort.ctors c → Contains (field_sorts d c) field → IsListable d field) → IsListable d s
  pub parts : (s : SortId) → IsListable d s → (sort : Sort) × (slice_get d.sorts s.0 ≡ Some sort) × (sort.kind ≡ Free → ⊥) × ((c : CtorId) (field : SortId) → Contains sort.ctors c → Contains (field_sorts d c) field → IsListable d field)
  pub unfolds : (s : SortId) → IsListable d s → listed d s ≡ built_of d (listed d) s
  pub some : (s : SortId) → IsListable d s → 0 < length (listed d s)

module _ (d : Declarations) where
  pub ctors_found : (s : SortId) (sort : Sort) → slice_get d.sorts s.0 ≡ Some sort → ctor_ids_of_sort d s ≡ sort.ctors
  ctors_found s sort at = ap (λ (o : Option Sort). unwrap_or (option_map (λ (u : Sort). u.ctors) o) []) at

  -- what is noted is capped
  pub counts_capped : (counts : List ℕ) → ((s : SortId) → 0 < count_at counts s → IsCounted d s (count_at counts s)) → AreCapped counts
  counts_capped counts counted n = by (get_or counts n 0) refl
    where
      by : (k : ℕ) → get_or counts n 0 ≡ k → k ≤ most_values + 1
      by zero e = omega arith
      by (suc k) e =
          let h = counted (record { 0 = n }) (omega (arith, e)) in
          let bound = capped_bound (length (listed d (record { 0 = n }))) in
          let same : get_or counts n 0 ≡ capped (length (listed d (record { 0 = n }))) = h.1 in
          omega (arith, e, bound, same)

  module _ (t : Theorems d) where
    not_free : (s : SortId) (sort : Sort) → slice_get d.sorts s.0 ≡ Some sort → 0 < length sort.ctors → sort.kind ≡ Free → ⊥
    not_free s sort at some e =
        let none : length sort.ctors ≡ 0 = subst (λ k. FitsKind s.0 k (length sort.ctors)) e (t.consistent.kinds s.0 sort at) in
        omega (arith, some, none)

    -- a sort with constructors all of whose fields have listable sorts is listable, and has so many values
    pub counted_next : (counts : List ℕ) → ((s : SortId) → 0 < count_at counts s → IsCounted d s (count_at counts s)) → (s : SortId) (sort : Sort) → slice_get d.sorts s.0 ≡ Some sort → AreReady d counts (ctor_ids_of_sort d s) → 0 < length (ctor_ids_of_sort d s) → IsCounted d s (capped (total (count_at counts) d (ctor_ids_of_sort d s)))
    counted_next counts counted s sort at ready some =
        let cs = ctors_found s sort at in
        let listable : IsListable d s = t.built s sort at (not_free s sort at (subst (λ l. 0 < length l) cs some)) (λ c field inside within.
        (counted field (ready c field (subst (λ l. Contains l c) (sym cs) inside) within)).0) in (
          listable,
          total_capped (count_at counts) (λ field. length (listed d field)) d (ctor_ids_of_sort d s) (λ c field inside within. (counted field (ready c field inside within)).1)
              ∙ sym (ap capped (ap length (t.unfolds s listable) ∙ length-built (listed d) d (ctor_ids_of_sort d s))),
        )

    some_ctors : (s : SortId) → IsListable d s → 0 < length (ctor_ids_of_sort d s)
    some_ctors s h = by (ctor_ids_of_sort d s) (subst (λ l. 0 < length l) (t.unfolds s h) (t.some s h))
      where
        by : (cs : List CtorId) → 0 < length (flat_map (built_by d (listed d)) cs) → 0 < length cs
        by [] h = h
        by (c ∷ cs) h = omega arith

    -- where no more can be noted, the count of each listable sort is
    pub counts_all : (counts : List ℕ) → IsUnderWay d counts → IsComplete d counts → AreCounts d counts
    counts_all counts under_way complete =
        record {
          long = under_way.long;
          counted = under_way.counted;
          all = λ s h. below s.0 (h (λ n. nat_lt 0 (get_or counts n 0)) closed);
        }
      where
        below : (n : ℕ) → nat_lt 0 (get_or counts n 0) ≡ true → 0 < get_or counts n 0
        below n e = (Decides-ltb 0 (get_or counts n 0)).0 e

        closed : (s : ℕ) (sort : Sort) → slice_get d.sorts s ≡ Some sort → (sort.kind ≡ Free → ⊥) → ((c : CtorId) (field : SortId) → Contains sort.ctors c → Contains (field_sorts d c) field → nat_lt 0 (get_or counts field.0 0) ≡ true) → nat_lt 0 (get_or counts s 0) ≡ true
        closed s sort at kind each =
            let id : SortId = record { 0 = s } in
            let cs = ctors_found id sort at in
            let listable : IsListable d id = t.built id sort at kind (λ c field inside within. (under_way.counted field (below field.0 (each c field inside within))).0) in
            (Decides-ltb 0 (get_or counts s 0)).1
            (complete id (some_ctors id listable) (λ c field inside within. below field.0 (each c field (subst (λ l. Contains l c) cs inside) within)))

-- a count is noted
pub get-noted : (counts : List ℕ) (n value : ℕ) → n < length counts → get_or (set counts n value) n 0 ≡ value
get-noted [] n value h = absurd (omega arith)
get-noted (k ∷ counts) zero value h = refl
get-noted (k ∷ counts) (suc n) value h = get-noted counts n value (omega arith)

pub get-other : (counts : List ℕ) (n m value : ℕ) → (m ≡ n → ⊥) → get_or (set counts n value) m 0 ≡ get_or counts m 0
get-other [] n m value other = refl
get-other (k ∷ counts) zero zero value other = absurd (other refl)
get-other (k ∷ counts) zero (suc m) value other = refl
get-other (k ∷ counts) (suc n) zero value other = refl
get-other (k ∷ counts) (suc n) (suc m) value other = get-other counts n m value (λ e. other (ap suc e))

pub length-noted : (counts : List ℕ) (n value : ℕ) → length (set counts n value) ≡ length counts
length-noted [] n value = refl
length-noted (k ∷ counts) zero value = refl
length-noted (k ∷ counts) (suc n) value = ap suc (length-noted counts n value)

pub missing-noted : (counts : List ℕ) (n value : ℕ) → n < length counts → get_or counts n 0 ≡ 0 → 0 < value → missing (set counts n value) < missing counts
missing-noted [] n value h e some = absurd (omega arith)
missing-noted (zero ∷ counts) zero zero h e some = absurd (omega arith)
missing-noted (zero ∷ counts) zero (suc value) h e some = omega arith
missing-noted (suc k ∷ counts) zero value h e some = absurd (omega (arith, e))
missing-noted (zero ∷ counts) (suc n) value h e some = let less = missing-noted counts n value (omega arith) e some in omega (arith, less)
missing-noted (suc k ∷ counts) (suc n) value h e some = missing-noted counts n value (omega arith) e some

-- what was noted before stays right, and so is what is noted now
pub under_way_noted : (d : Declarations) (counts : List ℕ) (s : SortId) (value : ℕ) → s.0 < length counts → IsUnderWay d counts → IsCounted d s value → IsUnderWay d (set counts s.0 value)
under_way_noted d counts s value h under_way counted =
    record {
      long = length-noted counts s.0 value ∙ under_way.long;
      counted = λ u. by u (same_or_other u.0 s.0);
    }
  where
    by : (u : SortId) → (u.0 ≡ s.0) ⊎ (u.0 ≡ s.0 → ⊥) → 0 < get_or (set counts s.0 value) u.0 0 → IsCounted d u (get_or (set counts s.0 value) u.0 0)
    by u (inl e) some =
        let same : u ≡ s = ap (λ (n : ℕ). record { 0 = n }) e in
        rw same (subst (IsCounted d s) (sym (get-noted counts s.0 value h)) counted)
    by u (inr other) some =
        let same = get-other counts s.0 u.0 value other in
        subst (IsCounted d u) (sym same) (under_way.counted u (omega (arith, some, same)))

-- the count of a sort is noted that is not known, where those of its fields' sorts are
pub learned : (d : Declarations) → Theorems d → (counts : List ℕ) (s : SortId) (value : ℕ) → s.0 < length d.sorts → IsUnderWay d counts → 0 < value → AreReady d counts (ctor_ids_of_sort d s) → value ≡ capped (total (count_at counts) d (ctor_ids_of_sort d s)) → IsUnderWay d (set counts s.0 value)
learned d t counts s value within under_way some ready e =
    let sort = slice_get-there d.sorts s.0 within in
    let constructors : 0 < length (ctor_ids_of_sort d s) = not_none (ctor_ids_of_sort d s) (capped_only (total (count_at counts) d (ctor_ids_of_sort d s)) (omega (arith, some, e))) in
    let inside : s.0 < length counts = omega (arith, within, under_way.long) in
    under_way_noted d counts s value inside under_way
    (subst (IsCounted d s) (sym e) (counted_next d t counts under_way.counted s sort.0 sort.1 ready constructors))
  where
    not_none : (cs : List CtorId) → 0 < total (count_at counts) d cs → 0 < length cs
    not_none [] h = h
    not_none (c ∷ cs) h = omega arith
