-- The sorts under a sort with few values have few values.
use Rattle.std.proofs.Common.{◌≡◌, ℕ, ◌+◌, ◌*◌, ◌<◌, ◌≤◌, List, [], ◌∷◌, length, Contains, ◌∙◌, ap, subst, inl, inr, arith}
use Rattle.std.proofs.Math.Nat.{mul-le-mul_left, mul-one, mul_comm}
use Rattle.ct_lemmas.proofs.Contained.{Contains-cons, Contains-none}
use Rattle.ct_sorts.specs.declared.ids.CtorId.{CtorId}
use Rattle.ct_sorts.specs.declared.ids.SortId.{SortId}
use Rattle.ct_sorts.specs.Declarations.{Declarations}
use Rattle.ct_terms.specs.Fields.{ctor_ids_of_sort}
use Rattle.ct_listing.specs.Listable.{field_sorts, IsListable}
use Rattle.ct_listing.specs.Listing.{built_by, built_of, listed}
use Rattle.ct_finite.specs.Counts.{most_values, count_at, AreCounts}
use Rattle.ct_finite.specs.Counting.{ways, total}
use Rattle.ct_finite.proofs.CapLemmas.{capped_small, length-built, length-built_by, product_parts, ways_some}

module _ (count : SortId → ℕ) where
  -- a count is at most the number of ways, where there are any
  pub factor : (sorts : List SortId) → 0 < ways count sorts → (s : SortId) → Contains sorts s → count s ≤ ways count sorts
  factor [] some s at = absurd (Contains-none s at)
  factor (t ∷ sorts) some s at =
      let parts = product_parts (count t) (ways count sorts) some in
      elim (Contains-cons t sorts s at) [
        | inl e ↦
            let one : 1 ≤ ways count sorts = omega (arith, parts.1) in
            subst (λ u. count u ≤ count t * ways count sorts) e (omega (arith, mul-le-mul_left (count t) one, mul-one (count t)))
        | inr later ↦
            let less = factor sorts parts.1 s later in
            let one : 1 ≤ count t = omega (arith, parts.0) in
            omega (arith, less, mul-le-mul_left (ways count sorts) one, mul-one (ways count sorts), mul_comm (ways count sorts) (count t))
      ]

  -- the ways of a constructor are at most those of all
  pub summand : (d : Declarations) (cs : List CtorId) (c : CtorId) → Contains cs c → ways count (field_sorts d c) ≤ total count d cs
  summand d [] c at = absurd (Contains-none c at)
  summand d (k ∷ cs) c at = elim (Contains-cons k cs c at) [
    | inl e ↦ subst (λ u. ways count (field_sorts d u) ≤ ways count (field_sorts d k) + total count d cs) e (omega arith)
    | inr later ↦ let less = summand d cs c later in omega (arith, less)
  ]

module _ (d : Declarations) (s : SortId) (unfolds : listed d s ≡ built_of d (listed d) s) where
  -- a constructor builds at most as many values as the sort has
  pub few_built : (c : CtorId) → Contains (ctor_ids_of_sort d s) c → length (built_by d (listed d) c) ≤ length (listed d s)
  few_built c at =
      let less = summand (λ f. length (listed d f)) d (ctor_ids_of_sort d s) c at in
      omega (arith, less, length-built_by (listed d) d c, length-built (listed d) d (ctor_ids_of_sort d s), ap length unfolds)

  -- and so many each field's sort has
  pub few_field : ((f : SortId) → IsListable d f → 0 < length (listed d f)) → (c : CtorId) → Contains (ctor_ids_of_sort d s) c → ((f : SortId) → Contains (field_sorts d c) f → IsListable d f) → (f : SortId) → Contains (field_sorts d c) f → length (listed d f) ≤ length (listed d s)
  few_field some c at listable f within =
      let less = few_built c at in
      let positive = ways_some (λ t. length (listed d t)) (field_sorts d c) (λ t inside. some t (listable t inside)) in
      let below = factor (λ t. length (listed d t)) (field_sorts d c) positive f within in
      omega (arith, less, below, length-built_by (listed d) d c)

-- a sort with few values has the count that is noted
pub exact_count : (d : Declarations) (counts : List ℕ) → AreCounts d counts → (s : SortId) → IsListable d s → length (listed d s) ≤ most_values → count_at counts s ≡ length (listed d s)
exact_count d counts all s listable few = (all.counted s (all.all s listable)).1 ∙ capped_small (length (listed d s)) few
