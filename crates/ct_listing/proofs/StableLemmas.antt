-- The list of a sort that is listable at a stage does not change after it.
use Rattle.std.proofs.Common.{◌≡◌, ℕ, zero, suc, ◌+◌, true, List, length, map, Some, slice_get, Contains, refl, sym, ◌∙◌, ap, subst, arith}
use Rattle.ct_sorts.specs.declared.ids.CtorId.{CtorId}
use Rattle.ct_sorts.specs.declared.ids.SortId.{SortId}
use Rattle.ct_sorts.specs.Declarations.{Declarations, Sort}
use Rattle.ct_terms.specs.Fields.{ctor_ids_of_sort}
use Rattle.ct_listing.specs.Closed.{ClosedValue, build, closed_of}
use Rattle.ct_listing.specs.Listable.{field_sorts, IsListable, stage}
use Rattle.ct_listing.specs.Listing.{choices, built_by, built_of, values_within, listed}
use Rattle.ct_listing.proofs.FieldLemmas.{ctors_found}
use Rattle.ct_listing.proofs.ListLemmas.{map_same, flat_map_same}
use Rattle.ct_listing.proofs.StageLemmas.{stage_parts, stage_zero, stage_later, listable_stage}

module _ (d : Declarations) where
  -- what a sort's constructors build depends on the values of its fields' sorts alone
  pub built_same : (v w : SortId → List ClosedValue) (s : SortId) → ((c : CtorId) (field : SortId) → Contains (ctor_ids_of_sort d s) c → Contains (field_sorts d c) field → v field ≡ w field) → built_of d v s ≡ built_of d w s
  built_same v w s h =
      flat_map_same (built_by d v) (built_by d w) (ctor_ids_of_sort d s)
      (λ c inside. ap (λ xss. map (λ vs. build c (closed_of vs)) (choices xss)) (map_same v w (field_sorts d c) (λ field within. h c field inside within)))

  pub stable : (n : ℕ) (s : SortId) → stage d n s.0 ≡ true → values_within (suc n) d s ≡ values_within n d s
  unfolding values_within
  stable zero s h = absurd (stage_zero d s.0 h)
  stable (suc n) s h =
      let parts = stage_parts d n s.0 h in
      built_same (values_within (suc n) d) (values_within n d) s
      (λ c field inside within. stable n field (parts.3 c field (subst (λ l. Contains l c) (ctors_found d s parts.0 parts.1) inside) within))

  pub stable_later : (n more : ℕ) (s : SortId) → stage d n s.0 ≡ true → values_within (n + more) d s ≡ values_within n d s
  stable_later n zero s h = ap (λ k. values_within k d s) (omega arith)
  stable_later n (suc more) s h =
      let e : n + suc more ≡ suc (n + more) = omega arith in
      ap (λ k. values_within k d s) e ∙ stable (n + more) s (stage_later d n more s.0 h) ∙ stable_later n more s h

  -- the list of a listable sort is made of those of its fields' sorts
  pub listed_unfolds : (s : SortId) → IsListable d s → listed d s ≡ built_of d (listed d) s
  unfolding values_within
  listed_unfolds s h = sym (stable (length d.sorts) s (listable_stage d s h))
