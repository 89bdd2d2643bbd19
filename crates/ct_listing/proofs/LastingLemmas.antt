-- Listable sorts and their lists stay as they are with more declarations.
use Rattle.std.proofs.Common.{◌≡◌, ℕ, zero, suc, ◌+◌, ◌<◌, true, List, ◌++◌, length, map, Some, slice_get, Contains, refl, sym, ◌∙◌, ap, ap₂, subst, arith}
use Rattle.std.specs.List.{flat_map}
use Rattle.std.proofs.lemmas.List.{length-append}
use Rattle.std.proofs.lemmas.Option.{same_Some}
use Rattle.ct_lemmas.proofs.Contained.{slice_get-from_Contains, Contains-map_cases}
use Rattle.ct_lemmas.proofs.Lists.{slice_get-append_left, slice_get-there}
use Rattle.ct_sorts.specs.declared.ids.Kind.TheVariants.{Free}
use Rattle.ct_sorts.specs.Consistent.{AreFieldsOverSorts}
use Rattle.ct_sorts.specs.declared.ids.CtorId.{CtorId}
use Rattle.ct_sorts.specs.declared.ids.SelId.{SelId}
use Rattle.ct_sorts.specs.declared.ids.SortId.{SortId}
use Rattle.ct_sorts.specs.Declarations.{Declarations, Sort, Constructor}
use Rattle.ct_sorts.specs.Grown.{Begins, Extends}
use Rattle.ct_sorts.specs.Structure.{HaveOwnConstructors, HaveOwnSelectors}
use Rattle.ct_terms.specs.Fields.{ctor_ids_of_sort}
use Rattle.ct_listing.specs.Closed.{ClosedValue, build, closed_of}
use Rattle.ct_listing.specs.Listable.{field_sort, field_sorts, IsListable, stage}
use Rattle.ct_listing.specs.Listing.{choices, built_by, values_within, listed}
use Rattle.ct_listing.proofs.FieldLemmas.{ctors_found, fields_found, field_found}
use Rattle.ct_listing.proofs.ListLemmas.{map_same, flat_map_same}
use Rattle.ct_listing.proofs.StableLemmas.{stable_later}
use Rattle.ct_listing.proofs.StageLemmas.{stage_parts, stage_next, stage_zero, stage_listable, listable_stage}

still : {X : Type 0} (first second : List X) → Begins first second → (i : ℕ) (x : X) → slice_get first i ≡ Some x → slice_get second i ≡ Some x
still {X} first second (more, e) i x at = subst (λ (l : List X). slice_get l i ≡ Some x) (sym e) (slice_get-append_left first more i x at)

module _ (later earlier : Declarations) (extends : Extends later earlier) (own : HaveOwnConstructors earlier) (own_sels : HaveOwnSelectors earlier) where
  -- the fields of a constructor of a sort keep their sorts
  fields_still : (s : ℕ) (sort : Sort) (c : CtorId) → slice_get earlier.sorts s ≡ Some sort → Contains sort.ctors c → field_sorts later c ≡ field_sorts earlier c
  fields_still s sort c at inside =
      let place = slice_get-from_Contains sort.ctors c inside in
      let found = own s place.0 sort c at place.1 in
      fields_found later c found.0 (still earlier.ctors later.ctors extends.ctors c.0 found.0 found.1)
      ∙ map_same (field_sort later) (field_sort earlier) found.0.sels (λ t within.
      let row = slice_get-from_Contains found.0.sels t within in
      let sel = own_sels c.0 row.0 found.0 t found.1 row.1 in
      field_found later t sel.0 (still earlier.sels later.sels extends.sels t.0 sel.0 sel.1) ∙ sym (field_found earlier t sel.0 sel.1))
      ∙ sym (fields_found earlier c found.0 found.1)

  stage_still : (n s : ℕ) → stage earlier n s ≡ true → stage later n s ≡ true
  stage_still zero s h = absurd (stage_zero earlier s h)
  stage_still (suc n) s h =
      let parts = stage_parts earlier n s h in
      stage_next later n s (
        parts.0,
        still earlier.sorts later.sorts extends.sorts s parts.0 parts.1,
        parts.2,
        λ c field inside within.
            stage_still n field.0 (parts.3 c field inside (subst (λ l. Contains l field) (fields_still s parts.0 c parts.1 inside) within)),
      )

  values_still : (n : ℕ) (s : SortId) → stage earlier n s.0 ≡ true → values_within n later s ≡ values_within n earlier s
  unfolding values_within
  values_still zero s h = refl
  values_still (suc n) s h =
      let parts = stage_parts earlier n s.0 h in
      let old = ctors_found earlier s parts.0 parts.1 in
      let new = ctors_found later s parts.0 (still earlier.sorts later.sorts extends.sorts s.0 parts.0 parts.1) in
      ap (flat_map (built_by later (values_within n later))) (new ∙ sym old)
      ∙ flat_map_same (built_by later (values_within n later)) (built_by earlier (values_within n earlier)) (ctor_ids_of_sort earlier s) (λ c inside.
      let among = subst (λ l. Contains l c) old inside in
      let fields = fields_still s.0 parts.0 c parts.1 among in
      ap (λ xss. map (λ vs. build c (closed_of vs)) (choices xss))
      (ap (map (values_within n later)) fields
      ∙ map_same (values_within n later) (values_within n earlier) (field_sorts earlier c) (λ field within. values_still n field (parts.3 c field among within))))

  -- the fields of a constructor of a sort are of earlier sorts
  fields_inside : AreFieldsOverSorts earlier → (s : ℕ) (sort : Sort) (c : CtorId) (field : SortId) → slice_get earlier.sorts s ≡ Some sort → Contains sort.ctors c → Contains (field_sorts earlier c) field → field.0 < length earlier.sorts
  fields_inside over s sort c field at inside within =
      let place = slice_get-from_Contains sort.ctors c inside in
      let found = own s place.0 sort c at place.1 in
      let from = Contains-map_cases (field_sort earlier) found.0.sels field (subst (λ l. Contains l field) (fields_found earlier c found.0 found.1) within) in
      let row = slice_get-from_Contains found.0.sels from.0 from.1 in
      let sel = own_sels c.0 row.0 found.0 from.0 found.1 row.1 in
      subst (λ (t : SortId). t.0 < length earlier.sorts) (sym (field_found earlier from.0 sel.0 sel.1) ∙ from.2) (over from.0.0 sel.0 sel.1)

  -- an earlier sort that is listable at a stage later was so at this stage
  stage_back : AreFieldsOverSorts earlier → (n s : ℕ) → s < length earlier.sorts → stage later n s ≡ true → stage earlier n s ≡ true
  stage_back over zero s there h = absurd (stage_zero later s h)
  stage_back over (suc n) s there h =
      let parts = stage_parts later n s h in
      let sort = slice_get-there earlier.sorts s there in
      let same : parts.0 ≡ sort.0 = same_Some parts.0 sort.0 (sym parts.1 ∙ still earlier.sorts later.sorts extends.sorts s sort.0 sort.1) in
      stage_next earlier n s (
        sort.0,
        sort.1,
        subst (λ (u : Sort). u.kind ≡ Free → ⊥) same parts.2,
        λ c field inside within.
            stage_back over n field.0 (fields_inside over s sort.0 c field sort.1 inside within)
            (parts.3 c field (subst (λ (u : Sort). Contains u.ctors c) (sym same) inside) (subst (λ l. Contains l field) (sym (fields_still s sort.0 c sort.1 inside)) within)),
      )

  pub listable_back : AreFieldsOverSorts earlier → (s : SortId) → s.0 < length earlier.sorts → IsListable later s → IsListable earlier s
  listable_back over s there h = stage_listable earlier (length later.sorts) s (stage_back over (length later.sorts) s.0 there (listable_stage later s h))

  pub listable_still : (s : SortId) → IsListable earlier s → IsListable later s
  listable_still s h = stage_listable later (length earlier.sorts) s (stage_still (length earlier.sorts) s.0 (listable_stage earlier s h))

  pub listed_still : (s : SortId) → IsListable earlier s → listed later s ≡ listed earlier s
  listed_still s h =
      let at = listable_stage earlier s h in
      let long : length later.sorts ≡ length earlier.sorts + length extends.sorts.0 = ap length extends.sorts.1 ∙ length-append earlier.sorts extends.sorts.0 in
      ap (λ n. values_within n later s) long
      ∙ stable_later later (length earlier.sorts) (length extends.sorts.0) s (stage_still (length earlier.sorts) s.0 at)
      ∙ values_still (length earlier.sorts) s at
