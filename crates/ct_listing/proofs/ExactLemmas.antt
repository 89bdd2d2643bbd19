-- The list of a listable sort has the closed values of the sort, and no others.
use Rattle.std.proofs.Common.{◌≡◌, ℕ, zero, suc, ◌<◌, true, List, [], ◌∷◌, length, map, Option, Some, None, option_map, unwrap_or, slice_get, Contains, refl, sym, ◌∙◌, ap, subst, arith}
use Rattle.std.specs.List.{AllZip}
use Rattle.ct_lemmas.proofs.Contained.{slice_get-from_Contains, Contains-from_slice_get, Contains-none, Contains-first, Contains-rest, Contains-map, Contains-map_cases}
use Rattle.ct_sorts.specs.declared.ids.CtorId.{CtorId}
use Rattle.ct_sorts.specs.declared.ids.SelId.{SelId}
use Rattle.ct_sorts.specs.declared.ids.SortId.{SortId}
use Rattle.ct_sorts.specs.Declarations.{Declarations, Sort, Constructor, Selector}
use Rattle.ct_sorts.specs.Consistent.{IsConsistent}
use Rattle.ct_sorts.specs.Structure.{HaveOwnConstructors, HaveOwnSelectors}
use Rattle.ct_terms.specs.Fields.{ctor_ids_of_sort}
use Rattle.ct_listing.specs.Closed.{ClosedValue, build, closed_of, IsClosedOf, AreClosedOf}
use Rattle.ct_listing.specs.Listable.{field_sort, field_sorts, stage}
use Rattle.ct_listing.specs.Listing.{choices, built_by, values_within}
use Rattle.ct_listing.proofs.ChoiceLemmas.{choices_only, choices_some}
use Rattle.ct_listing.proofs.FieldLemmas.{ctors_found, fields_found, field_found, some_ctor}
use Rattle.ct_listing.proofs.ListLemmas.{Contains-flat_map, Contains-flat_map_cases}
use Rattle.ct_listing.proofs.StageLemmas.{stage_parts, stage_zero}

module _ (d : Declarations) where
  -- entries of the fields' lists are closed values of the fields
  closed_fields : (values : SortId → List ClosedValue) → ((s : SortId) (v : ClosedValue) → Contains (values s) v → IsClosedOf d v s) → (sels : List SelId) → ((s : SelId) → Contains sels s → (selector : Selector) × (slice_get d.sels s.0 ≡ Some selector)) → (vs : List ClosedValue) → AllZip Contains (map values (map (field_sort d) sels)) vs → AreClosedOf d (closed_of vs) sels
  closed_fields values each [] declared [] h = tt
  closed_fields values each [] declared (v ∷ vs) h = absurd h
  closed_fields values each (s ∷ ss) declared [] h = absurd h
  closed_fields values each (s ∷ ss) declared (v ∷ vs) h =
      let found = declared s (Contains-first s ss) in (
        (found.0, found.1, subst (IsClosedOf d v) (field_found d s found.0 found.1) (each (field_sort d s) v h.0)),
        closed_fields values each ss (λ t at. declared t (Contains-rest s ss t at)) vs h.1,
      )

  module _ (own : HaveOwnConstructors d) (own_sels : HaveOwnSelectors d) where
    -- a constructor among those of a sort is of the sort
    own_ctor : (s : SortId) (c : CtorId) → Contains (ctor_ids_of_sort d s) c → (ctor : Constructor) × (slice_get d.ctors c.0 ≡ Some ctor) × (ctor.sort ≡ s)
    own_ctor s c inside = by (slice_get d.sorts s.0) refl inside
      where
        by : (o : Option Sort) → slice_get d.sorts s.0 ≡ o → Contains (unwrap_or (option_map (λ (u : Sort). u.ctors) o) []) c → (ctor : Constructor) × (slice_get d.ctors c.0 ≡ Some ctor) × (ctor.sort ≡ s)
        by None e h = absurd (Contains-none c h)
        by (Some sort) e h =
            let at = slice_get-from_Contains sort.ctors c h in
            let found = own s.0 at.0 sort c e at.1 in
            (found.0, found.1, ap (λ (n : ℕ). record { 0 = n }) found.2)

    -- every entry is a closed value of the sort
    pub entries_closed : (n : ℕ) (s : SortId) (v : ClosedValue) → Contains (values_within n d s) v → IsClosedOf d v s
    unfolding values_within
    entries_closed zero s v h = absurd (Contains-none v h)
    entries_closed (suc n) s v h =
        let found = Contains-flat_map_cases (built_by d (values_within n d)) (ctor_ids_of_sort d s) v h in
        let c = found.0 in
        let of_ctor = own_ctor s c found.1 in
        let ctor = of_ctor.0 in
        let chosen = Contains-map_cases (λ vs. build c (closed_of vs)) (choices (map (values_within n d) (field_sorts d c))) v found.2 in
        let rows = choices_only (map (values_within n d) (field_sorts d c)) chosen.0 chosen.1 in
        let fields = closed_fields (values_within n d) (entries_closed n) ctor.sels
        (λ t at.
        let place = slice_get-from_Contains ctor.sels t at in
        let there = own_sels c.0 place.0 ctor t of_ctor.1 place.1 in
        (there.0, there.1))
        chosen.0
        (subst (λ l. AllZip Contains (map (values_within n d) l) chosen.0) (fields_found d c ctor of_ctor.1) rows) in
        subst (λ (w : ClosedValue). IsClosedOf d w s) chosen.2 (ctor, of_ctor.1, of_ctor.2, fields)

  -- the list of a sort that is listable at a stage is not empty
  pub some_value : IsConsistent d → (n : ℕ) (s : SortId) → stage d n s.0 ≡ true → (v : ClosedValue) × Contains (values_within n d s) v
  unfolding values_within
  some_value consistent zero s h = absurd (stage_zero d s.0 h)
  some_value consistent (suc n) s h =
      let parts = stage_parts d n s.0 h in
      let first = some_ctor d consistent s.0 parts.0 parts.1 parts.2 in
      let c = first.0 in
      let chosen = choices_some (map (values_within n d) (field_sorts d c)) (λ xs at.
      let field = Contains-map_cases (values_within n d) (field_sorts d c) xs at in
      let found = some_value consistent n field.0 (parts.3 c field.0 first.1 field.1) in
      (found.0, subst (λ (l : List ClosedValue). Contains l found.0) field.2 found.1)) in
      let v = build c (closed_of chosen.0) in (
        v,
        Contains-flat_map (built_by d (values_within n d)) (ctor_ids_of_sort d s) c v
            (subst (λ l. Contains l c) (sym (ctors_found d s parts.0 parts.1)) first.1)
            (Contains-map (λ vs. build c (closed_of vs)) (choices (map (values_within n d) (field_sorts d c))) chosen.0 chosen.1),
      )

-- what contains something is not empty
pub not_empty : {X : Type 0} (xs : List X) (x : X) → Contains xs x → 0 < length xs
not_empty xs x h = omega (arith, h.1)
