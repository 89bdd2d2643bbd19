-- Every value of a sort that is listable at a stage is the same as an entry of its list.
use Rattle.std.proofs.Common.{◌≡◌, ℕ, zero, suc, ◌↔◌, true, List, [], ◌∷◌, map, Some, slice_get, Contains, refl, sym, ◌∙◌, ap, subst}
use Rattle.std.specs.List.{AllZip}
use Rattle.ct_lemmas.proofs.Contained.{Contains-first, Contains-rest, Contains-map}
use Rattle.ct_sorts.specs.declared.ids.CtorId.{CtorId}
use Rattle.ct_sorts.specs.declared.ids.SelId.{SelId}
use Rattle.ct_sorts.specs.declared.ids.SortId.{SortId}
use Rattle.ct_sorts.specs.declared.ids.Kind.TheVariants.{Free}
use Rattle.ct_sorts.specs.Declarations.{Declarations, Sort}
use Rattle.ct_sorts.specs.Structure.{AreOfTheirSorts}
use Rattle.ct_values.specs.Graph.{Nodes}
use Rattle.ct_values.specs.Value.{Value, list_of}
use Rattle.ct_values.specs.Agreement.{point, children_of, AgreeAlways}
use Rattle.ct_values.specs.Fitting.{FitsGraph}
use Rattle.ct_values.specs.Inversion.{IsConstructed, IsValueOfField}
use Rattle.ct_values.specs.ValueSort.{HasValueSort}
use Rattle.ct_terms.specs.Fields.{ctor_ids_of_sort}
use Rattle.ct_listing.specs.Closed.{ClosedValue, build, closed_of, value_of, values_under}
use Rattle.ct_listing.specs.Listable.{field_sort, field_sorts, stage}
use Rattle.ct_listing.specs.Listing.{choices, built_by, values_within}
use Rattle.ct_listing.proofs.ChoiceLemmas.{choices_all}
use Rattle.ct_listing.proofs.DifferentLemmas.{AreByParts}
use Rattle.ct_listing.proofs.FieldLemmas.{ctors_found, fields_found, field_found, ctor_among}
use Rattle.ct_listing.proofs.ListLemmas.{Contains-flat_map}
use Rattle.ct_listing.proofs.StageLemmas.{stage_parts, stage_zero}

-- a value of a sort that is not uninterpreted is built by a constructor
abbrev pub AreConstructed : Declarations → Nodes → Type 0
AreConstructed d g =
    (v : Value) (s : SortId) (sort : Sort) → HasValueSort d g v s → slice_get d.sorts s.0 ≡ Some sort → (sort.kind ≡ Free → ⊥)
    → (c : CtorId) × IsConstructed d g v c s

module _ (d : Declarations) (always : AreByParts) (of_sorts : AreOfTheirSorts d) (g h : Nodes) (constructed : AreConstructed d g) where
  -- the value is the same as one of these
  abbrev pub IsOneOf : List ClosedValue → Value → Type 0
  IsOneOf ws v = (w : ClosedValue) × Contains ws w × AgreeAlways (point g v) (point h (value_of w))

  -- values of fields are the same as entries, one for one
  entries : (values : SortId → List ClosedValue) (vs : List Value) (sels : List SelId) → AllZip (IsValueOfField d g) vs sels → ((s : SelId) (v : Value) → Contains sels s → HasValueSort d g v (field_sort d s) → IsOneOf (values (field_sort d s)) v) → (ws : List ClosedValue) × AllZip Contains (map values (map (field_sort d) sels)) ws × AllZip AgreeAlways (map (point g) vs) (map (point h) (list_of (values_under (closed_of ws))))
  entries values [] [] fit each = ([], tt, tt)
  entries values [] (s ∷ ss) fit each = absurd fit
  entries values (v ∷ vs) [] fit each = absurd fit
  entries values (v ∷ vs) (s ∷ ss) fit each =
      let field = fit.0 in
      let here = each s v (Contains-first s ss) (subst (HasValueSort d g v) (sym (field_found d s field.selector field.declared)) field.sorted) in
      let after = entries values vs ss fit.1 (λ t w at. each t w (Contains-rest s ss t at)) in
      (here.0 ∷ after.0, (here.1, after.1), (here.2, after.2))

  pub every : (n : ℕ) (s : SortId) (v : Value) → stage d n s.0 ≡ true → HasValueSort d g v s → IsOneOf (values_within n d s) v
  unfolding values_within
  every zero s v at sorted = absurd (stage_zero d s.0 at)
  every (suc n) s v at sorted =
      let parts = stage_parts d n s.0 at in
      let found = constructed v s parts.0 sorted parts.1 parts.2 in
      let c = found.0 in
      let built = found.1 in
      let among = ctor_among d of_sorts c built.ctor s built.declared built.of_sort in
      let fields = fields_found d c built.ctor built.declared in
      let rows = entries (values_within n d) (children_of g v) built.ctor.sels built.fields (λ t w within of_field.
      every n (field_sort d t) w
      (parts.3 c (field_sort d t) (subst (λ l. Contains l c) (ctors_found d s parts.0 parts.1) among) (subst (λ l. Contains l (field_sort d t)) (sym fields) (Contains-map (field_sort d) built.ctor.sels t within)))
      of_field) in
      let choice = choices_all (map (values_within n d) (field_sorts d c)) rows.0 (subst (λ l. AllZip Contains (map (values_within n d) l) rows.0) (sym fields) rows.1) in
      let w = build c (closed_of rows.0) in (
        w,
        Contains-flat_map (built_by d (values_within n d)) (ctor_ids_of_sort d s) c w among (Contains-map (λ vs. build c (closed_of vs)) (choices (map (values_within n d) (field_sorts d c))) rows.0 choice),
        (always (point g v) (point h (value_of w))).1 (built.headed, rows.2),
      )
