-- How values may depart: a sort of several values with one constructor has a field of a lower rank; and infinite sorts have layers.
use Rattle.std.proofs.Common.{◌≡◌, ℕ, zero, suc, ◌+◌, ◌<◌, false, List, [], ◌∷◌, length, get_or, slice_get, Some, Option, option_map, unwrap_or, refl, sym, ◌∙◌, ap, subst, inl, inr, arith}
use Rattle.std.specs.List.{flat_map}
use Rattle.std.proofs.lemmas.Option.{none-some, same_Some, slice_get_within}
use Rattle.ct_lemmas.proofs.Lists.{slice_get-append_after, slice_get-append_left, slice_get-there}
use Rattle.ct_lemmas.proofs.Numbers.{same_or_other}
use Rattle.ct_sorts.specs.declared.ids.CtorId.{CtorId}
use Rattle.ct_sorts.specs.Declarations.{Declarations, Sort, ctor_ids}
use Rattle.ct_sorts.specs.Consistent.{IsConsistent}
use Rattle.ct_sorts.specs.Structure.{HaveOwnConstructors, AreOfTheirSorts, HaveOwnSelectors, AreOfTheirConstructors}
use Rattle.ct_card.specs.declared.departure.Step.{Step}
use Rattle.ct_card.specs.declared.departure.Layer.{Layer}
use Rattle.ct_card.specs.declared.departure.Departure.{Departure}
use Rattle.ct_card.specs.declared.departure.Departure.TheVariants.{Nowhere, Constructor as Other, Field}
use Rattle.ct_card.specs.Cardinality.{IsInfinite}
use Rattle.ct_card.specs.Fields.{ctor_fields, ctors_of}
use Rattle.ct_card.specs.Rules.{IsDerived}
use Rattle.ct_card.specs.Ranked.{AreSeveral, AreSmall}
use Rattle.ct_card.specs.Defaults.{is_free, is_free_sort}
use Rattle.ct_card.specs.Departures.{IsLower, IsDeparture, HasNoDeparture, IsDigitField, IsLayer, IsLargeStep, HasSmallFields}
use Rattle.ct_card.proofs.SizeLemmas.{derived_or, one_of, finite_small, infinite_large}
use Rattle.ct_card.proofs.RuleLemmas.{ctors_at, field_ctor}
use Rattle.ct_card.proofs.DefaultLemmas.{free_at, has_ctors}
use Rattle.ct_card.proofs.BuiltLemmas.{own_within, field_within}

-- the items of a list of lists stand in a row, those of each one after another
flat_offset : {X Y : Type 0} (f : X → List Y) (xs : List X) (i : ℕ) (x : X) → slice_get xs i ≡ Some x → (o : ℕ) × ((p : ℕ) (y : Y) → slice_get (f x) p ≡ Some y → slice_get (flat_map f xs) (o + p) ≡ Some y)
flat_offset f [] i x at = absurd (none-some _ at)
flat_offset {X} f (z ∷ xs) zero x at =
    (0, λ p y h. let e : 0 + p ≡ p = omega arith in rw e (slice_get-append_left (f z) (flat_map f xs) p y (subst (λ (w : X). slice_get (f w) p ≡ Some y) (sym (same_Some _ _ at)) h)))
flat_offset f (z ∷ xs) (suc i) x at =
    let rest = flat_offset f xs i x at in
    (length (f z) + rest.0, λ p y h. let e : length (f z) + rest.0 + p ≡ length (f z) + (rest.0 + p) = omega arith in rw e (slice_get-append_after (f z) (flat_map f xs) (rest.0 + p) ∙ rest.1 p y h))

-- an element of a row of constructors
row_at : (first count k : ℕ) (c : CtorId) → slice_get (ctor_ids first count) k ≡ Some c → c.0 ≡ first + k
row_at first zero k c at = absurd (none-some _ at)
row_at first (suc count) zero c at = let e : first + 0 ≡ first = omega arith in rw e (ap (λ (z : CtorId). z.0) (sym (same_Some _ _ at)))
row_at first (suc count) (suc k) c at = let h = row_at (first + 1) count k c at in omega arith

-- the constructors of the sort as a list
pub own_list : (d : Declarations) (s : ℕ) (own : List CtorId) → option_map (λ (x : Sort). x.ctors) (slice_get d.sorts s) ≡ Some own → ctors_of d s ≡ own
own_list d s own e = ap (λ (o : Option (List CtorId)). unwrap_or o []) e

-- the constructors of a sort are distinct
pub distinct_ctors : (d : Declarations) → IsConsistent d → (s : ℕ) (sort : Sort) → slice_get d.sorts s ≡ Some sort → (i j : ℕ) (c : CtorId) → slice_get sort.ctors i ≡ Some c → slice_get sort.ctors j ≡ Some c → i ≡ j
distinct_ctors d consistent s sort at i j c at_i at_j =
    let row = flat_offset (λ (x : Sort). x.ctors) d.sorts s sort at in
    let a = row_at 0 (length d.ctors) (row.0 + i) c (ap (λ (l : List CtorId). slice_get l (row.0 + i)) (sym consistent.all_ctors) ∙ row.1 i c at_i) in
    let b = row_at 0 (length d.ctors) (row.0 + j) c (ap (λ (l : List CtorId). slice_get l (row.0 + j)) (sym consistent.all_ctors) ∙ row.1 j c at_j) in
    omega arith

-- ---- the variants of a departure

number_of : Departure → ℕ
number_of Nowhere = 0
number_of (Other ctor) = 1
number_of (Field step) = 2

pub other_not_field : (ctor : CtorId) (step : Step) → Other ctor ≡ Field step → ⊥
unfolding number_of
other_not_field ctor step e = let h : 1 ≡ 2 = ap number_of e in omega (arith, h)

pub other_not_nowhere : (ctor : CtorId) → Other ctor ≡ Nowhere → ⊥
unfolding number_of
other_not_nowhere ctor e = let h : 1 ≡ 0 = ap number_of e in omega (arith, h)

pub nowhere_not_field : (step : Step) → Nowhere ≡ Field step → ⊥
unfolding number_of
nowhere_not_field step e = let h : 0 ≡ 2 = ap number_of e in omega (arith, h)

-- what was found among the fields of the constructor is a departure
pub field_departs : (d : Declarations) (several : List ℕ) (s : ℕ) (c : CtorId) (found : Departure)
    → ((step : Step) → found ≡ Field step → (step.ctor ≡ c) × (slice_get (ctor_fields d c) step.place ≡ Some step.next) × IsLower several step.next s)
    → ((ctor : CtorId) → found ≡ Other ctor → ⊥) → IsDeparture d several s c found
field_departs d several s c Nowhere field other = tt
field_departs d several s c (Other ctor) field other = absurd (other ctor refl)
field_departs d several s c (Field step) field other = let h = field step refl in record { ctor = h.0; field = h.1; lower = h.2 }

pub distinct_list : (d : Declarations) → IsConsistent d → (s : ℕ) (own : List CtorId) → s < length d.sorts → option_map (λ (x : Sort). x.ctors) (slice_get d.sorts s) ≡ Some own → (i j : ℕ) (c : CtorId) → slice_get own i ≡ Some c → slice_get own j ≡ Some c → i ≡ j
distinct_list d consistent s own within e i j c at_i at_j =
    let sort = slice_get-there d.sorts s within in
    let same : own ≡ sort.0.ctors = same_Some _ _ (sym e ∙ ap (option_map (λ (x : Sort). x.ctors)) sort.1) in
    distinct_ctors d consistent s sort.0 sort.1 i j c (ap (λ (l : List CtorId). slice_get l i) (sym same) ∙ at_i) (ap (λ (l : List CtorId). slice_get l j) (sym same) ∙ at_j)

alone : (x y : CtorId) (k : ℕ) → slice_get (x ∷ []) k ≡ Some y → x ≡ y
alone x y zero at = same_Some _ _ at
alone x y (suc k) at = absurd (none-some _ at)

module _ (d : Declarations) (consistent : IsConsistent d) (own : HaveOwnConstructors d) (own_sels : HaveOwnSelectors d) (of_sorts : AreOfTheirSorts d) (of_ctors : AreOfTheirConstructors d) (several : List ℕ) (sev : AreSeveral d several) where
  -- a sort of several values with one constructor has a field of a lower rank
  lower_field : (s index : ℕ) (c : CtorId) → s < length d.sorts → slice_get (ctors_of d s) index ≡ Some c → length (ctors_of d s) ≡ 1 → IsDerived several s → (k : ℕ) × (t : ℕ) × (slice_get (ctor_fields d c) k ≡ Some t) × IsLower several t s
  lower_field s index c within listed one derived =
      elim (sev.grounded s derived) [
        | inl other ↦ absurd (other.count (ap length (sym (ctors_at d consistent own own_sels of_sorts of_ctors s other.sort other.of_sort)) ∙ one))
        | inr has ↦
            let step = has.step in
            let only = one_of (ctors_of d s) one in
            let same_list : step.sort.ctors ≡ only.0 ∷ [] = sym (ctors_at d consistent own own_sels of_sorts of_ctors s step.sort step.of_sort) ∙ only.1 in
            let first : slice_get (only.0 ∷ []) step.index ≡ Some step.id = ap (λ (l : List CtorId). slice_get l step.index) (sym same_list) ∙ step.listed in
            let second : slice_get (only.0 ∷ []) index ≡ Some c = ap (λ (l : List CtorId). slice_get l index) (sym only.1) ∙ listed in
            let same : step.id ≡ c = sym (alone only.0 step.id step.index first) ∙ alone only.0 c index second in
            let fields = field_ctor d consistent own own_sels of_sorts of_ctors step.id step.ctor has.field step.declared step.field in
            (step.field.index, has.field, ap (λ (z : CtorId). slice_get (ctor_fields d z) step.field.index) (sym same) ∙ fields, (has.derived, has.lower))
      ]

  -- so it departs somewhere, if no field is skipped
  pub departs_somewhere : (s index : ℕ) (c : CtorId) → s < length d.sorts → slice_get (ctors_of d s) index ≡ Some c → IsDerived several s → HasNoDeparture d several s c (length (ctor_fields d c)) → ⊥
  departs_somewhere s index c within listed derived none =
      let lower = lower_field s index c within listed none.only derived in
      none.fields lower.0 lower.1 lower.2 (λ e. let h = slice_get_within (ctor_fields d c) lower.0 lower.1 lower.2 in omega arith) lower.3

  -- and if one field is skipped, that is of a lower rank
  skipped_lower : (s index : ℕ) (c : CtorId) (skip next : ℕ) → s < length d.sorts → slice_get (ctors_of d s) index ≡ Some c → IsDerived several s → slice_get (ctor_fields d c) skip ≡ Some next → HasNoDeparture d several s c skip → get_or several next 0 < get_or several s 0
  skipped_lower s index c skip next within listed derived at none =
      let lower = lower_field s index c within listed none.only derived in
      elim (same_or_other lower.0 skip) [
        | inl e ↦
            let same : lower.1 ≡ next = same_Some _ _ (sym lower.2 ∙ ap (slice_get (ctor_fields d c)) e ∙ at) in
            subst (λ n. get_or several n 0 < get_or several s 0) same lower.3.1
        | inr other ↦ absurd (none.fields lower.0 lower.1 lower.2 other lower.3)
      ]

  module _ (small : List ℕ) (ranks : AreSmall d several small) where
    large_several : (s : ℕ) → s < length d.sorts → IsInfinite d s → IsDerived several s
    large_several s within infinite =
        elim (derived_or several s) [ inl h ↦ h | inr none ↦ absurd (finite_small d consistent own several sev small ranks s (ranks.single s within none) infinite) ]

    -- a sort with constructors all of whose fields are small is not infinite
    pub not_infinite : (s : ℕ) → s < length d.sorts → is_free_sort d s ≡ false → HasSmallFields d small s → IsInfinite d s → ⊥
    not_infinite s within other all infinite =
        let sort = slice_get-there d.sorts s within in
        let kind : is_free sort.0.kind ≡ false = sym (free_at d consistent own own_sels of_sorts of_ctors s sort.0 sort.1) ∙ other in
        let some : 0 < length sort.0.ctors = has_ctors d consistent own own_sels of_sorts of_ctors s sort.0 sort.1 kind in
        finite_small d consistent own several sev small ranks s (ranks.built s sort.0 sort.1 some (λ t step.
        let listed : slice_get (ctors_of d s) step.index ≡ Some step.id = ap (λ (l : List CtorId). slice_get l step.index) (ctors_at d consistent own own_sels of_sorts of_ctors s step.sort step.of_sort) ∙ step.listed in
        all step.index step.field.index t step.id listed (field_ctor d consistent own own_sels of_sorts of_ctors step.id step.ctor t step.declared step.field))) infinite

    -- the layer by a step to a sort that is not small
    pub layer_from : (s : ℕ) (layer : Layer) (step : Step) → s < length d.sorts → IsInfinite d s → IsLargeStep d small s step → layer.step ≡ step → IsDeparture d several s step.ctor layer.departure → ((other : Step) → layer.departure ≡ Field other → other.place ≡ step.place → ⊥) → (layer.departure ≡ Nowhere → HasNoDeparture d several s step.ctor step.place) → ((digit : Step) → layer.digit ≡ Some digit → IsDigitField d several step digit) → IsLayer d several s layer
    layer_from s layer step within infinite large e departs apart nowhere digit =
        let inside : step.next < length d.sorts = field_within d consistent own own_sels of_sorts of_ctors step.ctor step.place step.next (own_within d consistent own own_sels of_sorts of_ctors s large.index step.ctor within large.listed) large.field in
        let same : step ≡ layer.step = sym e in
        subst (λ (z : Step). IsLayer d several s (record { step = z; departure = layer.departure; digit = layer.digit })) same
        record {
          index = large.index;
          listed = large.listed;
          field = large.field;
          infinite = infinite_large d consistent own several sev small ranks step.next inside large.large;
          departs = departs;
          apart = apart;
          falls = λ none. skipped_lower s large.index step.ctor step.place step.next within large.listed (large_several s within infinite) large.field (nowhere none);
          digit = digit;
        }
