-- The constructors of a sort, and the sorts of their fields.
use Rattle.std.proofs.Common.{◌≡◌, ℕ, zero, suc, ◌<◌, List, [], ◌∷◌, length, map, Option, Some, None, option_map, unwrap_or, take, slice_get, Contains, refl, sym, ◌∙◌, ap, subst, arith}
use Rattle.std.proofs.lemmas.Option.{same_Some, none-some}
use Rattle.std.proofs.lemmas.List.Folds.{flat_map-map}
use Rattle.std.specs.List.{range_with_len}
use Rattle.ct_lemmas.proofs.Contained.{Contains-from_slice_get, slice_get-from_Contains, Contains-first}
use Rattle.ct_lemmas.proofs.Lists.{slice_get-there, slice_get-map_at}
use Rattle.ct_lemmas.proofs.Prefixes.{take-slice_get}
use Rattle.ct_sorts.specs.declared.ids.CtorId.{CtorId}
use Rattle.ct_sorts.specs.declared.ids.SelId.{SelId}
use Rattle.ct_sorts.specs.declared.ids.SortId.{SortId}
use Rattle.ct_sorts.specs.declared.ids.Kind.{Kind}
use Rattle.ct_sorts.specs.declared.ids.Kind.TheVariants.{Bool as BoolKind, Free, Data, Codata}
use Rattle.ct_sorts.specs.Declarations.{Declarations, Sort, Constructor, Selector, bool, bool_sort, ctor_ids}
use Rattle.ct_sorts.specs.Consistent.{IsConsistent, FitsKind, indices}
use Rattle.ct_sorts.specs.Structure.{AreOfTheirSorts}
use Rattle.ct_sorts.proofs.StructureLemmas.{item_number}
use Rattle.ct_terms.specs.Fields.{ctor_ids_of_sort}
use Rattle.ct_listing.specs.Listable.{field_sort, field_sorts}
use Rattle.ct_listing.proofs.ListLemmas.{AreDifferent, different_none}

module _ (d : Declarations) where
  pub ctors_found : (s : SortId) (sort : Sort) → slice_get d.sorts s.0 ≡ Some sort → ctor_ids_of_sort d s ≡ sort.ctors
  ctors_found s sort at = ap (λ (o : Option Sort). unwrap_or (option_map (λ (u : Sort). u.ctors) o) []) at

  pub fields_found : (c : CtorId) (ctor : Constructor) → slice_get d.ctors c.0 ≡ Some ctor → field_sorts d c ≡ map (field_sort d) ctor.sels
  fields_found c ctor at = ap (λ (o : Option Constructor). map (field_sort d) (unwrap_or (option_map (λ (k : Constructor). k.sels) o) [])) at

  pub field_found : (s : SelId) (selector : Selector) → slice_get d.sels s.0 ≡ Some selector → field_sort d s ≡ selector.sort
  field_found s selector at = ap (λ (o : Option Selector). unwrap_or (option_map (λ (u : Selector). u.sort) o) bool_sort) at

  -- a constructor is among those of its sort
  pub ctor_among : AreOfTheirSorts d → (c : CtorId) (ctor : Constructor) (s : SortId) → slice_get d.ctors c.0 ≡ Some ctor → ctor.sort ≡ s → Contains (ctor_ids_of_sort d s) c
  ctor_among of_sorts c ctor s at e =
      let found = of_sorts c.0 ctor at in
      subst (λ t. Contains (ctor_ids_of_sort d t) c) e
      (subst (λ l. Contains l c) (sym (ctors_found ctor.sort found.0 found.2)) (Contains-from_slice_get found.0.ctors found.1 c found.3))

  module _ (consistent : IsConsistent d) where
    -- no constructor comes twice in a sort
    pub ctors_once : (s : ℕ) (sort : Sort) → slice_get d.sorts s ≡ Some sort → AreDifferent sort.ctors
    ctors_once s sort at i j c at_i at_j =
        let groups = map (λ (t : Sort). t.ctors) d.sorts in
        let all = flat_map-map _ (λ (t : Sort). t.ctors) d.sorts ∙ consistent.all_ctors in
        let group = slice_get-map_at (λ (t : Sort). t.ctors) d.sorts s sort at in
        let a = item_number (λ n. record { 0 = n }) groups (length d.ctors) all s i sort.ctors c group at_i in
        let b = item_number (λ n. record { 0 = n }) groups (length d.ctors) all s j sort.ctors c group at_j in
        let e : a.0 ≡ b.0 = sym (ap (λ (k : CtorId). k.0) a.2) ∙ ap (λ (k : CtorId). k.0) b.2 in
        same_Some i j (sym a.4 ∙ ap (λ n. slice_get (indices groups) n) e ∙ b.4)

    pub ids_once : (s : SortId) → AreDifferent (ctor_ids_of_sort d s)
    ids_once s = by (slice_get d.sorts s.0) refl
      where
        by : (o : Option Sort) → slice_get d.sorts s.0 ≡ o → AreDifferent (unwrap_or (option_map (λ (u : Sort). u.ctors) o) [])
        by None e = different_none
        by (Some sort) e = ctors_once s.0 sort e

    -- a sort that is not uninterpreted has a constructor
    pub some_ctor : (s : ℕ) (sort : Sort) → slice_get d.sorts s ≡ Some sort → (sort.kind ≡ Free → ⊥) → (c : CtorId) × Contains sort.ctors c
    some_ctor s sort at kind = by sort.kind (consistent.kinds s sort at) kind
      where
        first : (cs : List CtorId) → 0 < length cs → (c : CtorId) × Contains cs c
        first [] h = absurd (omega arith)
        first (c ∷ cs) h = (c, Contains-first c cs)

        truths : s ≡ 0 → (c : CtorId) × Contains sort.ctors c
        truths e =
            let here : slice_get (take 1 d.sorts) 0 ≡ Some sort = take-slice_get 1 d.sorts 0 sort (omega arith) (subst (λ n. slice_get d.sorts n ≡ Some sort) e at) in
            let same : bool ≡ sort = same_Some bool sort (sym (ap (λ l. slice_get l 0) consistent.first_sort) ∙ here) in
            first sort.ctors (subst (λ (u : Sort). 0 < length u.ctors) same (omega arith))

        by : (k : Kind) → FitsKind s k (length sort.ctors) → (k ≡ Free → ⊥) → (c : CtorId) × Contains sort.ctors c
        by BoolKind h other = truths h
        by Free h other = absurd (other refl)
        by Data h other = first sort.ctors h
        by Codata h other = first sort.ctors h
