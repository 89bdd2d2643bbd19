-- One more field, and one more constructor.
use Rattle.std.proofs.Common.{◌≡◌, ℕ, ◌+◌, ◌*◌, ◌<◌, List, [], ◌∷◌, ◌++◌, length, map, take, get_or, Some, option_map, unwrap_or, slice_get, Contains, sym, ◌∙◌, ap, ap₂, subst, inl, inr, arith}
use Rattle.std.proofs.lemmas.List.{take_more, map-append}
use Rattle.ct_lemmas.proofs.Contained.{Contains-cons, Contains-none}
use Rattle.ct_sorts.specs.declared.ids.CtorId.{CtorId}
use Rattle.ct_sorts.specs.declared.ids.SelId.{SelId}
use Rattle.ct_sorts.specs.declared.ids.SortId.{SortId}
use Rattle.ct_sorts.specs.Declarations.{Declarations, Sort, Constructor, Selector, bool_sort}
use Rattle.ct_terms.specs.Fields.{ctor_ids_of_sort}
use Rattle.ct_listing.specs.Listable.{field_sort, field_sorts}
use Rattle.ct_listing.proofs.ListLemmas.{Contains-either}
use Rattle.ct_finite.specs.Counts.{capped, count_at}
use Rattle.ct_finite.specs.Counting.{ways, total, AreReady}
use Rattle.ct_finite.proofs.CapLemmas.{capped_product, capped_sums, capped_only, ways_push, ways_only, total_push}

abbrev pub first_sel : SelId
first_sel = record { 0 = 0 }

abbrev pub first_ctor : CtorId
first_ctor = record { 0 = 0 }

module _ (d : Declarations) where
  -- what a look-up gives is what definitions read
  pub field_read : (s : SelId) (f : SortId) → option_map (λ (u : Selector). u.sort) (slice_get d.sels s.0) ≡ Some f → field_sort d s ≡ f
  field_read s f e = ap (λ o. unwrap_or o bool_sort) e

  pub fields_read : (c : CtorId) (sels : List SelId) → option_map (λ (u : Constructor). u.sels) (slice_get d.ctors c.0) ≡ Some sels → field_sorts d c ≡ map (field_sort d) sels
  fields_read c sels e = ap (λ o. map (field_sort d) (unwrap_or o [])) e

  pub ctors_read : (s : SortId) (cs : List CtorId) → option_map (λ (u : Sort). u.ctors) (slice_get d.sorts s.0) ≡ Some cs → ctor_ids_of_sort d s ≡ cs
  ctors_read s cs e = ap (λ o. unwrap_or o []) e

  -- the product so far with one more field
  pub product_step : (counts : List ℕ) (sels : List SelId) (i : ℕ) (f : SortId) (product next : ℕ) → i < length sels → field_sort d (get_or sels i first_sel) ≡ f → product ≡ capped (ways (count_at counts) (map (field_sort d) (take i sels))) → next ≡ capped (product * count_at counts f) → next ≡ capped (ways (count_at counts) (map (field_sort d) (take (i + 1) sels)))
  product_step counts sels i f product next within sort before e =
      let sorts = map (field_sort d) (take i sels) in
      let more : map (field_sort d) (take (i + 1) sels) ≡ sorts ++ f ∷ [] =
      ap (map (field_sort d)) (take_more sels i first_sel within)
      ∙ map-append (field_sort d) (take i sels) (get_or sels i first_sel ∷ [])
      ∙ ap (λ u. sorts ++ u ∷ []) sort in
      e
      ∙ ap (λ n. capped (n * count_at counts f)) before
      ∙ capped_product (ways (count_at counts) sorts) (count_at counts f)
      ∙ ap capped (sym (ways_push (count_at counts) sorts f))
      ∙ ap (λ l. capped (ways (count_at counts) l)) (sym more)

  -- the sum so far with one more constructor
  pub sum_step : (counts : List ℕ) (cs : List CtorId) (i sum count next : ℕ) → i < length cs → sum ≡ capped (total (count_at counts) d (take i cs)) → count ≡ capped (ways (count_at counts) (field_sorts d (get_or cs i first_ctor))) → next ≡ capped (sum + count) → next ≡ capped (total (count_at counts) d (take (i + 1) cs))
  sum_step counts cs i sum count next within before of_ctor e =
      let c = get_or cs i first_ctor in
      e
      ∙ ap₂ (λ m n. capped (m + n)) before of_ctor
      ∙ capped_sums (total (count_at counts) d (take i cs)) (ways (count_at counts) (field_sorts d c))
      ∙ ap capped (sym (total_push (count_at counts) d (take i cs) c))
      ∙ ap (λ l. capped (total (count_at counts) d l)) (sym (take_more cs i first_ctor within))

  -- one more constructor has only fields whose counts are known
  pub ready_step : (counts : List ℕ) (cs : List CtorId) (i count : ℕ) → i < length cs → AreReady d counts (take i cs) → count ≡ capped (ways (count_at counts) (field_sorts d (get_or cs i first_ctor))) → 0 < count → AreReady d counts (take (i + 1) cs)
  ready_step counts cs i count within before of_ctor some c field inside of_field =
      let k = get_or cs i first_ctor in
      elim (Contains-either (take i cs) (k ∷ []) c (subst (λ l. Contains l c) (take_more cs i first_ctor within) inside)) [
        | inl earlier ↦ before c field earlier of_field
        | inr last ↦ elim (Contains-cons k [] c last) [
          | inl e ↦
              ways_only (count_at counts) (field_sorts d c)
              (subst (λ u. 0 < ways (count_at counts) (field_sorts d u)) e (capped_only (ways (count_at counts) (field_sorts d k)) (omega (arith, some, of_ctor))))
              field of_field
          | inr later ↦ absurd (Contains-none c later)
        ]
      ]
