-- How the entry of a number is found.
use Rattle.std.proofs.Common.{◌≡◌, ℕ, ◌+◌, ◌-◌, ◌*◌, ◌/◌, ◌%◌, ◌<◌, ◌≤◌, List, [], ◌∷◌, ◌++◌, length, map, drop, get_or, slice_get, Contains, sym, ◌∙◌, ap, subst, arith, length-append}
use Rattle.std.specs.List.{flat_map}
use Rattle.std.proofs.Math.Nat.{mul-div_cancel_left}
use Rattle.std.proofs.lemmas.List.{append_assoc}
use Rattle.ct_lemmas.proofs.Lists.{slice_get-prefix, slice_get-append_after, slice_get-map_at}
use Rattle.ct_lemmas.proofs.Prefixes.{drop-next}
use Rattle.ct_sorts.specs.declared.ids.CtorId.{CtorId}
use Rattle.ct_sorts.specs.declared.ids.SelId.{SelId}
use Rattle.ct_sorts.specs.declared.ids.SortId.{SortId}
use Rattle.ct_sorts.specs.Declarations.{Declarations}
use Rattle.ct_terms.specs.Fields.{ctor_ids_of_sort}
use Rattle.ct_listing.specs.Closed.{build, closed_of}
use Rattle.ct_listing.specs.Listable.{field_sort, field_sorts, IsListable}
use Rattle.ct_listing.specs.Listing.{choices, built_by, listed}
use Rattle.ct_finite.specs.Counts.{most_values, capped, count_at, AreCounts}
use Rattle.ct_finite.specs.Counting.{ways}
use Rattle.ct_finite.specs.Entries.{AreEntries, IsBuiltOf, digits}
use Rattle.ct_finite.proofs.CapLemmas.{capped_small, ways_capped, length-built_by, product_parts}
use Rattle.ct_finite.proofs.CountLemmas.{Theorems, ctors_found}
use Rattle.ct_finite.proofs.EntryLemmas.{digits_entries, ways_same}
use Rattle.ct_finite.proofs.FewLemmas.{few_built, few_field, exact_count}
use Rattle.ct_finite.proofs.StepLemmas.{first_sel, first_ctor}

module _ (d : Declarations) (t : Theorems d) where
  -- the fields of a constructor of a listable sort are listable
  pub field_listable : (s : SortId) → IsListable d s → (c : CtorId) (f : SortId) → Contains (ctor_ids_of_sort d s) c → Contains (field_sorts d c) f → IsListable d f
  field_listable s h c f among within =
      let parts = t.parts s h in
      parts.3 c f (subst (λ l. Contains l c) (ctors_found d s parts.0 parts.1) among) within

  pub field_few : (s : SortId) → IsListable d s → length (listed d s) ≤ most_values → (c : CtorId) (f : SortId) → Contains (ctor_ids_of_sort d s) c → Contains (field_sorts d c) f → length (listed d f) ≤ most_values
  field_few s h few c f among within =
      let less = few_field d s (t.unfolds s h) t.some c among (λ g inside. field_listable s h c g among inside) f within in
      omega (arith, less, few)

  module _ (counts : List ℕ) (all : AreCounts d counts) (s : SortId) (h : IsListable d s) (few : length (listed d s) ≤ most_values) where
    -- the count of a constructor of a listable sort with few values
    pub built_count : (c : CtorId) → Contains (ctor_ids_of_sort d s) c → capped (ways (count_at counts) (field_sorts d c)) ≡ length (built_by d (listed d) c)
    built_count c among =
        let less = few_built d s (t.unfolds s h) c among in
        ways_capped (count_at counts) (λ f. length (listed d f)) (field_sorts d c)
        (λ f within. let listable = field_listable s h c f among within in (all.counted f (all.all f listable)).1)
        ∙ ap capped (sym (length-built_by (listed d) d c))
        ∙ capped_small (length (built_by d (listed d) c)) (omega (arith, less, few))

    -- and of each of its fields
    pub field_count : (c : CtorId) → Contains (ctor_ids_of_sort d s) c → (f : SortId) → Contains (field_sorts d c) f → count_at counts f ≡ length (listed d f)
    field_count c among f within = exact_count d counts all f (field_listable s h c f among within) (field_few s h few c f among within)

    pub ways_count : (c : CtorId) → Contains (ctor_ids_of_sort d s) c → ways (count_at counts) (field_sorts d c) ≡ length (built_by d (listed d) c)
    ways_count c among =
        ways_same (count_at counts) (λ f. length (listed d f)) (field_sorts d c) (field_count c among) ∙ sym (length-built_by (listed d) d c)

    -- the entry that has these digits
    pub part_found : (k : ℕ) (c : CtorId) (left : ℕ) (numbers : List ℕ) → Contains (ctor_ids_of_sort d s) c → left < length (built_by d (listed d) c) → slice_get (listed d s) k ≡ slice_get (built_by d (listed d) c) left → numbers ≡ digits (count_at counts) (field_sorts d c) left → IsBuiltOf d s k c numbers
    part_found k c left numbers among less entry e =
        let found = digits_entries d (count_at counts) (field_sorts d c) (field_count c among) left (omega (arith, less, ways_count c among)) in (
          found.0,
          entry ∙ slice_get-map_at (λ vs. build c (closed_of vs)) (choices (map (listed d) (field_sorts d c))) left found.0 found.1,
          subst (λ l. AreEntries d (field_sorts d c) l found.0) (sym e) found.2,
        )

  -- the entries of the constructors from this one on
  pub entry_here : (cs : List CtorId) (i left : ℕ) → i < length cs → left < length (built_by d (listed d) (get_or cs i first_ctor)) → slice_get (flat_map (built_by d (listed d)) (drop i cs)) left ≡ slice_get (built_by d (listed d) (get_or cs i first_ctor)) left
  entry_here cs i left within less =
      let c = get_or cs i first_ctor in
      ap (λ l. slice_get (flat_map (built_by d (listed d)) l) left) (drop-next cs i first_ctor within)
      ∙ slice_get-prefix (built_by d (listed d) c) (flat_map (built_by d (listed d)) (drop (i + 1) cs)) left less

  pub entry_later : (cs : List CtorId) (i left count : ℕ) → i < length cs → count ≡ length (built_by d (listed d) (get_or cs i first_ctor)) → count ≤ left → left < length (flat_map (built_by d (listed d)) (drop i cs)) → (left - count < length (flat_map (built_by d (listed d)) (drop (i + 1) cs))) × (slice_get (flat_map (built_by d (listed d)) (drop i cs)) left ≡ slice_get (flat_map (built_by d (listed d)) (drop (i + 1) cs)) (left - count))
  entry_later cs i left count within e more less =
      let c = get_or cs i first_ctor in
      let here = built_by d (listed d) c in
      let after = flat_map (built_by d (listed d)) (drop (i + 1) cs) in
      let next = drop-next cs i first_ctor within in
      let long = ap (λ l. length (flat_map (built_by d (listed d)) l)) next ∙ length-append here after in
      let place : left ≡ length here + (left - count) = omega (arith, more, e) in (
        omega (arith, long, less, e, more),
        ap (λ l. slice_get (flat_map (built_by d (listed d)) l) left) next ∙ ap (λ n. slice_get (here ++ after) n) place ∙ slice_get-append_after here after (left - count),
      )

-- one digit
pub digit_step : (d : Declarations) (counts : List ℕ) (sels : List SelId) (i : ℕ) (f : SortId) (rest left : ℕ) (numbers whole : List ℕ) → i < length sels → field_sort d (get_or sels i first_sel) ≡ f → rest ≡ ways (count_at counts) (map (field_sort d) (drop i sels)) → 0 < rest → numbers ++ digits (count_at counts) (map (field_sort d) (drop i sels)) left ≡ whole → (0 < count_at counts f) × (0 < rest / count_at counts f) × (rest / count_at counts f ≡ ways (count_at counts) (map (field_sort d) (drop (i + 1) sels))) × ((numbers ++ left / (rest / count_at counts f) ∷ []) ++ digits (count_at counts) (map (field_sort d) (drop (i + 1) sels)) (left % (rest / count_at counts f)) ≡ whole)
digit_step d counts sels i f rest left numbers whole within sort is_rest some value =
    let after = map (field_sort d) (drop (i + 1) sels) in
    let w = ways (count_at counts) after in
    let n = count_at counts f in
    let next : map (field_sort d) (drop i sels) ≡ f ∷ after =
    ap (map (field_sort d)) (drop-next sels i first_sel within) ∙ ap (λ u. u ∷ after) sort in
    let product : rest ≡ n * w = is_rest ∙ ap (ways (count_at counts)) next in
    let parts = product_parts n w (omega (arith, some, product)) in
    let quotient : rest / n ≡ w = ap (λ r. r / n) product ∙ mul-div_cancel_left w parts.0 in (
      parts.0,
      omega (arith, quotient, parts.1),
      quotient,
      ap (λ q. (numbers ++ left / q ∷ []) ++ digits (count_at counts) after (left % q)) quotient
          ∙ append_assoc numbers (left / w ∷ []) (digits (count_at counts) after (left % w))
          ∙ ap (λ l. numbers ++ digits (count_at counts) l left) (sym next)
          ∙ value,
    )
