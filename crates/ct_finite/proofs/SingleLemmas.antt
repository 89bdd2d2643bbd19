-- Sorts each of whose constructors has one value.
use Rattle.std.proofs.Common.{◌≡◌, ℕ, zero, suc, ◌+◌, ◌<◌, ◌≤◌, List, [], ◌∷◌, ◌++◌, length, get_or, slice_get, Contains, sym, ◌∙◌, ap, arith, length-append}
use Rattle.std.specs.List.{flat_map}
use Rattle.ct_lemmas.proofs.Contained.{Contains-first, Contains-rest}
use Rattle.ct_lemmas.proofs.Lists.{slice_get-prefix, slice_get-append_after}
use Rattle.ct_sorts.specs.declared.ids.CtorId.{CtorId}
use Rattle.ct_sorts.specs.declared.ids.SortId.{SortId}
use Rattle.ct_sorts.specs.Declarations.{Declarations}
use Rattle.ct_terms.specs.Fields.{ctor_ids_of_sort}
use Rattle.ct_listing.specs.Listable.{field_sorts, IsListable}
use Rattle.ct_listing.specs.Listing.{built_by, listed}
use Rattle.ct_finite.proofs.CapLemmas.{length-built_by, ways_some}
use Rattle.ct_finite.proofs.CountLemmas.{Theorems}
use Rattle.ct_finite.proofs.PartLemmas.{field_listable}
use Rattle.ct_finite.proofs.StepLemmas.{first_ctor}

module _ {X Y : Type 0} (f : X → List Y) where
  -- lists that are not empty have as many elements as they are, or more
  at_least : (xs : List X) → ((x : X) → Contains xs x → 0 < length (f x)) → length xs ≤ length (flat_map f xs)
  at_least [] each = omega arith
  at_least (x ∷ xs) each =
      let here = each x (Contains-first x xs) in
      let after = at_least xs (λ y at. each y (Contains-rest x xs y at)) in
      omega (arith, length-append (f x) (flat_map f xs), here, after)

  -- where they have as many, each has one
  pub one_each : (xs : List X) (k : ℕ) (first : X) → ((x : X) → Contains xs x → 0 < length (f x)) → length (flat_map f xs) ≡ length xs → k < length xs → slice_get (flat_map f xs) k ≡ slice_get (f (get_or xs k first)) 0
  one_each [] k first each e less = absurd (omega (arith, less))
  one_each (x ∷ xs) zero first each e less = slice_get-prefix (f x) (flat_map f xs) 0 (each x (Contains-first x xs))
  one_each (x ∷ xs) (suc k) first each e less =
      let here = each x (Contains-first x xs) in
      let later : (y : X) → Contains xs y → 0 < length (f y) = λ y at. each y (Contains-rest x xs y at) in
      let long = length-append (f x) (flat_map f xs) in
      let least = at_least xs later in
      let place : suc k ≡ length (f x) + k = omega (arith, here, long, least, e) in
      ap (slice_get (f x ++ flat_map f xs)) place
      ∙ slice_get-append_after (f x) (flat_map f xs) k
      ∙ one_each xs k first later (omega (arith, here, long, least, e)) (omega (arith, less))

module _ (d : Declarations) (t : Theorems d) (s : SortId) (h : IsListable d s) where
  -- a constructor of a listable sort has a value
  pub built_some : (c : CtorId) → Contains (ctor_ids_of_sort d s) c → 0 < length (built_by d (listed d) c)
  built_some c among =
      let some = ways_some (λ f. length (listed d f)) (field_sorts d c) (λ f within. t.some f (field_listable d t s h c f among within)) in
      omega (arith, some, length-built_by (listed d) d c)

  -- and where it has no more, it is found by its number
  pub single_entry : (k : ℕ) → length (listed d s) ≡ length (ctor_ids_of_sort d s) → k < length (listed d s) → slice_get (listed d s) k ≡ slice_get (built_by d (listed d) (get_or (ctor_ids_of_sort d s) k first_ctor)) 0
  single_entry k e less =
      let unfolds = t.unfolds s h in
      ap (λ l. slice_get l k) unfolds
      ∙ one_each (built_by d (listed d)) (ctor_ids_of_sort d s) k first_ctor built_some (sym (ap length unfolds) ∙ e) (omega (arith, less, e))
