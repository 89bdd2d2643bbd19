-- What a quantifier goes over: a value for each variable, whose terms have the variables' sorts. It stays as it is with more
-- declarations, and with other definitions.
use Rattle.std.proofs.Common.{◌≡◌, ℕ, zero, suc, ◌<◌, ◌↔◌, List, [], ◌∷◌, length, map, All, Contains, refl, sym, ap, ◌∙◌, arith}
use Rattle.std.specs.List.{AllZip, AllByRecursion}
use Rattle.std.proofs.lemmas.List.{length-map}
use Rattle.std.proofs.lemmas.List.Elements.{All-contains}
use Rattle.ct_lemmas.proofs.Contained.{Contains-first, Contains-rest}
use Rattle.ct_lemmas.proofs.Each.{All-from_Contains}
use Rattle.ct_sorts.specs.declared.ids.SortId.{SortId}
use Rattle.ct_sorts.specs.Declarations.{Declarations, Function}
use Rattle.ct_terms.specs.CoreSorts.{HasTreeSort}
use Rattle.ct_terms.specs.Fields.{ctor_ids_of_sort}
use Rattle.ct_listing.specs.Closed.{ClosedValue, IsClosedOf, build, closed_of, term_of}
use Rattle.ct_listing.specs.Listable.{IsListable, field_sorts}
use Rattle.ct_listing.specs.Listing.{choices, built_by, values_within, listed}
use Rattle.ct_listing.proofs.ChoiceLemmas.{choices_only}
use Rattle.ct_listing.proofs.ListLemmas.{map_same, flat_map_same}
use Rattle.ct_formulas.specs.Choices.{AreQuantifiable, choices_of}

-- what holds of each image holds of all
pub all_mapped : {X Y : Type 0} (P : Y → Type 0) (f : X → Y) (xs : List X) → ((x : X) → Contains xs x → P (f x)) → AllByRecursion P (map f xs)
all_mapped P f [] each = tt
all_mapped P f (x ∷ xs) each = (each x (Contains-first x xs), all_mapped P f xs (λ y at. each y (Contains-rest x xs y at)))

-- where there is one, the first of a list
pub first_there : {X : Type 0} (xs : List X) → 0 < length xs → (x : X) × Contains xs x
first_there [] h = absurd (omega (arith, h))
first_there (x ∷ xs) h = (x, Contains-first x xs)

zip_length : {X Y : Type 0} (R : X → Y → Type 0) (xs : List X) (ys : List Y) → AllZip R xs ys → length ys ≡ length xs
zip_length R [] [] h = refl
zip_length R [] (y ∷ ys) h = absurd h
zip_length R (x ∷ xs) [] h = absurd h
zip_length R (x ∷ xs) (y ∷ ys) h = ap suc (zip_length R xs ys h.1)

-- each choice has a value for each variable
pub choice_length : (d : Declarations) (sorts : List SortId) (vs : List ClosedValue) → Contains (choices_of d sorts) vs → length vs ≡ length sorts
choice_length d sorts vs inside =
    zip_length Contains (map (listed d) sorts) vs (choices_only (map (listed d) sorts) vs inside) ∙ length-map sorts (listed d)

pub choice_terms_length : (d : Declarations) (sorts : List SortId) (vs : List ClosedValue) → Contains (choices_of d sorts) vs → length (map term_of vs) ≡ length sorts
choice_terms_length d sorts vs inside = length-map vs term_of ∙ choice_length d sorts vs inside

-- the terms of each choice have the sorts of the variables
abbrev pub HaveSortedChoices : Declarations → Type 0
HaveSortedChoices d = (sorts : List SortId) (vs : List ClosedValue) → All (IsListable d) sorts → Contains (choices_of d sorts) vs → AllZip (HasTreeSort d) (map term_of vs) sorts

module _ (d : Declarations) (term : (v : ClosedValue) (s : SortId) → IsClosedOf d v s → HasTreeSort d (term_of v) s) where
  zip_terms : (vs : List ClosedValue) (sorts : List SortId) → AllZip (IsClosedOf d) vs sorts → AllZip (HasTreeSort d) (map term_of vs) sorts
  zip_terms [] [] h = tt
  zip_terms [] (s ∷ sorts) h = absurd h
  zip_terms (v ∷ vs) [] h = absurd h
  zip_terms (v ∷ vs) (s ∷ sorts) h = (term v s h.0, zip_terms vs sorts h.1)

  pub sorted_choices : ((sorts : List SortId) (vs : List ClosedValue) → All (IsListable d) sorts → Contains (choices_of d sorts) vs ↔ AllZip (IsClosedOf d) vs sorts) → HaveSortedChoices d
  sorted_choices exact sorts vs listable inside = zip_terms vs sorts ((exact sorts vs listable).0 inside)

-- listable sorts are listable in the second declarations, and keep their lists
pub record KeepsLists (from to : Declarations) : Type 0 where
  pub listable : (s : SortId) → IsListable from s → IsListable to s
  pub listed : (s : SortId) → IsListable from s → listed to s ≡ listed from s

module _ (from to : Declarations) (keeps : KeepsLists from to) where
  pub choices_kept : (sorts : List SortId) → All (IsListable from) sorts → choices_of to sorts ≡ choices_of from sorts
  choices_kept sorts h = ap choices (map_same (listed to) (listed from) sorts (λ s inside. keeps.listed s (All-contains (IsListable from) sorts s h inside)))

  pub quantifiable_kept : (sorts : List SortId) → AreQuantifiable from sorts → AreQuantifiable to sorts
  quantifiable_kept sorts h =
      let same : length (choices_of to sorts) ≡ length (choices_of from sorts) = ap length (choices_kept sorts h.listable) in
      record {
        variable = h.variable;
        listable = All-from_Contains (IsListable to) sorts (λ s inside. keeps.listable s (All-contains (IsListable from) sorts s h.listable inside));
        some = omega (arith, h.some, same);
        few = omega (arith, h.few, same);
      }

-- the lists do not depend on definitions
module _ (d : Declarations) (definitions : List Function) where
  abbrev other : Declarations
  other = record d { definitions = definitions }

  values_same : (n : ℕ) (s : SortId) → values_within n other s ≡ values_within n d s
  unfolding values_within
  values_same zero s = refl
  values_same (suc n) s =
      flat_map_same (built_by other (values_within n other)) (built_by d (values_within n d)) (ctor_ids_of_sort d s)
      (λ c inside. ap (λ (xss : List (List ClosedValue)). map (λ vs. build c (closed_of vs)) (choices xss)) (map_same (values_within n other) (values_within n d) (field_sorts d c) (λ field within. values_same n field)))

  pub keeps_first : KeepsLists d other
  keeps_first = record { listable = λ s h. h; listed = λ s h. values_same (length d.sorts) s }

  pub keeps_back : KeepsLists other d
  keeps_back = record { listable = λ s h. h; listed = λ s h. sym (values_same (length d.sorts) s) }
