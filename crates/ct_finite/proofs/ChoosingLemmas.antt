-- Choices by their numbers: one digit for each variable.
use Rattle.std.proofs.Common.{◌≡◌, ℕ, zero, suc, ◌+◌, ◌*◌, ◌/◌, ◌%◌, ◌<◌, ◌≤◌, Bool, true, false, List, [], ◌∷◌, ◌++◌, length, map, take, drop, get_or, All, Some, slice_get, Contains, if◌then◌else◌, refl, sym, ◌∙◌, ap, ap₂, subst, arith, true≢false}
use Rattle.std.proofs.Math.Nat.{mul-div_cancel_left, mod-lt, div-lt_iff_lt-mul}
use Rattle.std.proofs.lemmas.Nat.{div-add-mod'}
use Rattle.std.proofs.lemmas.List.{take_more, append_assoc}
use Rattle.std.proofs.lemmas.List.Elements.{All-contains, All-weaker}
use Rattle.std.proofs.lemmas.Option.{same_Some}
use Rattle.ct_lemmas.proofs.Contained.{Contains-first, Contains-rest}
use Rattle.ct_lemmas.proofs.Lists.{slice_get-there}
use Rattle.ct_lemmas.proofs.Prefixes.{drop-next}
use Rattle.ct_sorts.specs.declared.ids.SortId.{SortId}
use Rattle.ct_sorts.specs.Declarations.{Declarations}
use Rattle.ct_formulas.specs.Choices.{choices_of}
use Rattle.ct_listing.specs.Closed.{ClosedValue}
use Rattle.ct_listing.specs.Listable.{IsListable}
use Rattle.ct_listing.specs.Listing.{choices, listed}
use Rattle.ct_finite.specs.Counts.{most_values, capped, count_at, AreCounts}
use Rattle.ct_finite.specs.Counting.{ways}
use Rattle.ct_finite.specs.Entries.{AreEntries, digits}
use Rattle.ct_finite.specs.Choosing.{IsChoice, IsChosen, AreLike, first_like}
use Rattle.ct_finite.proofs.CapLemmas.{capped_product, capped_exact, capped_over, length-choices, product_parts, ways_push, ways_capped}
use Rattle.ct_finite.proofs.EntryLemmas.{slice_get-pairs, digits_entries, ways_same}
use Rattle.ct_finite.proofs.FewLemmas.{exact_count, factor}

abbrev pub first_sort : SortId
first_sort = record { 0 = 0 }

-- listable sorts are noted
pub all_noted : (d : Declarations) (counts : List ℕ) → AreCounts d counts → (sorts : List SortId) → All (IsListable d) sorts → All (λ s. s.0 < length counts) sorts
all_noted d counts all sorts listable = All-weaker (IsListable d) (λ s. s.0 < length counts) (λ s h. within counts s.0 (all.all s h)) sorts listable
  where
    within : (xs : List ℕ) (i : ℕ) → 0 < get_or xs i 0 → i < length xs
    within [] i h = absurd (omega (arith, h))
    within (x ∷ xs) zero h = omega arith
    within (x ∷ xs) (suc i) h = let less = within xs i h in omega (arith, less)

-- the product so far with one more sort
pub sort_step : (counts : List ℕ) (sorts : List SortId) (i product next : ℕ) → i < length sorts → product ≡ capped (ways (count_at counts) (take i sorts)) → next ≡ capped (product * count_at counts (get_or sorts i first_sort)) → next ≡ capped (ways (count_at counts) (take (i + 1) sorts))
sort_step counts sorts i product next within before e =
    let s = get_or sorts i first_sort in
    e
    ∙ ap (λ n. capped (n * count_at counts s)) before
    ∙ capped_product (ways (count_at counts) (take i sorts)) (count_at counts s)
    ∙ ap capped (sym (ways_push (count_at counts) (take i sorts) s))
    ∙ ap (λ l. capped (ways (count_at counts) l)) (sym (take_more sorts i first_sort within))

-- the ways of the sorts after one more
module _ (counts : List ℕ) (sorts : List SortId) (i rest : ℕ) (within : i < length sorts) (is_rest : rest ≡ ways (count_at counts) (drop i sorts)) (some : 0 < rest) where
  abbrev n : ℕ
  n = count_at counts (get_or sorts i first_sort)

  abbrev w : ℕ
  w = ways (count_at counts) (drop (i + 1) sorts)

  next : drop i sorts ≡ get_or sorts i first_sort ∷ drop (i + 1) sorts
  next = drop-next sorts i first_sort within

  product : rest ≡ n * w
  product = is_rest ∙ ap (ways (count_at counts)) next

  parts : (0 < n) × (0 < w)
  parts = product_parts n w (omega (arith, some, product))

  pub quotient : (0 < n) × (0 < rest / n) × (rest / n ≡ w)
  quotient =
      let e : rest / n ≡ w = ap (λ r. r / n) product ∙ mul-div_cancel_left w parts.0 in
      (parts.0, omega (arith, e, parts.1), e)

  -- one more digit
  pub number_step : (left : ℕ) (numbers whole : List ℕ) → numbers ++ digits (count_at counts) (drop i sorts) left ≡ whole → (numbers ++ left / (rest / n) ∷ []) ++ digits (count_at counts) (drop (i + 1) sorts) (left % (rest / n)) ≡ whole
  number_step left numbers whole value =
      let after = drop (i + 1) sorts in
      ap (λ q. (numbers ++ left / q ∷ []) ++ digits (count_at counts) after (left % q)) quotient.2
      ∙ append_assoc numbers (left / w ∷ []) (digits (count_at counts) after (left % w))
      ∙ ap (λ l. numbers ++ digits (count_at counts) l left) (sym next)
      ∙ value

  -- one more digit, where it is kept
  pub like_step : (flags : List Bool) (flag : Bool) (left first gained whole : ℕ) → drop i flags ≡ flag ∷ drop (i + 1) flags → gained ≡ (if flag then left / (rest / n) else 0) * (rest / n) → first + first_like (count_at counts) (drop i sorts) (drop i flags) left ≡ whole → (first + gained) + first_like (count_at counts) (drop (i + 1) sorts) (drop (i + 1) flags) (left % (rest / n)) ≡ whole
  like_step flags flag left first gained whole more is value =
      let after = first_like (count_at counts) (drop (i + 1) sorts) (drop (i + 1) flags) in
      let here = (if flag then left / w else 0) * w in
      let same : gained ≡ here = is ∙ ap (λ q. (if flag then left / q else 0) * q) quotient.2 in
      let split : first_like (count_at counts) (drop i sorts) (drop i flags) left ≡ here + after (left % w) =
      ap₂ (λ (l : List SortId) (bs : List Bool). first_like (count_at counts) l bs left) next more in
      let sum : (first + gained) + after (left % (rest / n)) ≡ (first + here) + after (left % w) = ap₂ (λ g q. (first + g) + after (left % q)) same quotient.2 in
      let regroup : (first + here) + after (left % w) ≡ first + (here + after (left % w)) = omega arith in
      sum ∙ regroup ∙ ap (λ m. first + m) (sym split) ∙ value

-- nothing is gained at the end
pub like_end : (count : SortId → ℕ) (sorts : List SortId) (flags : List Bool) (left first whole : ℕ) → sorts ≡ [] → first + first_like count sorts flags left ≡ whole → first ≡ whole
like_end count sorts flags left first whole none value = let e : first_like count sorts flags left ≡ 0 = ap (λ l. first_like count l flags left) none in omega (arith, value, e)

-- the number counts no more than the digits that are kept
pub like_bound : (count : SortId → ℕ) (sorts : List SortId) (flags : List Bool) (k : ℕ) → first_like count sorts flags k ≤ k
like_bound count [] flags k = omega arith
like_bound count (s ∷ sorts) [] k = omega arith
like_bound count (s ∷ sorts) (b ∷ flags) k =
    let w = ways count sorts in
    let rest = like_bound count sorts flags (k % w) in
    let whole = div-add-mod' k w in
    by b w rest whole
  where
    by : (b : Bool) (w : ℕ) → first_like count sorts flags (k % w) ≤ k % w → k / w * w + k % w ≡ k → (if b then k / w else 0) * w + first_like count sorts flags (k % w) ≤ k
    by true w rest whole = omega (arith, rest, whole)
    by false w rest whole = let none : 0 * w ≡ 0 = omega arith in omega (arith, rest, whole, none)

module _ (d : Declarations) (count : SortId → ℕ) where
  abbrev HaveCounts : List SortId → Type 0
  HaveCounts sorts = (s : SortId) → Contains sorts s → count s ≡ length (listed d s)

  long : (sorts : List SortId) → HaveCounts sorts → length (choices (map (listed d) sorts)) ≡ ways count sorts
  long sorts each = length-choices (listed d) sorts ∙ sym (ways_same count (λ t. length (listed d t)) sorts each)

  -- the choice with this number has the same values where flags are set
  pub like_entries : (sorts : List SortId) (flags : List Bool) → HaveCounts sorts → length flags ≡ length sorts → (k : ℕ) → k < ways count sorts → (vs : List ClosedValue) → slice_get (choices (map (listed d) sorts)) k ≡ Some vs → (us : List ClosedValue) × (slice_get (choices (map (listed d) sorts)) (first_like count sorts flags k) ≡ Some us) × AreLike flags us vs
  like_entries [] [] each same zero less vs at = ([], refl, subst (AreLike [] []) (same_Some [] vs at) tt)
  like_entries [] [] each same (suc k) less vs at = absurd (omega (arith, less))
  like_entries [] (b ∷ flags) each same k less vs at = absurd (omega (arith, same))
  like_entries (s ∷ sorts) [] each same k less vs at = absurd (omega (arith, same))
  like_entries (s ∷ sorts) (b ∷ flags) each same k less vs at =
      let w = ways count sorts in
      let parts = product_parts (count s) w (omega (arith, less)) in
      let number : k / w < count s = (div-lt_iff_lt-mul parts.1).1 less in
      let here : count s ≡ length (listed d s) = each s (Contains-first s sorts) in
      let later : HaveCounts sorts = λ t inside. each t (Contains-rest s sorts t inside) in
      let size : length (choices (map (listed d) sorts)) ≡ w = long sorts later in
      let x = slice_get-there (listed d s) (k / w) (omega (arith, number, here)) in
      let ys = slice_get-there (choices (map (listed d) sorts)) (k % w) (omega (arith, mod-lt k parts.1, size)) in
      let rest = like_entries sorts flags later (omega (arith, same)) (k % w) (mod-lt k parts.1) ys.0 ys.1 in
      let place : k / w * length (choices (map (listed d) sorts)) + k % w ≡ k = ap (λ m. k / w * m + k % w) size ∙ div-add-mod' k w in
      let whole : slice_get (choices (map (listed d) (s ∷ sorts))) k ≡ Some (x.0 ∷ ys.0) =
      subst (λ m. slice_get (choices (map (listed d) (s ∷ sorts))) m ≡ Some (x.0 ∷ ys.0)) place
      (slice_get-pairs (λ x ys. x ∷ ys) (listed d s) (choices (map (listed d) sorts)) (k / w) (k % w) x.0 ys.0 x.1 ys.1) in
      let is : x.0 ∷ ys.0 ≡ vs = same_Some (x.0 ∷ ys.0) vs (sym whole ∙ at) in
      let first = picked s (k / w) x.0 x.1 b (omega (arith, parts.0, here)) in (
        first.0 ∷ rest.0,
        subst (λ m. slice_get (choices (map (listed d) (s ∷ sorts))) ((if b then k / w else 0) * m + first_like count sorts flags (k % w)) ≡ Some (first.0 ∷ rest.0)) size
            (slice_get-pairs (λ x ys. x ∷ ys) (listed d s) (choices (map (listed d) sorts)) (if b then k / w else 0) (first_like count sorts flags (k % w)) first.0 rest.0 first.1 rest.1),
        subst (λ l. AreLike (b ∷ flags) (first.0 ∷ rest.0) l) is (first.2, rest.2),
      )
    where
      picked : (s : SortId) (i : ℕ) (x : ClosedValue) → slice_get (listed d s) i ≡ Some x → (b : Bool) → 0 < length (listed d s) → (y : ClosedValue) × (slice_get (listed d s) (if b then i else 0) ≡ Some y) × (b ≡ true → y ≡ x)
      picked s i x at true some = (x, at, λ e. refl)
      picked s i x at false some = let y = slice_get-there (listed d s) 0 some in (y.0, y.1, λ e. absurd (true≢false (sym e)))

-- where the counts are right, so are those of the choices
module _ (d : Declarations) (counts : List ℕ) (all : AreCounts d counts) (sorts : List SortId) (listable : All (IsListable d) sorts) where
  abbrev size_of : SortId → ℕ
  size_of s = length (listed d s)

  pub choices_counted : capped (ways (count_at counts) sorts) ≡ capped (length (choices_of d sorts))
  choices_counted =
      ways_capped (count_at counts) size_of sorts (λ s inside. (all.counted s (all.all s (All-contains (IsListable d) sorts s listable inside))).1)
      ∙ ap capped (sym (length-choices (listed d) sorts))

  pub counts_many : (n : ℕ) → n ≡ capped (ways (count_at counts) sorts) → most_values < n → most_values < length (choices_of d sorts)
  counts_many n is more = capped_over (length (choices_of d sorts)) (omega (arith, is, choices_counted, more))

  pub counts_few : (n : ℕ) → n ≡ capped (ways (count_at counts) sorts) → n ≤ most_values → n ≡ length (choices_of d sorts)
  counts_few n is few = is ∙ choices_counted ∙ sym (capped_exact (length (choices_of d sorts)) (omega (arith, is, choices_counted, few)))

  module _ (few : length (choices_of d sorts) ≤ most_values) (some : 0 < length (choices_of d sorts)) where
    pub sort_few : (s : SortId) → Contains sorts s → length (listed d s) ≤ most_values
    sort_few s inside =
        let long = length-choices (listed d) sorts in
        let less = factor size_of sorts (omega (arith, some, long)) s inside in
        omega (arith, less, long, few)

    pub sort_count : (s : SortId) → Contains sorts s → count_at counts s ≡ length (listed d s)
    sort_count s inside = exact_count d counts all s (All-contains (IsListable d) sorts s listable inside) (sort_few s inside)

    pub ways_are : ways (count_at counts) sorts ≡ length (choices_of d sorts)
    ways_are = ways_same (count_at counts) size_of sorts sort_count ∙ sym (length-choices (listed d) sorts)

-- the choice of a number
module _ (d : Declarations) (counts : List ℕ) (sorts : List SortId) (k : ℕ) (h : IsChoice d counts sorts k) where
  pub choice_ways : ways (count_at counts) sorts ≡ length (choices_of d sorts)
  choice_ways = ways_are d counts h.counts_are sorts h.listable h.few (omega (arith, h.there))

  pub choice_chosen : (numbers : List ℕ) → numbers ≡ digits (count_at counts) sorts k → IsChosen d sorts k numbers
  choice_chosen numbers is =
      let found = digits_entries d (count_at counts) sorts (sort_count d counts h.counts_are sorts h.listable h.few (omega (arith, h.there))) k (omega (arith, h.there, choice_ways)) in
      (found.0, found.1, subst (λ l. AreEntries d sorts l found.0) (sym is) found.2)

  pub choice_like : (flags : List Bool) (first : ℕ) → length flags ≡ length sorts → first ≡ first_like (count_at counts) sorts flags k → (vs : List ClosedValue) → slice_get (choices_of d sorts) k ≡ Some vs → (us : List ClosedValue) × (slice_get (choices_of d sorts) first ≡ Some us) × AreLike flags us vs
  choice_like flags first same is vs at =
      let found = like_entries d (count_at counts) sorts flags (sort_count d counts h.counts_are sorts h.listable h.few (omega (arith, h.there))) same k (omega (arith, h.there, choice_ways)) vs at in
      (found.0, ap (slice_get (choices_of d sorts)) is ∙ found.1, found.2)
