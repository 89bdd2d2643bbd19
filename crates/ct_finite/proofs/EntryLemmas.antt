-- The entries of lists by their numbers.
use Rattle.std.proofs.Common.{◌≡◌, ℕ, zero, suc, ◌+◌, ◌*◌, ◌/◌, ◌%◌, ◌<◌, List, [], ◌∷◌, length, map, Some, slice_get, Contains, refl, sym, ◌∙◌, ap, ap₂, subst, arith}
use Rattle.std.specs.List.{flat_map}
use Rattle.std.proofs.Math.Nat.{mod-lt, div-lt_iff_lt-mul, suc-mul}
use Rattle.std.proofs.lemmas.Nat.{div-add-mod'}
use Rattle.std.proofs.lemmas.Option.{none-some, same_Some}
use Rattle.std.proofs.lemmas.List.{length-map}
use Rattle.ct_lemmas.proofs.Contained.{Contains-first, Contains-rest}
use Rattle.ct_lemmas.proofs.Lists.{slice_get-there, slice_get-append_left, slice_get-append_after, slice_get-map_at}
use Rattle.ct_sorts.specs.declared.ids.SortId.{SortId}
use Rattle.ct_sorts.specs.Declarations.{Declarations}
use Rattle.ct_listing.specs.Closed.{ClosedValue}
use Rattle.ct_listing.specs.Listing.{choices, listed}
use Rattle.ct_finite.specs.Counting.{ways}
use Rattle.ct_finite.specs.Entries.{AreEntries, digits}
use Rattle.ct_finite.proofs.CapLemmas.{length-choices, product_parts}

module _ {X Y Z : Type 0} (f : X → Y → Z) where
  -- the pair of the i-th of some and the j-th of others
  pub slice_get-pairs : (xs : List X) (ys : List Y) (i j : ℕ) (x : X) (y : Y) → slice_get xs i ≡ Some x → slice_get ys j ≡ Some y → slice_get (flat_map (λ x. map (f x) ys) xs) (i * length ys + j) ≡ Some (f x y)
  slice_get-pairs [] ys i j x y at_i at_j = absurd (none-some _ at_i)
  slice_get-pairs (z ∷ xs) ys zero j x y at_i at_j =
      let e : 0 * length ys + j ≡ j = omega arith in
      rw e (slice_get-append_left (map (f z) ys) (flat_map (λ x. map (f x) ys) xs) j (f x y)
      (subst (λ w. slice_get (map (f z) ys) j ≡ Some (f w y)) (same_Some z x at_i) (slice_get-map_at (f z) ys j y at_j)))
  slice_get-pairs (z ∷ xs) ys (suc i) j x y at_i at_j =
      let e : suc i * length ys + j ≡ length (map (f z) ys) + (i * length ys + j) = omega (arith, length-map ys (f z), suc-mul i (length ys)) in
      rw e (slice_get-append_after (map (f z) ys) (flat_map (λ x. map (f x) ys) xs) (i * length ys + j) ∙ slice_get-pairs xs ys i j x y at_i at_j)

-- the numbers of ways depend on the counts of the sorts alone
pub ways_same : (count other : SortId → ℕ) (sorts : List SortId) → ((s : SortId) → Contains sorts s → count s ≡ other s) → ways count sorts ≡ ways other sorts
ways_same count other [] each = refl
ways_same count other (s ∷ sorts) each =
    ap₂ (λ m n. m * n) (each s (Contains-first s sorts)) (ways_same count other sorts (λ t at. each t (Contains-rest s sorts t at)))

module _ (d : Declarations) (count : SortId → ℕ) where
  -- a number below the number of ways stands for a choice, whose entries have its digits
  pub digits_entries : (sorts : List SortId) → ((s : SortId) → Contains sorts s → count s ≡ length (listed d s)) → (k : ℕ) → k < ways count sorts → (vs : List ClosedValue) × (slice_get (choices (map (listed d) sorts)) k ≡ Some vs) × AreEntries d sorts (digits count sorts k) vs
  digits_entries [] each zero less = ([], refl, tt)
  digits_entries [] each (suc k) less = absurd (omega (arith, less))
  digits_entries (s ∷ sorts) each k less =
      let rest = ways count sorts in
      let some : 0 < count s * rest = omega (arith, less) in
      let parts = product_parts (count s) rest some in
      let first : k / rest < count s = (div-lt_iff_lt-mul parts.1).1 less in
      let there = slice_get-there (listed d s) (k / rest) (omega (arith, first, each s (Contains-first s sorts))) in
      let after = digits_entries sorts (λ t at. each t (Contains-rest s sorts t at)) (k % rest) (mod-lt k parts.1) in
      let long : length (choices (map (listed d) sorts)) ≡ rest =
      length-choices (listed d) sorts ∙ sym (ways_same count (λ t. length (listed d t)) sorts (λ t at. each t (Contains-rest s sorts t at))) in
      let place : k / rest * length (choices (map (listed d) sorts)) + k % rest ≡ k = ap (λ n. k / rest * n + k % rest) long ∙ div-add-mod' k rest in (
        there.0 ∷ after.0,
        subst (λ n. slice_get (choices (map (listed d) (s ∷ sorts))) n ≡ Some (there.0 ∷ after.0)) place
            (slice_get-pairs (λ x ys. x ∷ ys) (listed d s) (choices (map (listed d) sorts)) (k / rest) (k % rest) there.0 after.0 there.1 after.1),
        (there.1, after.2),
      )
