-- Capped numbers, and the numbers of ways in which constructors can be applied.
use Rattle.std.proofs.Common.{◌≡◌, ℕ, zero, suc, ◌+◌, ◌*◌, ◌<◌, ◌≤◌, List, [], ◌∷◌, ◌++◌, length, map, Contains, nat_lt, refl, sym, ◌∙◌, ap, ap₂, subst, inl, inr, arith, length-append, true≢false}
use Rattle.std.specs.List.{flat_map}
use Rattle.std.proofs.Math.Nat.{mul-le-mul_left, mul_comm, mul-zero, mul-one, mul_assoc, suc-mul}
use Rattle.std.proofs.lemmas.Bool.Decides.{Decides-ltb}
use Rattle.std.proofs.lemmas.List.{length-map}
use Rattle.ct_lemmas.proofs.Booleans.{by_test}
use Rattle.ct_lemmas.proofs.Contained.{Contains-first, Contains-rest, Contains-cons, Contains-none}
use Rattle.ct_lemmas.proofs.Numbers.{below_or_not}
use Rattle.ct_sorts.specs.declared.ids.CtorId.{CtorId}
use Rattle.ct_sorts.specs.declared.ids.SortId.{SortId}
use Rattle.ct_sorts.specs.Declarations.{Declarations}
use Rattle.ct_listing.specs.Closed.{ClosedValue, build, closed_of}
use Rattle.ct_listing.specs.Listable.{field_sorts}
use Rattle.ct_listing.specs.Listing.{choices, built_by}
use Rattle.ct_finite.specs.Counts.{most_values, capped}
use Rattle.ct_finite.specs.Counting.{ways, total}

-- a number that is not too great is itself
pub capped_small : (n : ℕ) → n ≤ most_values → capped n ≡ n
capped_small n h =
    by_test (λ x. x ≡ n) (nat_lt most_values n) (most_values + 1) n (λ e. let less = (Decides-ltb most_values n).0 e in absurd (omega (arith, less, h))) (λ e. refl)

pub capped_great : (n : ℕ) → most_values < n → capped n ≡ most_values + 1
capped_great n h =
    by_test (λ x. x ≡ most_values + 1) (nat_lt most_values n) (most_values + 1) n (λ e. refl) (λ e. absurd (true≢false (sym ((Decides-ltb most_values n).1 h) ∙ e)))

pub capped_bound : (n : ℕ) → capped n ≤ most_values + 1
capped_bound n = elim (below_or_not most_values n) [
  | inl great ↦ let e = capped_great n great in omega (arith, e)
  | inr small ↦ let e = capped_small n small in omega (arith, e, small)
]

pub capped_some : (n : ℕ) → 0 < n → 0 < capped n
capped_some n h = elim (below_or_not most_values n) [
  | inl great ↦ let e = capped_great n great in omega (arith, e)
  | inr small ↦ let e = capped_small n small in omega (arith, e, h)
]

pub capped_only : (n : ℕ) → 0 < capped n → 0 < n
capped_only zero h = let e = capped_small 0 (omega arith) in omega (arith, e, h)
capped_only (suc n) h = omega arith

-- a capped number below the cap is the number
pub capped_exact : (n : ℕ) → capped n ≤ most_values → n ≡ capped n
capped_exact n h = elim (below_or_not most_values n) [
  | inl great ↦ let e = capped_great n great in absurd (omega (arith, e, h))
  | inr small ↦ sym (capped_small n small)
]

pub capped_over : (n : ℕ) → most_values < capped n → most_values < n
capped_over n h = elim (below_or_not most_values n) [
  | inl great ↦ great
  | inr small ↦ let e = capped_small n small in omega (arith, e, h)
]

pub capped_sum : (a b : ℕ) → capped (capped a + b) ≡ capped (a + b)
capped_sum a b = elim (below_or_not most_values a) [
  | inl great ↦ let e = capped_great a great in capped_great (capped a + b) (omega (arith, e)) ∙ sym (capped_great (a + b) (omega (arith, great)))
  | inr small ↦ ap (λ n. capped (n + b)) (capped_small a small)
]

pub capped_sums : (a b : ℕ) → capped (capped a + capped b) ≡ capped (a + b)
capped_sums a b =
    let turned : (m n : ℕ) → m + n ≡ n + m = λ m n. omega arith in
    capped_sum a (capped b) ∙ ap capped (turned a (capped b)) ∙ capped_sum b a ∙ ap capped (turned b a)

product_great : (a b : ℕ) → most_values < a → most_values < a * suc b
product_great a b h =
    let one : 1 ≤ suc b = omega arith in
    omega (arith, mul-le-mul_left a one, mul-one a, h)

pub capped_product : (a b : ℕ) → capped (capped a * b) ≡ capped (a * b)
capped_product a zero = ap capped (mul-zero (capped a) ∙ sym (mul-zero a))
capped_product a (suc b) = elim (below_or_not most_values a) [
  | inl great ↦
      let e = capped_great a great in
      capped_great (capped a * suc b) (product_great (capped a) b (omega (arith, e))) ∙ sym (capped_great (a * suc b) (product_great a b great))
  | inr small ↦ ap (λ n. capped (n * suc b)) (capped_small a small)
]

capped_right : (a b : ℕ) → capped (a * capped b) ≡ capped (a * b)
capped_right a b = ap capped (mul_comm a (capped b)) ∙ capped_product b a ∙ ap capped (mul_comm b a)

pub product_some : (a b : ℕ) → 0 < a → 0 < b → 0 < a * b
product_some zero b h k = absurd (omega arith)
product_some (suc a) zero h k = absurd (omega arith)
product_some (suc a) (suc b) h k =
    let one : 1 ≤ suc b = omega arith in
    omega (arith, mul-le-mul_left (suc a) one, mul-one (suc a))

pub product_parts : (a b : ℕ) → 0 < a * b → (0 < a) × (0 < b)
product_parts zero b h = let e = mul_comm 0 b ∙ mul-zero b in absurd (omega (arith, e, h))
product_parts (suc a) zero h = let e = mul-zero (suc a) in absurd (omega (arith, e, h))
product_parts (suc a) (suc b) h = (omega arith, omega arith)

module _ (count : SortId → ℕ) where
  pub ways_push : (sorts : List SortId) (s : SortId) → ways count (sorts ++ s ∷ []) ≡ ways count sorts * count s
  ways_push [] s = omega (arith, mul-one (count s))
  ways_push (t ∷ sorts) s = ap (λ n. count t * n) (ways_push sorts s) ∙ sym (mul_assoc (count t) (ways count sorts) (count s))

  -- there are ways exactly where each sort has values
  pub ways_some : (sorts : List SortId) → ((s : SortId) → Contains sorts s → 0 < count s) → 0 < ways count sorts
  ways_some [] h = omega arith
  ways_some (s ∷ sorts) h =
      product_some (count s) (ways count sorts) (h s (Contains-first s sorts)) (ways_some sorts (λ t at. h t (Contains-rest s sorts t at)))

  pub ways_only : (sorts : List SortId) → 0 < ways count sorts → (s : SortId) → Contains sorts s → 0 < count s
  ways_only [] h s at = absurd (Contains-none s at)
  ways_only (t ∷ sorts) h s at =
      let parts = product_parts (count t) (ways count sorts) h in
      elim (Contains-cons t sorts s at) [ inl e ↦ subst (λ u. 0 < count u) e parts.0 | inr later ↦ ways_only sorts parts.1 s later ]

  pub total_push : (d : Declarations) (cs : List CtorId) (c : CtorId) → total count d (cs ++ c ∷ []) ≡ total count d cs + ways count (field_sorts d c)
  total_push d [] c = omega arith
  total_push d (k ∷ cs) c = let e = total_push d cs c in omega (arith, e)

-- the number of ways depends on the capped counts alone
module _ (count other : SortId → ℕ) where
  pub ways_capped : (sorts : List SortId) → ((s : SortId) → Contains sorts s → count s ≡ capped (other s)) → capped (ways count sorts) ≡ capped (ways other sorts)
  ways_capped [] h = refl
  ways_capped (s ∷ sorts) h =
      let after = ways_capped sorts (λ t at. h t (Contains-rest s sorts t at)) in
      ap (λ n. capped (n * ways count sorts)) (h s (Contains-first s sorts))
      ∙ capped_product (other s) (ways count sorts)
      ∙ sym (capped_right (other s) (ways count sorts))
      ∙ ap (λ n. capped (other s * n)) after
      ∙ capped_right (other s) (ways other sorts)

  pub total_capped : (d : Declarations) (cs : List CtorId) → ((c : CtorId) (s : SortId) → Contains cs c → Contains (field_sorts d c) s → count s ≡ capped (other s)) → capped (total count d cs) ≡ capped (total other d cs)
  total_capped d [] h = refl
  total_capped d (c ∷ cs) h =
      let here = ways_capped (field_sorts d c) (λ s at. h c s (Contains-first c cs) at) in
      let after = total_capped d cs (λ k s at within. h k s (Contains-rest c cs k at) within) in
      sym (capped_sums (ways count (field_sorts d c)) (total count d cs))
      ∙ ap₂ (λ m n. capped (m + n)) here after
      ∙ capped_sums (ways other (field_sorts d c)) (total other d cs)

length-pairs : {X Y Z : Type 0} (f : X → Y → Z) (xs : List X) (ys : List Y) → length (flat_map (λ x. map (f x) ys) xs) ≡ length xs * length ys
length-pairs f [] ys = sym (mul_comm 0 (length ys) ∙ mul-zero (length ys))
length-pairs f (x ∷ xs) ys =
    length-append (map (f x) ys) (flat_map (λ x. map (f x) ys) xs)
    ∙ ap₂ (λ m n. m + n) (length-map ys (f x)) (length-pairs f xs ys)
    ∙ turned (length ys) (length xs * length ys)
    ∙ sym (suc-mul (length xs) (length ys))
  where
    turned : (m n : ℕ) → m + n ≡ n + m
    turned m n = omega arith

module _ (values : SortId → List ClosedValue) where
  -- so many choices there are, and so many values are built of them
  pub length-choices : (sorts : List SortId) → length (choices (map values sorts)) ≡ ways (λ s. length (values s)) sorts
  length-choices [] = refl
  length-choices (s ∷ sorts) =
      length-pairs (λ x ys. x ∷ ys) (values s) (choices (map values sorts)) ∙ ap (λ n. length (values s) * n) (length-choices sorts)

  pub length-built_by : (d : Declarations) (c : CtorId) → length (built_by d values c) ≡ ways (λ s. length (values s)) (field_sorts d c)
  length-built_by d c = length-map (choices (map values (field_sorts d c))) (λ vs. build c (closed_of vs)) ∙ length-choices (field_sorts d c)

  pub length-built : (d : Declarations) (cs : List CtorId) → length (flat_map (built_by d values) cs) ≡ total (λ s. length (values s)) d cs
  length-built d [] = refl
  length-built d (c ∷ cs) =
      length-append (built_by d values c) (flat_map (built_by d values) cs)
      ∙ ap₂ (λ m n. m + n) (length-built_by d c) (length-built d cs)
