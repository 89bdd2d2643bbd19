-- Numbers that count up: their first occurrences are the numbers from the first one on, in order.
use Rattle.std.proofs.Common.{◌≡◌, ℕ, zero, suc, ◌+◌, ◌<◌, ◌≤◌, ◌↔◌, ◌⊎◌, Bool, true, false, cond, not, ◌&&◌, ◌||◌, List, [], ◌∷◌, ◌++◌, length, filter, nat_eq, nat_le, refl, sym, ap, subst, ◌∙◌, inl, inr, arith, true≢false, eq-or-lt_of_le}
use Rattle.std.specs.List.{AllByRecursion, list_any, range_with_len, position_or_len}
use Rattle.std.proofs.lemmas.Bool.{cases_lt}
use Rattle.std.proofs.lemmas.Bool.Decides.{nat_tests, Decides-or, Decides-eqb}
use Rattle.ct_values.specs.Minimal.{first_occurrences}
use Rattle.ct_values.specs.Numbering.{CountsUp}

-- ---- how many are met

-- the count never falls
pub CountsUp-rises : (met all : ℕ) (ns : List ℕ) → CountsUp met ns all → met ≤ all
CountsUp-rises met all [] h = omega arith
CountsUp-rises met all (n ∷ ns) (inl h) = CountsUp-rises met all ns h.1
CountsUp-rises met all (n ∷ ns) (inr h) = let more = CountsUp-rises (suc met) all ns h.1 in omega arith

-- what was met is below the count
pub CountsUp-below : (met all : ℕ) (ns : List ℕ) → CountsUp met ns all → AllByRecursion (λ n. n < all) ns
CountsUp-below met all [] h = tt
CountsUp-below met all (n ∷ ns) (inl h) =
    let more = CountsUp-rises met all ns h.1 in (omega (arith, h.0), CountsUp-below met all ns h.1)
CountsUp-below met all (n ∷ ns) (inr h) =
    let more = CountsUp-rises (suc met) all ns h.1 in (omega (arith, h.0), CountsUp-below (suc met) all ns h.1)

-- a number is among others where it is the first or among the rest
pub is_among : (n m : ℕ) (ms : List ℕ) → list_any (nat_eq n) (m ∷ ms) ≡ true ↔ ((n ≡ m) ⊎ (list_any (nat_eq n) ms ≡ true))
is_among n m ms = Decides-or (nat_eq n m) (list_any (nat_eq n) ms) (Decides-eqb n m) (λ e. e, λ e. e)

-- each number that is newly met is among them
pub CountsUp-has : (met all m : ℕ) (ns : List ℕ) → CountsUp met ns all → met ≤ m → m < all → list_any (nat_eq m) ns ≡ true
CountsUp-has met all m [] h low high = absurd (omega arith)
CountsUp-has met all m (n ∷ ns) (inl h) low high =
    (is_among m n ns).1 (inr (CountsUp-has met all m ns h.1 low high))
CountsUp-has met all m (n ∷ ns) (inr h) low high = elim (eq-or-lt_of_le low) [
  | inl e ↦ (is_among m n ns).1 (inl (sym e ∙ sym h.0))
  | inr less ↦ (is_among m n ns).1 (inr (CountsUp-has (suc met) all m ns h.1 (omega arith) high))
]

-- a number among numbers below a bound is below it
pub has_below : (bound n : ℕ) (ns : List ℕ) → AllByRecursion (λ m. m < bound) ns → list_any (nat_eq n) ns ≡ true → n < bound
has_below bound n [] all has = absurd (true≢false (sym has))
has_below bound n (m ∷ ms) all has = elim ((is_among n m ms).0 has) [
  | inl e ↦ omega (arith, e, all.0)
  | inr e ↦ has_below bound n ms all.1 e
]

-- ---- lists put together

pub CountsUp-append : (met mid all : ℕ) (ms ns : List ℕ) → CountsUp met ms mid → CountsUp mid ns all → CountsUp met (ms ++ ns) all
CountsUp-append met mid all [] ns first second = subst (λ k. CountsUp k ns all) (sym first) second
CountsUp-append met mid all (m ∷ ms) ns (inl h) second = inl (h.0, CountsUp-append met mid all ms ns h.1 second)
CountsUp-append met mid all (m ∷ ms) ns (inr h) second = inr (h.0, CountsUp-append (suc met) mid all ms ns h.1 second)

-- and taken apart
pub CountsUp-split : (met all : ℕ) (ms ns : List ℕ) → CountsUp met (ms ++ ns) all → (mid : ℕ) × CountsUp met ms mid × CountsUp mid ns all
CountsUp-split met all [] ns h = (met, refl, h)
CountsUp-split met all (m ∷ ms) ns (inl h) =
    let rest = CountsUp-split met all ms ns h.1 in (rest.0, inl (h.0, rest.1), rest.2)
CountsUp-split met all (m ∷ ms) ns (inr h) =
    let rest = CountsUp-split (suc met) all ms ns h.1 in (rest.0, inr (h.0, rest.1), rest.2)

-- ---- first occurrences

-- one test after another
filter_filter : (p q r : ℕ → Bool) → ((n : ℕ) → (q n && p n) ≡ r n) → (ns : List ℕ) → filter p (filter q ns) ≡ filter r ns
filter_filter p q r both [] = refl
filter_filter p q r both (n ∷ ns) =
    step (q n) (filter q ns)
    ∙ ap (λ b. cond b (n ∷ filter p (filter q ns)) (filter p (filter q ns))) (both n)
    ∙ ap (λ rest. cond (r n) (n ∷ rest) rest) (filter_filter p q r both ns)
  where
    step : (b : Bool) (rest : List ℕ) → filter p (cond b (n ∷ rest) rest) ≡ cond (b && p n) (n ∷ filter p rest) (filter p rest)
    step true rest = refl
    step false rest = refl

-- a test that all pass
filter_all : (p : ℕ → Bool) → ((n : ℕ) → p n ≡ true) → (ns : List ℕ) → filter p ns ≡ ns
filter_all p all [] = refl
filter_all p all (n ∷ ns) =
    ap (λ b. cond b (n ∷ filter p ns) (filter p ns)) (all n) ∙ ap (λ rest. n ∷ rest) (filter_all p all ns)

-- the first occurrences of numbers from a bound on
abbrev new : ℕ → List ℕ → List ℕ
new met ns = filter (nat_le met) (first_occurrences ns)

-- a number below the bound is none of them
new-old : (met n : ℕ) (ns : List ℕ) → n < met → new met (n ∷ ns) ≡ new met ns
new-old met n ns old =
    let test : nat_le met n ≡ false = grind (arith, nat_tests) in
    let rest = filter (λ m. not (nat_eq m n)) (first_occurrences ns) in
    ap (λ b. cond b (n ∷ filter (nat_le met) rest) (filter (nat_le met) rest)) test
    ∙ filter_filter (nat_le met) (λ m. not (nat_eq m n)) (nat_le met) (λ m. grind (arith, nat_tests)) (first_occurrences ns)

-- the bound itself is the first of them, and the rest are those from the next bound on
new-next : (met : ℕ) (ns : List ℕ) → new met (met ∷ ns) ≡ met ∷ new (suc met) ns
new-next met ns =
    let test : nat_le met met ≡ true = grind (arith, nat_tests) in
    let rest = filter (λ m. not (nat_eq m met)) (first_occurrences ns) in
    ap (λ b. cond b (met ∷ filter (nat_le met) rest) (filter (nat_le met) rest)) test
    ∙ ap (λ others. met ∷ others) (filter_filter (nat_le met) (λ m. not (nat_eq m met)) (nat_le (suc met)) (λ m. grind (arith, nat_tests)) (first_occurrences ns))

-- a number from the bound on is the first of them
new-first : (met n : ℕ) (ns : List ℕ) → met ≤ n → (rest : List ℕ) × (new met (n ∷ ns) ≡ n ∷ rest)
new-first met n ns high =
    let test : nat_le met n ≡ true = grind (arith, nat_tests) in
    let rest = filter (λ m. not (nat_eq m n)) (first_occurrences ns) in
    (filter (nat_le met) rest, ap (λ b. cond b (n ∷ filter (nat_le met) rest) (filter (nat_le met) rest)) test)

-- numbers that count up have the numbers from the first count on as their new ones
new-counts : (met count all : ℕ) (ns : List ℕ) → met + count ≡ all → CountsUp met ns all → new met ns ≡ range_with_len met count
new-counts met zero all [] e h = refl
new-counts met (suc count) all [] e h = absurd (omega arith)
new-counts met count all (n ∷ ns) e (inl h) = new-old met n ns h.0 ∙ new-counts met count all ns e h.1
new-counts met zero all (n ∷ ns) e (inr h) =
    let more = CountsUp-rises (suc met) all ns h.1 in absurd (omega arith)
new-counts met (suc count) all (n ∷ ns) e (inr h) =
    ap (λ m. new met (m ∷ ns)) h.0
    ∙ new-next met ns
    ∙ ap (λ rest. met ∷ rest) (new-counts (suc met) count all ns (omega arith) h.1 ∙ ap (λ k. range_with_len k count) (omega arith))

-- and the other way, where the first number is the next
next_counts : (met n count : ℕ) (ns rest : List ℕ) → ((k many : ℕ) → new k ns ≡ range_with_len k many → CountsUp k ns (k + many)) → new met (n ∷ ns) ≡ n ∷ rest → new met (n ∷ ns) ≡ range_with_len met count → CountsUp met (n ∷ ns) (met + count)
next_counts met n zero ns rest later_counts first all = cc
next_counts met n (suc count) ns rest later_counts first all =
    let is : n ≡ met = cc in
    let tail : met ∷ new (suc met) ns ≡ met ∷ range_with_len (met + 1) count = sym (new-next met ns) ∙ ap (λ m. new met (m ∷ ns)) (sym is) ∙ all in
    let up : met + 1 ≡ suc met = omega arith in
    let rest_is : new (suc met) ns ≡ range_with_len (suc met) count = subst (λ k. new (suc met) ns ≡ range_with_len k count) up (cc) in
    let bound : suc met + count ≡ met + suc count = omega arith in
    inr (is, subst (λ k. CountsUp (suc met) ns k) bound (later_counts (suc met) count rest_is))

-- numbers whose new ones are those from a bound on count up from it
counts-new : (met count : ℕ) (ns : List ℕ) → new met ns ≡ range_with_len met count → CountsUp met ns (met + count)
counts-new met zero [] e = omega arith
counts-new met (suc count) [] e = cc
counts-new met count (n ∷ ns) e = elim (cases_lt n met) [
  | inl old ↦ inl (old, counts-new met count ns (sym (new-old met n ns old) ∙ e))
  | inr high ↦
      let first = new-first met n ns high in
      next_counts met n count ns first.0 (λ k many h. counts-new k many ns h) first.1 e
]

-- from 0 on all are new
new-all : (ns : List ℕ) → new 0 ns ≡ first_occurrences ns
new-all ns = filter_all (nat_le 0) (λ n. grind (arith, nat_tests)) (first_occurrences ns)

pub first_occurrences-counts : (all : ℕ) (ns : List ℕ) → CountsUp 0 ns all → first_occurrences ns ≡ range_with_len 0 all
first_occurrences-counts all ns h = sym (new-all ns) ∙ new-counts 0 all all ns (omega arith) h

pub counts-first_occurrences : (all : ℕ) (ns : List ℕ) → first_occurrences ns ≡ range_with_len 0 all → CountsUp 0 ns all
counts-first_occurrences all ns e =
    subst (λ k. CountsUp 0 ns k) (omega arith) (counts-new 0 all ns (new-all ns ∙ e))

-- ---- a set of numbers

-- a number that is not there has the length of the list as its index
absent_index : (n : ℕ) (ids : List ℕ) → list_any (nat_eq n) ids ≡ false → position_or_len (nat_eq n) ids ≡ length ids
absent_index n [] e = refl
absent_index n (m ∷ ms) e = at (nat_eq n m) e (absent_index n ms)
  where
    at : (b : Bool) → (b || list_any (nat_eq n) ms) ≡ false → (list_any (nat_eq n) ms ≡ false → position_or_len (nat_eq n) ms ≡ length ms) → cond (not b) (1 + position_or_len (nat_eq n) ms) 0 ≡ suc (length ms)
    at true h rest = absurd (true≢false h)
    at false h rest = let e = rest h in omega (arith, e)

negated : (b : Bool) → true ≡ not b → b ≡ false
negated true e = absurd (true≢false e)
negated false e = refl

-- a number that is put into a set, and its index there, count up
pub CountsUp-insert : (ids : List ℕ) (n index len : ℕ) (fresh : Bool) → fresh ≡ not (list_any (nat_eq n) ids) → index ≡ position_or_len (nat_eq n) ids → index < len → len ≡ length ids + cond fresh 1 0 → CountsUp (length ids) (index ∷ []) len
CountsUp-insert ids n index len true is at within long =
    inr (at ∙ absent_index n ids (negated (list_any (nat_eq n) ids) is), omega (arith, long))
CountsUp-insert ids n index len false is at within long = inl (omega (arith, within, long), omega (arith, long))

-- the first number of all is 0, and then there is one
pub CountsUp-first : (met index all : ℕ) → met ≡ 0 → CountsUp met (index ∷ []) all → (index ≡ 0) × (all ≡ 1)
CountsUp-first met index all e (inl old) = absurd (omega (arith, old.0))
CountsUp-first met index all e (inr new) = (new.0 ∙ e, omega (arith, new.1))
