-- Ranks that are cut: the first numbers keep their order, and are counted anew.
use Rattle.std.proofs.Common.{◌≡◌, ℕ, zero, suc, ◌+◌, ◌<◌, ◌≤◌, List, [], ◌∷◌, length, take, get_or, slice_get, Some, refl, sym, ◌∙◌, ap, subst, inl, inr, arith}
use Rattle.std.proofs.lemmas.List.{get_or-set_same, get_or-set_other}
use Rattle.std.proofs.lemmas.Bool.{cases_order}
use Rattle.std.proofs.lemmas.Option.{same_Some, slice_get_within}
use Rattle.std.proofs.Math.ListN.{set}
use Rattle.ct_lemmas.proofs.Numbers.{last_or_before}
use Rattle.ct_lemmas.proofs.Prefixes.{slice_get-take, slice_get-take_below, take-slice_get}
use Rattle.ct_card.specs.Extended.{AreCut, AreKept}
use Rattle.ct_card.specs.Rules.{IsOrder}
use Rattle.ct_card.proofs.RankLemmas.{ranks_bounded, past_ranks}
use Rattle.ct_card.proofs.RuleLemmas.{cases_below}

-- what stands in a list in which one element was set
set_there : {X : Type 0} (xs : List X) (i : ℕ) (x : X) → i < length xs → slice_get (set xs i x) i ≡ Some x
set_there [] i x h = absurd (omega arith)
set_there (y ∷ xs) zero x h = refl
set_there (y ∷ xs) (suc i) x h = set_there xs i x (omega arith)

set_elsewhere : {X : Type 0} (xs : List X) (i j : ℕ) (x : X) → (j ≡ i → ⊥) → slice_get (set xs i x) j ≡ slice_get xs j
set_elsewhere [] i j x other = refl
set_elsewhere (y ∷ xs) zero zero x other = absurd (other refl)
set_elsewhere (y ∷ xs) zero (suc j) x other = refl
set_elsewhere (y ∷ xs) (suc i) zero x other = refl
set_elsewhere (y ∷ xs) (suc i) (suc j) x other = set_elsewhere xs i j x (λ e. other (ap suc e))

set_length : {X : Type 0} (xs : List X) (i : ℕ) (x : X) → length (set xs i x) ≡ length xs
set_length [] i x = refl
set_length (y ∷ xs) zero x = refl
set_length (y ∷ xs) (suc i) x = ap suc (set_length xs i x)

-- the first elements of a list
take_get_or : (count : ℕ) (xs : List ℕ) (i : ℕ) → i < count → get_or (take count xs) i 0 ≡ get_or xs i 0
take_get_or zero xs i h = absurd (omega arith)
take_get_or (suc count) [] i h = refl
take_get_or (suc count) (x ∷ xs) zero h = refl
take_get_or (suc count) (x ∷ xs) (suc i) h = take_get_or count xs i (omega arith)

pub take_long : {X : Type 0} (count : ℕ) (xs : List X) → count ≤ length xs → length (take count xs) ≡ count
take_long zero xs h = refl
take_long (suc count) [] h = absurd (omega arith)
take_long (suc count) (x ∷ xs) h = ap suc (take_long count xs (omega arith))

-- the first elements of a list are those that stood there
pub first_of_list : {X : Type 0} (count : ℕ) (xs ys : List X) → ys ≡ take count xs → count ≤ length xs → (length ys ≡ count) × ((i : ℕ) (x : X) → slice_get ys i ≡ Some x → slice_get xs i ≡ Some x)
first_of_list count xs ys is few = (ap length is ∙ take_long count xs few, λ i x at. slice_get-take count xs i x (ap (λ l. slice_get l i) (sym is) ∙ at))

pub kept_start : (count : ℕ) (all whole : List ℕ) → count ≤ length all → AreKept count all whole (take count all) whole 0 0
kept_start count all whole few =
    record {
      long = take_long count all few;
      whole_long = refl;
      rest = λ j h. refl;
      at = λ k n h. absurd (omega arith);
      of = λ n h some least. absurd (omega arith);
      later = λ n h less. take_get_or count all n h;
      lower = λ m n m_in n_in some less least. absurd (omega arith);
      none = λ n h e. take_get_or count all n h ∙ e;
    }

module _ (count : ℕ) (all whole ranks order : List ℕ) (index kept n : ℕ) (is : IsOrder all whole) (here_now : slice_get order index ≡ Some n) (few : kept ≤ index) (before : AreKept count all whole ranks order index kept) where
  here : slice_get whole index ≡ Some n
  here = sym (before.rest index (omega arith)) ∙ here_now

  -- the next number is not below the count
  pub kept_skip : count ≤ n → AreKept count all whole ranks order (index + 1) kept
  kept_skip past =
      record {
        long = before.long;
        whole_long = before.whole_long;
        rest = λ j h. before.rest j (omega arith);
        at = λ k m h listed. let w = before.at k m h listed in (w.0, w.1, w.2, omega (arith, w.3));
        of = λ m h some least. before.of m h some (not_here m h least);
        later = λ m h less. before.later m h (omega arith);
        lower = λ m k m_in k_in some less least. before.lower m k m_in k_in some less (not_here k k_in least);
        none = before.none;
      }
    where
      not_here : (m : ℕ) → m < count → get_or all m 0 ≤ index + 1 → get_or all m 0 ≤ index
      not_here m h least =
          elim (cases_below index (get_or all m 0)) [
            | inl less ↦
                let e : get_or all m 0 ≡ suc index = omega arith in
                let same : m ≡ n = same_Some _ _ (sym (is.of index m e) ∙ here) in
                absurd (omega arith)
            | inr few ↦ few
          ]

  -- the next number is below the count: it is kept
  pub kept_more : n < count → AreKept count all whole (set ranks n (kept + 1)) (set order kept n) (index + 1) (kept + 1)
  kept_more less_n =
      record {
        long = set_length ranks n (kept + 1) ∙ before.long;
        whole_long = set_length order kept n ∙ before.whole_long;
        rest = λ j h. set_elsewhere order kept j n (λ e. omega arith) ∙ before.rest j (omega arith);
        at = at;
        of = of;
        later = λ m h less. let other : m ≡ n → ⊥ = λ e. not_n m e (λ f. omega arith) in get_or-set_other ranks n m (kept + 1) 0 other ∙ before.later m h (omega arith);
        lower = lower;
        none = λ m h e. let other : m ≡ n → ⊥ = λ same. not_n m same (λ f. omega (arith, e, f)) in get_or-set_other ranks n m (kept + 1) 0 other ∙ before.none m h e;
      }
    where
      rank_n : get_or all n 0 ≡ suc index
      rank_n = is.at index n here

      not_n : (m : ℕ) → m ≡ n → (get_or all m 0 ≡ suc index → ⊥) → ⊥
      not_n m e differs = differs (ap (λ k. get_or all k 0) e ∙ rank_n)

      in_order : kept < length order
      in_order = omega (arith, before.whole_long, slice_get_within whole index n here)

      in_ranks : n < length ranks
      in_ranks = omega (arith, before.long, less_n)

      at : (k m : ℕ) → k < kept + 1 → slice_get (set order kept n) k ≡ Some m → (m < count) × (get_or (set ranks n (kept + 1)) m 0 ≡ suc k) × (0 < get_or all m 0) × (get_or all m 0 ≤ index + 1)
      at k m h listed =
          elim (last_or_before k kept h) [
            | inl less ↦
                let w = before.at k m less (sym (set_elsewhere order kept k n (λ e. omega arith)) ∙ listed) in
                let other : m ≡ n → ⊥ = λ e. not_n m e (λ f. omega (arith, w.3, f)) in
                (w.0, get_or-set_other ranks n m (kept + 1) 0 other ∙ w.1, w.2, omega (arith, w.3))
            | inr same ↦
                let e : n ≡ m = same_Some _ _ (sym (set_there order kept n in_order) ∙ ap (slice_get (set order kept n)) (sym same) ∙ listed) in
                subst (λ z. (z < count) × (get_or (set ranks n (kept + 1)) z 0 ≡ suc k) × (0 < get_or all z 0) × (get_or all z 0 ≤ index + 1)) e
                (less_n, get_or-set_same ranks n (kept + 1) 0 in_ranks ∙ omega (arith, same), omega (arith, rank_n), omega (arith, rank_n))
          ]

      of : (m : ℕ) → m < count → 0 < get_or all m 0 → get_or all m 0 ≤ index + 1 → (k : ℕ) × (k < kept + 1) × (slice_get (set order kept n) k ≡ Some m)
      of m h some least =
          elim (cases_below index (get_or all m 0)) [
            | inl less ↦
                let e : get_or all m 0 ≡ suc index = omega arith in
                let same : m ≡ n = same_Some _ _ (sym (is.of index m e) ∙ here) in
                (kept, omega arith, set_there order kept n in_order ∙ ap Some (sym same))
            | inr few_m ↦
                let w = before.of m h some few_m in
                (w.0, omega (arith, w.1), set_elsewhere order kept w.0 n (λ e. omega (arith, w.1, e)) ∙ w.2)
          ]

      lower : (m k : ℕ) → m < count → k < count → 0 < get_or all m 0 → get_or all m 0 < get_or all k 0 → get_or all k 0 ≤ index + 1 → get_or (set ranks n (kept + 1)) m 0 < get_or (set ranks n (kept + 1)) k 0
      lower m k m_in k_in some less least =
          let other_m : m ≡ n → ⊥ = λ e. not_n m e (λ f. omega arith) in
          let stays_m = get_or-set_other ranks n m (kept + 1) 0 other_m in
          elim (cases_below index (get_or all k 0)) [
            | inl last ↦
                let e : get_or all k 0 ≡ suc index = omega arith in
                let same : n ≡ k = same_Some _ _ (sym here ∙ is.of index k e) in
                let w = before.of m m_in some (omega arith) in
                let r = before.at w.0 m w.1 w.2 in
                let at_n = get_or-set_same ranks n (kept + 1) 0 in_ranks in
                subst (λ z. get_or (set ranks n (kept + 1)) m 0 < get_or (set ranks n (kept + 1)) z 0) same (omega (arith, stays_m, at_n, r.1, w.1))
            | inr few_k ↦
                let other_k : k ≡ n → ⊥ = λ e. not_n k e (λ f. omega arith) in
                let stays_k = get_or-set_other ranks n k (kept + 1) 0 other_k in
                let was = before.lower m k m_in k_in some less few_k in
                omega (arith, stays_m, stays_k, was)
          ]

module _ (count : ℕ) (all whole ranks order : List ℕ) (index kept : ℕ) (is : IsOrder all whole) (whole_index : length whole ≤ index) (after : AreKept count all whole ranks order index kept) where
  bounded : (n : ℕ) → get_or all n 0 ≤ index
  bounded n = let h = ranks_bounded all whole is n in omega arith

  past : (n : ℕ) → 0 < get_or ranks n 0 → n < count
  past n derived =
      elim (cases_below n count) [
        | inl less ↦ less
        | inr above ↦ let z = past_ranks ranks n (omega (arith, after.long, above)) in absurd (omega arith)
      ]

  was : (n : ℕ) → n < count → 0 < get_or ranks n 0 → 0 < get_or all n 0
  was n less derived =
      elim (cases_order 0 (get_or all n 0)) [
        | inl e ↦ let z = after.none n less (sym e) in absurd (omega arith)
        | inr (inl some) ↦ some
        | inr (inr more) ↦ absurd (omega arith)
      ]

  -- the place and the rank of a number that was kept
  place : (n : ℕ) → n < count → 0 < get_or all n 0 → (k : ℕ) × (k < kept) × (slice_get order k ≡ Some n) × (get_or ranks n 0 ≡ suc k)
  place n less some =
      let w = after.of n less some (bounded n) in
      (w.0, w.1, w.2, (after.at w.0 n w.1 w.2).1)

  pub kept_order : IsOrder ranks (take kept order)
  kept_order =
      record {
        at = λ i n listed. (after.at i n (slice_get-take_below kept order i n listed) (slice_get-take kept order i n listed)).1;
        of = λ i n e.
            let less : n < count = past n (omega (arith, e)) in
            let p = place n less (was n less (omega (arith, e))) in
            let same : p.0 ≡ i = omega (arith, p.3, e) in
            take-slice_get kept order i n (omega (arith, p.1, same)) (ap (slice_get order) (sym same) ∙ p.2);
      }

  -- the ranks are cut
  pub kept_cut : AreCut all ranks count
  kept_cut =
      record {
        long = after.long;
        still = λ n less some. let p = place n less some in omega (arith, p.3);
        was = was;
        lower = λ m n m_in n_in less. elim (cases_order 0 (get_or all m 0)) [
          | inl e ↦ let z = after.none m m_in (sym e) in let p = place n n_in (omega arith) in omega (arith, z, p.3)
          | inr (inl some) ↦ after.lower m n m_in n_in some less (bounded n)
          | inr (inr more) ↦ absurd (omega arith)
        ];
      }
