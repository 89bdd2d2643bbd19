-- A list that is read from its end on.
use Rattle.std.proofs.Common.{◌≡◌, ◌⊎◌, inl, inr, ℕ, zero, suc, ◌-◌, ◌≤◌, List, ◌++◌, length, take, drop, reverse, sym, ap, ◌∙◌, arith}
use Rattle.std.proofs.lemmas.List.{reverse-append, length-reverse, length-drop, take-append-drop, drop_at, drop_all}

-- one of two numbers is no greater than the other
either : (m n : ℕ) → (m ≤ n) ⊎ (n ≤ m)
either zero n = inl (omega arith)
either (suc m) zero = inr (omega arith)
either (suc m) (suc n) = elim (either m n) [
  | inl h ↦ inl (omega (arith, h))
  | inr h ↦ inr (omega (arith, h))
]

-- where it has so many: without its last n elements it is read as without the first n that are read
left_within : {X : Type 0} (xs : List X) (n : ℕ) → n ≤ length xs → reverse (take (length xs - n) xs) ≡ drop n (reverse xs)
left_within {X} xs n within =
    let k = length xs - n in
    let whole : reverse xs ≡ reverse (drop k xs) ++ reverse (take k xs) = ap (λ (ys : List X). reverse ys) (sym (take-append-drop k xs)) ∙ reverse-append (take k xs) (drop k xs) in
    let left : length xs - k ≡ n = omega (arith, within) in
    let long : length (reverse (drop k xs)) ≡ n = length-reverse (drop k xs) ∙ length-drop k xs ∙ left in
    sym (ap (λ (ys : List X). drop n ys) whole ∙ drop_at (reverse (drop k xs)) (reverse (take k xs)) n long)

-- however many it has
pub last_left : {X : Type 0} (xs : List X) (n : ℕ) → reverse (take (length xs - n) xs) ≡ drop n (reverse xs)
last_left {X} xs n = elim (either n (length xs)) [
  | inl h ↦ left_within xs n h
  | inr h ↦
      let none : length xs - n ≡ 0 = omega (arith, h) in
      let same : length (reverse xs) ≡ length xs = length-reverse xs in
      let past : length (reverse xs) ≤ n = omega (arith, same, h) in
      ap (λ (k : ℕ). reverse (take k xs)) none ∙ sym (drop_all n (reverse xs) past)
]
