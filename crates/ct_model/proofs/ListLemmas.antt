-- Lists that grow by one at the end: ranges, and what is written of a list.
use Rattle.std.proofs.Common.{◌≡◌, ℕ, zero, suc, ◌+◌, ◌<◌, ◌≤◌, List, [], ◌∷◌, ◌++◌, length, take, get_or, sym, ap, subst, ◌∙◌, arith, append_assoc, append-nil}
use Rattle.std.specs.List.{AllZip, range_with_len}
use Rattle.std.proofs.lemmas.List.{take_more, length-take, take_all}
use Rattle.std.proofs.lemmas.List.FromFn.{length-range_with_len}
use Rattle.std.proofs.lemmas.Slice.Zip.{AllZip-long}
use Rattle.ct_lemmas.proofs.Pairs.{AllZip-push}

-- one number more
range-from : (a n : ℕ) → range_with_len a (n + 1) ≡ range_with_len a n ++ (a + n) ∷ []
range-from a zero =
    let at : a ≡ a + 0 = omega arith in
    ap (λ k. k ∷ []) at
range-from a (suc n) =
    let long : suc n + 1 ≡ suc (n + 1) = omega arith in
    let at : a + 1 + n ≡ a + suc n = omega arith in
    ap (range_with_len a) long ∙ ap (λ w. a ∷ w) (range-from (a + 1) n) ∙ ap (λ k. a ∷ (range_with_len (a + 1) n ++ k ∷ [])) at

pub range-more : (n : ℕ) → range_with_len 0 (n + 1) ≡ range_with_len 0 n ++ n ∷ []
range-more n =
    let at : 0 + n ≡ n = omega arith in
    range-from 0 n ∙ ap (λ k. range_with_len 0 n ++ k ∷ []) at

-- texts of the elements of a list, written after what was there
module _ {X Y : Type 0} (R : X → Y → Type 0) (render : List Y → List ℕ) where
  abbrev pub AreWritten : List X → List ℕ → List ℕ → Type 0
  AreWritten xs old now = (ys : List Y) × AllZip R xs ys × (now ≡ old ++ render ys)

  -- nothing is written of no element
  pub none_written : (old : List ℕ) → render [] ≡ [] → AreWritten [] old old
  none_written old e = ([], tt, sym (append-nil old) ∙ ap (λ w. old ++ w) (sym e))

  -- the first elements are all where the number is not below the length
  pub all_written : (xs : List X) (i : ℕ) (old now : List ℕ) → length xs ≤ i → AreWritten (take i xs) old now → AreWritten xs old now
  all_written xs i old now all before = subst (λ zs. AreWritten zs old now) (take_all i xs all) before

  -- each further element is written as a piece
  module _ (piece : ℕ → Y → List ℕ) (push : (ys : List Y) (y : Y) → render (ys ++ y ∷ []) ≡ render ys ++ piece (length ys) y) where
    pub one_more : (xs : List X) (x : X) (old now new : List ℕ) → AreWritten xs old now → (y : Y) × R x y × (new ≡ now ++ piece (length xs) y) → AreWritten (xs ++ x ∷ []) old new
    one_more xs x old now new before last =
        let ys = before.0 in
        let y = last.0 in
        let long : length xs ≡ length ys = sym (AllZip-long R xs ys before.1) in (
          ys ++ y ∷ [],
          AllZip-push R xs ys x y before.1 last.1,
          last.2
              ∙ ap (λ w. w ++ piece (length xs) y) before.2
              ∙ append_assoc old (render ys) (piece (length xs) y)
              ∙ ap (λ k. old ++ (render ys ++ piece k y)) long
              ∙ ap (λ w. old ++ w) (sym (push ys y)),
        )

    -- the same of the first elements of a list
    pub one_more_taken : (xs : List X) (i : ℕ) (d : X) (old now new : List ℕ) → i < length xs → AreWritten (take i xs) old now → (y : Y) × R (get_or xs i d) y × (new ≡ now ++ piece i y) → AreWritten (take (i + 1) xs) old new
    one_more_taken xs i d old now new within before last =
        let long : i ≡ length (take i xs) = omega (arith, length-take {A = X}) in
        subst (λ zs. AreWritten zs old new) (sym (take_more xs i d within))
        (one_more (take i xs) (get_or xs i d) old now new before (last.0, last.1, last.2 ∙ ap (λ k. now ++ piece k last.0) long))

    pub one_more_read : (xs : List X) (i : ℕ) (x : X) (old now new : List ℕ) → i < length xs → x ≡ get_or xs i x → AreWritten (take i xs) old now → (y : Y) × R x y × (new ≡ now ++ piece i y) → AreWritten (take (i + 1) xs) old new
    one_more_read xs i x old now new within read before last =
        one_more_taken xs i x old now new within before (last.0, subst (λ z. R z last.0) read last.1, last.2)

-- the same of the first numbers
module _ {Y : Type 0} (R : ℕ → Y → Type 0) (render : List Y → List ℕ) (piece : ℕ → Y → List ℕ) (push : (ys : List Y) (y : Y) → render (ys ++ y ∷ []) ≡ render ys ++ piece (length ys) y) where
  pub one_more_number : (i : ℕ) (old now new : List ℕ) → AreWritten R render (range_with_len 0 i) old now → (y : Y) × R i y × (new ≡ now ++ piece i y) → AreWritten R render (range_with_len 0 (i + 1)) old new
  one_more_number i old now new before last =
      let long : i ≡ length (range_with_len 0 i) = sym (length-range_with_len 0 i) in
      subst (λ zs. AreWritten R render zs old new) (sym (range-more i))
      (one_more R render piece push (range_with_len 0 i) i old now new before (last.0, last.1, last.2 ∙ ap (λ k. now ++ piece k last.0) long))
