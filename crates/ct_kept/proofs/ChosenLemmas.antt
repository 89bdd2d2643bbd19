-- Items that are chosen one after the other.
use Rattle.std.proofs.Common.{◌≡◌, ℕ, ◌+◌, ◌<◌, ◌≤◌, List, [], ◌∷◌, ◌++◌, length, take, get_or, Option, None, Some, MatchOption, refl, sym, ap, subst, inl, inr, arith}
use Rattle.std.proofs.lemmas.List.{take_more}
use Rattle.std.specs.List.{AllByRecursion}
use Rattle.ct_kept.specs.Kept.{AreChosen}

module _ {X Y : Type 0} (P : X → Type 0) (R : X → Y → Type 0) where
  -- one item more that goes with another
  pub chosen_more : (xs : List X) (ys : List Y) (x : X) (y : Y) → AreChosen P R xs ys → P x → R x y → AreChosen P R (xs ++ x ∷ []) (ys ++ y ∷ [])
  chosen_more [] ys x y chosen holds goes = inl (holds, (y, [], goes, ap (λ (zs : List Y). zs ++ y ∷ []) chosen, refl))
  chosen_more (z ∷ xs) ys x y chosen holds goes =
      elim chosen [
        | inl chosen_one ↦
            let rest = chosen_one.1 in
            inl (chosen_one.0, (rest.0, rest.1 ++ y ∷ [], rest.2, ap (λ (zs : List Y). zs ++ y ∷ []) rest.3, chosen_more xs rest.1 x y rest.4 holds goes))
        | inr left_out ↦ inr (left_out.0, chosen_more xs ys x y left_out.1 holds goes)
      ]

  -- one item more that is left out
  pub chosen_without : (xs : List X) (ys : List Y) (x : X) → AreChosen P R xs ys → (P x → ⊥) → AreChosen P R (xs ++ x ∷ []) ys
  chosen_without [] ys x chosen fails = inr (fails, chosen)
  chosen_without (z ∷ xs) ys x chosen fails =
      elim chosen [
        | inl chosen_one ↦
            let rest = chosen_one.1 in
            inl (chosen_one.0, (rest.0, rest.1, rest.2, rest.3, chosen_without xs rest.1 x rest.4 fails))
        | inr left_out ↦ inr (left_out.0, chosen_without xs ys x left_out.1 fails)
      ]

-- one item more, where what goes with it was looked for
module _ {X Y : Type 0} (P : X → Type 0) (R : X → Y → Type 0) (S : Y → Type 0) where
  pub chosen_found : (xs : List X) (x : X) (ys zs : List Y) (found : Option Y) → AreChosen P R xs ys → ((y : Y) → S y → P x × R x y) → MatchOption found (P x → ⊥) S → MatchOption found (zs ≡ ys) (λ y. zs ≡ ys ++ y ∷ []) →
      AreChosen P R (xs ++ x ∷ []) zs
  chosen_found xs x ys zs None chosen fits fails same = subst (AreChosen P R (xs ++ x ∷ [])) (sym same) (chosen_without P R xs ys x chosen fails)
  chosen_found xs x ys zs (Some y) chosen fits holds more =
      let both = fits y holds in
      subst (AreChosen P R (xs ++ x ∷ [])) (sym more) (chosen_more P R xs ys x y chosen both.0 both.1)

  -- in a list up to an index
  pub chosen_next : (xs : List X) (i : ℕ) (d : X) → i < length xs → (ys zs : List Y) (found : Option Y) → AreChosen P R (take i xs) ys → ((y : Y) → S y → P (get_or xs i d) × R (get_or xs i d) y) →
      MatchOption found (P (get_or xs i d) → ⊥) S → MatchOption found (zs ≡ ys) (λ y. zs ≡ ys ++ y ∷ []) → AreChosen P R (take (i + 1) xs) zs
  chosen_next xs i d within ys zs found chosen fits holds more =
      subst (λ (ws : List X). AreChosen P R ws zs) (sym (take_more xs i d within)) (chosen_found (take i xs) (get_or xs i d) ys zs found chosen fits holds more)

-- what is chosen by other conditions that come to the same
module _ {X Y : Type 0} (P Q : X → Type 0) (R S : X → Y → Type 0) (I : X → Type 0) (both : (x : X) → I x → (P x → Q x) × (Q x → P x)) (goes : (x : X) (y : Y) → I x → P x → R x y → S x y) where
  pub chosen_otherwise : (xs : List X) (ys : List Y) → AllByRecursion I xs → AreChosen P R xs ys → AreChosen Q S xs ys
  chosen_otherwise [] ys each chosen = chosen
  chosen_otherwise (x ∷ xs) ys each chosen =
      elim chosen [
        | inl chosen_one ↦
            let rest = chosen_one.1 in
            inl ((both x each.0).0 chosen_one.0, (rest.0, rest.1, goes x rest.0 each.0 chosen_one.0 rest.2, rest.3, chosen_otherwise xs rest.1 each.1 rest.4))
        | inr left_out ↦ inr (λ q. left_out.0 ((both x each.0).1 q), chosen_otherwise xs ys each.1 left_out.1)
      ]

module _ {X Y : Type 0} (P : X → Type 0) (R : X → Y → Type 0) where
  -- what each chosen item has
  pub chosen_all : (Q : Y → Type 0) → ((x : X) (y : Y) → P x → R x y → Q y) → (xs : List X) (ys : List Y) → AreChosen P R xs ys → AllByRecursion Q ys
  chosen_all Q each [] ys chosen = subst (AllByRecursion Q) (sym chosen) tt
  chosen_all Q each (x ∷ xs) ys chosen =
      elim chosen [
        | inl chosen_one ↦
            let rest = chosen_one.1 in
            subst (AllByRecursion Q) (sym rest.3) (each x rest.0 chosen_one.0 rest.2, chosen_all Q each xs rest.1 rest.4)
        | inr left_out ↦ chosen_all Q each xs ys left_out.1
      ]

  -- there are no more of them
  pub chosen_length : (xs : List X) (ys : List Y) → AreChosen P R xs ys → length ys ≤ length xs
  chosen_length [] ys chosen = omega (arith, ap length chosen)
  chosen_length (x ∷ xs) ys chosen =
      elim chosen [
        | inl chosen_one ↦
            let rest = chosen_one.1 in
            omega (arith, ap length rest.3, chosen_length xs rest.1 rest.4)
        | inr left_out ↦ omega (arith, chosen_length xs ys left_out.1)
      ]
