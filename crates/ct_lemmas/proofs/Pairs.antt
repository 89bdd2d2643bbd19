-- Two lists, element by element.
use Rattle.std.proofs.Common.{◌≡◌, suc, List, [], ◌∷◌, length, refl, ap, ℕ, zero, slice_get, Some, subst, sym, ◌∙◌, arith, ◌++◌, ◌<◌, get_or, ◌+◌, inl, inr, All}
use Rattle.std.specs.List.{AllZip}
use Rattle.std.proofs.lemmas.List.{get_or_default}
use Rattle.std.proofs.lemmas.Option.{none-some, same_Some}
use Rattle.ct_lemmas.proofs.Numbers.{last_or_before}

module _ {X Y : Type 0} (R : X → Y → Type 0) where
  -- lists that are related element by element have one length
  pub AllZip-one_length : (xs : List X) (ys : List Y) → AllZip R xs ys → length xs ≡ length ys
  AllZip-one_length [] [] all = refl
  AllZip-one_length [] (y ∷ ys) all = absurd all
  AllZip-one_length (x ∷ xs) [] all = absurd all
  AllZip-one_length (x ∷ xs) (y ∷ ys) all = ap suc (AllZip-one_length xs ys all.1)

  -- for what stands in the left list something that it is related to stands in the right one
  pub AllZip-at_left : (xs : List X) (ys : List Y) (k : ℕ) (x : X) → AllZip R xs ys → slice_get xs k ≡ Some x → (y : Y) × (slice_get ys k ≡ Some y) × R x y
  AllZip-at_left [] ys k x all at = absurd (none-some x at)
  AllZip-at_left (a ∷ xs) [] k x all at = absurd all
  AllZip-at_left (a ∷ xs) (b ∷ ys) zero x all at = (b, refl, subst (λ z. R z b) (same_Some a x at) all.0)
  AllZip-at_left (a ∷ xs) (b ∷ ys) (suc k) x all at = AllZip-at_left xs ys k x all.1 at

  -- and the other way round
  pub AllZip-at_right : (xs : List X) (ys : List Y) (k : ℕ) (y : Y) → AllZip R xs ys → slice_get ys k ≡ Some y → (x : X) × (slice_get xs k ≡ Some x) × R x y
  AllZip-at_right xs [] k y all at = absurd (none-some y at)
  AllZip-at_right [] (b ∷ ys) k y all at = absurd all
  AllZip-at_right (a ∷ xs) (b ∷ ys) zero y all at = (a, refl, subst (R a) (same_Some b y at) all.0)
  AllZip-at_right (a ∷ xs) (b ∷ ys) (suc k) y all at = AllZip-at_right xs ys k y all.1 at

  -- what stands in both lists at an index is related
  pub AllZip-at : (xs : List X) (ys : List Y) (k : ℕ) (x : X) (y : Y) → AllZip R xs ys → slice_get xs k ≡ Some x → slice_get ys k ≡ Some y → R x y
  AllZip-at xs ys k x y all at_x at_y =
      let h = AllZip-at_left xs ys k x all at_x in
      subst (R x) (same_Some h.0 y (sym h.1 ∙ at_y)) h.2

  -- lists of one length in which what stands at each index is related
  pub AllZip-from : (xs : List X) (ys : List Y) → length xs ≡ length ys → ((k : ℕ) (x : X) (y : Y) → slice_get xs k ≡ Some x → slice_get ys k ≡ Some y → R x y) → AllZip R xs ys
  AllZip-from [] [] long each = tt
  AllZip-from [] (y ∷ ys) long each = absurd (omega (arith, long))
  AllZip-from (x ∷ xs) [] long each = absurd (omega (arith, long))
  AllZip-from (x ∷ xs) (y ∷ ys) long each = (each 0 x y refl refl, AllZip-from xs ys (omega (arith, long)) (λ k a b at_a at_b. each (suc k) a b at_a at_b))

  -- with a last element more in each list
  pub AllZip-push : (xs : List X) (ys : List Y) (x : X) (y : Y) → AllZip R xs ys → R x y → AllZip R (xs ++ x ∷ []) (ys ++ y ∷ [])
  AllZip-push [] [] x y all last = (last, tt)
  AllZip-push [] (b ∷ ys) x y all last = absurd all
  AllZip-push (a ∷ xs) [] x y all last = absurd all
  AllZip-push (a ∷ xs) (b ∷ ys) x y all last = (all.0, AllZip-push xs ys x y all.1 last)

  -- with nothing on the left there is nothing on the right
  pub AllZip-none : (ys : List Y) → AllZip R [] ys → ys ≡ []
  AllZip-none [] h = refl
  AllZip-none (y ∷ ys) h = absurd h

  -- what holds element by element of lists of one length
  pub AllZip-from_indices : (xs : List X) (ys : List Y) → length xs ≡ length ys → ((k : ℕ) (d : X) (e : Y) → k < length xs → R (get_or xs k d) (get_or ys k e)) → AllZip R xs ys
  AllZip-from_indices [] [] long each = tt
  AllZip-from_indices [] (y ∷ ys) long each = absurd (omega arith)
  AllZip-from_indices (x ∷ xs) [] long each = absurd (omega arith)
  AllZip-from_indices (x ∷ xs) (y ∷ ys) long each =
      (each 0 x y (omega arith), AllZip-from_indices xs ys (omega arith) (λ k d e within. each (suc k) d e (omega arith)))

  -- and back
  pub AllZip-at_index : (xs : List X) (ys : List Y) → AllZip R xs ys → (k : ℕ) (d : X) (e : Y) → k < length xs → R (get_or xs k d) (get_or ys k e)
  AllZip-at_index [] ys all k d e within = absurd (omega arith)
  AllZip-at_index (x ∷ xs) [] all k d e within = absurd all
  AllZip-at_index (x ∷ xs) (y ∷ ys) all zero d e within = all.0
  AllZip-at_index (x ∷ xs) (y ∷ ys) all (suc k) d e within = AllZip-at_index xs ys all.1 k d e (omega arith)

  -- what holds element by element before a number and at it holds up to it
  pub indices-more : (xs : List X) (ys : List Y) (i : ℕ) (x : X) (y : Y) → i < length xs → i < length ys → ((k : ℕ) (d : X) (e : Y) → k < i → R (get_or xs k d) (get_or ys k e)) → R (get_or xs i x) (get_or ys i y) → (k : ℕ) (d : X) (e : Y) → k < i + 1 → R (get_or xs k d) (get_or ys k e)
  indices-more xs ys i x y in_xs in_ys before last k d e up_to =
      elim (last_or_before k i up_to) [
        | inl h ↦ before k d e h
        | inr h ↦
            let at_x : get_or xs i x ≡ get_or xs k d = get_or_default xs i x d in_xs ∙ ap (λ (n : ℕ). get_or xs n d) (sym h) in
            let at_y : get_or ys i y ≡ get_or ys k e = get_or_default ys i y e in_ys ∙ ap (λ (n : ℕ). get_or ys n e) (sym h) in
            subst (R (get_or xs k d)) at_y (subst (λ (z : X). R z (get_or ys i y)) at_x last)
      ]

module _ {X Y : Type 0} (R : X → Y → Type 0) (P : X → Type 0) (part : (x : X) (y : Y) → R x y → P x) where
  -- what follows for each left element of lists that are related element by element
  pub AllZip-left_parts : (xs : List X) (ys : List Y) → AllZip R xs ys → All P xs
  AllZip-left_parts [] ys all k e within = absurd (omega arith)
  AllZip-left_parts (x ∷ xs) [] all k e within = absurd all
  AllZip-left_parts (x ∷ xs) (y ∷ ys) all zero e within = part x y all.0
  AllZip-left_parts (x ∷ xs) (y ∷ ys) all (suc k) e within = AllZip-left_parts xs ys all.1 k e (omega arith)

-- what follows for each pair
pub AllZip-weaker : {X Y : Type 0} (P Q : X → Y → Type 0) → ((x : X) (y : Y) → P x y → Q x y) → (xs : List X) (ys : List Y) → AllZip P xs ys → AllZip Q xs ys
AllZip-weaker P Q each [] [] h = tt
AllZip-weaker P Q each [] (y ∷ ys) h = absurd h
AllZip-weaker P Q each (x ∷ xs) [] h = absurd h
AllZip-weaker P Q each (x ∷ xs) (y ∷ ys) h = (each x y h.0, AllZip-weaker P Q each xs ys h.1)
