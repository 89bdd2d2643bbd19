-- How long lists of different elements are.
use Rattle.std.proofs.Common.{◌≡◌, ℕ, suc, ◌+◌, ◌≤◌, List, [], ◌∷◌, ◌++◌, length, Contains, slice_get, Some, refl, sym, ap, subst, ◌∙◌, inl, inr, arith}
use Rattle.std.proofs.lemmas.List.Elements.{Contains-append_cases, Contains-append_left, Contains-append_right}
use Rattle.std.proofs.lemmas.List.{length-append}
use Rattle.ct_lemmas.proofs.Contained.{Contains-cons, Contains-first, Contains-none, Contains-rest, slice_get-from_Contains}

-- a list with an element is what stands before it, it, and what stands after it
parted : {X : Type 0} (ys : List X) (x : X) → Contains ys x → (before : List X) × (after : List X) × (ys ≡ before ++ x ∷ after)
parted [] x h = absurd (Contains-none x h)
parted {X} (y ∷ ys) x h =
    elim (Contains-cons y ys x h) [
      | inl same ↦ ([], ys, ap (λ (z : X). z ∷ ys) same)
      | inr rest ↦ let p = parted ys x rest in (y ∷ p.0, p.1, ap (λ (zs : List X). y ∷ zs) p.2)
    ]

-- another element is before it or after it
other : {X : Type 0} (before after : List X) (x y : X) → Contains (before ++ x ∷ after) y → (y ≡ x → ⊥) → Contains (before ++ after) y
other before after x y h apart =
    elim (Contains-append_cases before (x ∷ after) y h) [
      | inl first ↦ Contains-append_left before after y first
      | inr last ↦ elim (Contains-cons x after y last) [
        | inl same ↦ absurd (apart (sym same))
        | inr rest ↦ Contains-append_right before after y rest
      ]
    ]

-- different elements of a list are no more than the list has
pub no_longer : {X : Type 0} (xs ys : List X) → ((i j : ℕ) (x : X) → slice_get xs i ≡ Some x → slice_get xs j ≡ Some x → i ≡ j) → ((x : X) → Contains xs x → Contains ys x) → length xs ≤ length ys
no_longer [] ys different inside = omega arith
no_longer {X} (x ∷ xs) ys different inside =
    let p = parted ys x (inside x (Contains-first x xs)) in
    let before = p.0 in
    let after = p.1 in
    let apart : (y : X) → Contains xs y → y ≡ x → ⊥ = λ y h same.
    let at = slice_get-from_Contains xs y h in
    absurd (omega (arith, different 0 (suc at.0) x refl (at.1 ∙ ap Some same)))
    in
    let fewer : length xs ≤ length (before ++ after) =
    no_longer xs (before ++ after)
    (λ i j y at_i at_j. let e = different (suc i) (suc j) y at_i at_j in omega (arith, e))
    (λ y h. other before after x y (subst (λ (zs : List X). Contains zs y) p.2 (inside y (Contains-rest x xs y h))) (apart y h))
    in
    let long : length ys ≡ length before + length (x ∷ after) = ap length p.2 ∙ length-append before (x ∷ after) in
    omega (arith, fewer, long, length-append before after)
