-- Terms at places of a list, and places without one of them.
use Rattle.std.proofs.Common.{◌≡◌, ℕ, zero, suc, ◌+◌, ◌<◌, ◌≤◌, ◌⊎◌, List, [], ◌∷◌, ◌++◌, length, map, drop, All, Contains, Some, slice_get, refl, sym, ap, subst, ◌∙◌, inl, inr, arith}
use Rattle.std.proofs.lemmas.Option.{get_or_from_slice_get, same_Some, slice_get_within}
use Rattle.ct_lemmas.proofs.Contained.{Contains-cons, Contains-first, Contains-rest, Contains-from_slice_get, slice_get-from_Contains}
use Rattle.ct_lemmas.proofs.Each.{All-from_Contains}
use Rattle.ct_lemmas.proofs.Lists.{slice_get-map_at, slice_get-map_source}
use Rattle.ct_lemmas.proofs.Prefixes.{drop-next}
use Rattle.ct_lemmas.proofs.Pairs.{AllZip-at_left, AllZip-at_right, AllZip-left_parts}
use Rattle.ct_terms.specs.declared.ids.TermId.{TermId}
use Rattle.ct_core.specs.Trimmed.{AreRising}
use Rattle.ct_core.specs.Core.{AreAt}
use Rattle.ct_shrink.specs.Shrunk.{ArePart, HaveOthers}

module _ (asserts : List TermId) where
  -- at some places there stand the same terms
  pub at_unique : (places : List ℕ) (ts us : List TermId) → AreAt asserts places ts → AreAt asserts places us → ts ≡ us
  at_unique [] [] [] a b = refl
  at_unique [] [] (u ∷ us) a b = absurd b
  at_unique [] (t ∷ ts) us a b = absurd a
  at_unique (p ∷ ps) [] us a b = absurd a
  at_unique (p ∷ ps) (t ∷ ts) [] a b = absurd b
  at_unique (p ∷ ps) (t ∷ ts) (u ∷ us) a b = ap (λ (v : TermId). v ∷ ts) (same_Some t u (sym a.0 ∙ b.0)) ∙ ap (λ (vs : List TermId). u ∷ vs) (at_unique ps ts us a.1 b.1)

  -- without one place
  pub at_without : (front : List ℕ) (place : ℕ) (back : List ℕ) (ts : List TermId) → AreAt asserts (front ++ place ∷ back) ts → (us : List TermId) × AreAt asserts (front ++ back) us
  at_without [] place back [] h = absurd h
  at_without [] place back (t ∷ ts) h = (ts, h.1)
  at_without (p ∷ ps) place back [] h = absurd h
  at_without (p ∷ ps) place back (t ∷ ts) h = let left = at_without ps place back ts h.1 in (t ∷ left.0, (h.0, left.1))

  -- the places are places of the list
  pub at_within : (places : List ℕ) (ts : List TermId) → AreAt asserts places ts → All (λ p. p < length asserts) places
  at_within places ts h = AllZip-left_parts (λ (p : ℕ) (t : TermId). slice_get asserts p ≡ Some t) (λ (p : ℕ). p < length asserts) (λ p t at. slice_get_within asserts p t at) places ts h

  -- the terms are items of the list
  pub at_among : (places : List ℕ) (ts : List TermId) → AreAt asserts places ts → All (Contains asserts) ts
  at_among places ts h = All-from_Contains (Contains asserts) ts (λ t inside.
      let at = slice_get-from_Contains ts t inside in
      let place = AllZip-at_right (λ (p : ℕ) (u : TermId). slice_get asserts p ≡ Some u) places ts at.0 t h at.1 in
      Contains-from_slice_get asserts place.0 t place.2)

  -- what stands at one of the places is one of the terms
  pub at_member : (places : List ℕ) (ts : List TermId) (place : ℕ) (t : TermId) → AreAt asserts places ts → Contains places place → slice_get asserts place ≡ Some t → Contains ts t
  at_member places ts place t h inside at =
      let index = slice_get-from_Contains places place inside in
      let there = AllZip-at_left (λ (p : ℕ) (u : TermId). slice_get asserts p ≡ Some u) places ts index.0 place h index.1 in
      Contains-from_slice_get ts index.0 t (there.1 ∙ ap Some (same_Some there.0 t (sym there.2 ∙ at)))

-- where two lists have the same images, so have what stands at some places
pub at_images : {X : Type 0} (f g : TermId → X) (asserts others : List TermId) → map f others ≡ map g asserts → (places : List ℕ) (us : List TermId) → AreAt others places us
    → (ts : List TermId) × AreAt asserts places ts × (map f us ≡ map g ts)
at_images {X} f g asserts others same [] [] h = ([], tt, refl)
at_images {X} f g asserts others same [] (u ∷ us) h = absurd h
at_images {X} f g asserts others same (p ∷ ps) [] h = absurd h
at_images {X} f g asserts others same (p ∷ ps) (u ∷ us) h =
    let rest = at_images f g asserts others same ps us h.1 in
    let image : slice_get (map g asserts) p ≡ Some (f u) = ap (λ (xs : List X). slice_get xs p) (sym same) ∙ slice_get-map_at f others p u h.0 in
    let source = slice_get-map_source g asserts p (f u) image in
    (source.0 ∷ rest.0, (source.1, rest.1), ap (λ (x : X). x ∷ map f us) (sym source.2) ∙ ap (λ (xs : List X). g source.0 ∷ xs) rest.2)

-- an index in the list without the item after so many others, and that of the same item in the whole list
abbrev pub IsShifted : ℕ → ℕ → ℕ → Type 0
IsShifted count k j = ((k < count) × (j ≡ k)) ⊎ ((count ≤ k) × (j ≡ suc k))

module _ {X : Type 0} where
  -- what stands in the list without one item stands in the whole list
  pub shifted : (front : List X) (x : X) (back : List X) (k : ℕ) (y : X) → slice_get (front ++ back) k ≡ Some y → (j : ℕ) × (slice_get (front ++ x ∷ back) j ≡ Some y) × IsShifted (length front) k j
  shifted [] x back k y at = (suc k, at, inr (omega arith, refl))
  shifted (a ∷ front) x back zero y at = (zero, at, inl (omega arith, refl))
  shifted (a ∷ front) x back (suc k) y at =
      let there = shifted front x back k y at in
      (suc there.0, there.1, next there.0 there.2)
    where
      next : (j : ℕ) → IsShifted (length front) k j → IsShifted (suc (length front)) (suc k) (suc j)
      next j h = elim h [
        | inl is ↦ inl (omega (arith, is.0), ap suc is.1)
        | inr is ↦ inr (omega (arith, is.0), ap suc is.1)
      ]

  -- the item itself
  pub at_middle : (front : List X) (x : X) (back : List X) → slice_get (front ++ x ∷ back) (length front) ≡ Some x
  at_middle [] x back = refl
  at_middle (a ∷ front) x back = at_middle front x back

  -- each other item of the whole list is in the list without it
  pub others_inside : (front : List X) (x : X) (back : List X) (y : X) → Contains (front ++ x ∷ back) y → (y ≡ x → ⊥) → Contains (front ++ back) y
  others_inside [] x back y inside other = elim (Contains-cons x back y inside) [
    | inl same ↦ absurd (other (sym same))
    | inr rest ↦ rest
  ]
  others_inside (a ∷ front) x back y inside other = elim (Contains-cons a (front ++ x ∷ back) y inside) [
    | inl same ↦ subst (Contains (a ∷ front ++ back)) same (Contains-first a (front ++ back))
    | inr rest ↦ Contains-rest a (front ++ back) y (others_inside front x back y rest other)
  ]

  -- an item of the list without it is in the whole list
  pub inside_whole : (front : List X) (x : X) (back : List X) (y : X) → Contains (front ++ back) y → Contains (front ++ x ∷ back) y
  inside_whole front x back y inside =
      let at = slice_get-from_Contains (front ++ back) y inside in
      let there = shifted front x back at.0 y at.1 in
      Contains-from_slice_get (front ++ x ∷ back) there.0 y there.1

module _ (front : List ℕ) (place : ℕ) (back : List ℕ) where
  -- numbers that rise do so without one of them
  pub rising_without : AreRising (front ++ place ∷ back) → AreRising (front ++ back)
  rising_without rising j k m n at_j at_k less =
      let left = shifted front place back j m at_j in
      let right = shifted front place back k n at_k in
      rising left.0 right.0 m n left.1 right.1 (order left.0 right.0 left.2 right.2)
    where
      order : (a b : ℕ) → IsShifted (length front) j a → IsShifted (length front) k b → a < b
      order a b (inl p) (inl q) = omega (arith, less, p.1, q.1)
      order a b (inl p) (inr q) = omega (arith, less, p.1, q.1)
      order a b (inr p) (inl q) = absurd (omega (arith, less, p.0, q.0))
      order a b (inr p) (inr q) = omega (arith, less, p.1, q.1)

  -- and it is not among the others
  pub not_among : AreRising (front ++ place ∷ back) → Contains (front ++ back) place → ⊥
  not_among rising inside =
      let at = slice_get-from_Contains (front ++ back) place inside in
      let there = shifted front place back at.0 place at.1 in
      by at.0 there.0 there.1 there.2
    where
      here : slice_get (front ++ place ∷ back) (length front) ≡ Some place
      here = at_middle front place back

      by : (k j : ℕ) → slice_get (front ++ place ∷ back) j ≡ Some place → IsShifted (length front) k j → ⊥
      by k j at (inl is) = let less = rising j (length front) place place at here (omega (arith, is.0, is.1)) in omega (arith, less)
      by k j at (inr is) = let less = rising (length front) j place place here at (omega (arith, is.0, is.1)) in omega (arith, less)

  -- places that are part of others are so without one of them
  pub part_without : (given : List ℕ) → ArePart given (front ++ place ∷ back) → ArePart given (front ++ back)
  part_without given part = record {
    rising = rising_without part.rising;
    among = λ p inside. part.among p (inside_whole front place back p inside);
  }

  -- these have the others
  pub have_others : HaveOthers (front ++ back) (front ++ place ∷ back) place
  have_others other inside different = others_inside front place back other inside different

-- the next of some places is the first of those that are left
pub next_place : (given : List ℕ) (index place : ℕ) → slice_get given index ≡ Some place → drop index given ≡ place ∷ drop (index + 1) given
next_place given index place at =
    drop-next given index place (slice_get_within given index place at) ∙ ap (λ (p : ℕ). p ∷ drop (index + 1) given) (get_or_from_slice_get given index place place at)
