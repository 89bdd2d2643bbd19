-- Terms of one class as a test, and the bisimulation of the pairs that uniqueness lists.
use Rattle.std.proofs.Common.{◌≡◌, ℕ, zero, suc, ◌<◌, ◌⊎◌, Bool, true, false, ◌&&◌, ◌||◌, List, [], ◌∷◌, length, Option, Some, None, slice_get, refl, sym, ap, subst, ◌∙◌, inl, inr, arith, true≢false}
use Rattle.std.proofs.lemmas.Bool.{and_from, eqb-true, eq-eqb}
use Rattle.std.proofs.lemmas.Option.{none-some, same_Some, slice_get_within}
use Rattle.ct_lemmas.proofs.Booleans.{both_parts, or_cases, or_left, or_right}
use Rattle.ct_lemmas.proofs.Contained.{Contains-from_slice_get, slice_get-from_Contains}
use Rattle.ct_lemmas.proofs.Lists.{slice_get-there}
use Rattle.ct_lemmas.proofs.Pairs.{AllZip-weaker}
use Rattle.ct_terms.specs.declared.ids.TermId.{TermId}
use Rattle.ct_rules.specs.declared.equation.Equation.{Equation}
use Rattle.ct_rules.specs.Uniqueness.{AreMatched, IsUniqueness, HaveRelatedTerms}
use Rattle.ct_congr.specs.Partition.{InOneClass}
use Rattle.ct_congr.specs.State.{State, AreEqual}
use Rattle.ct_unique.specs.Partition.{AreBisimilar}
use Rattle.ct_theory.specs.Consulting.{are_one, in_one_class}

-- ---- the test of one class

are_one-from : (a b : Option TermId) (r : TermId) → a ≡ Some r → b ≡ Some r → are_one a b ≡ true
are_one-from None b r p q = absurd (none-some r p)
are_one-from (Some a) None r p q = absurd (none-some r q)
are_one-from (Some a) (Some b) r p q = eq-eqb a.0 b.0 (ap (λ t. t.0) (same_Some a r p ∙ sym (same_Some b r q)))

are_one-to : (a b : Option TermId) → are_one a b ≡ true → (r : TermId) × (a ≡ Some r) × (b ≡ Some r)
are_one-to None b h = absurd (true≢false (sym h))
are_one-to (Some a) None h = absurd (true≢false (sym h))
are_one-to (Some a) (Some b) h =
    let e = eqb-true a.0 b.0 h in
    (a, refl, (λ i. Some (record { 0 = sym e i })))

module _ (reps : List TermId) where
  pub in_one_class-from : (x y : TermId) → InOneClass reps x y → in_one_class reps x.0 y.0 ≡ true
  in_one_class-from x y h = are_one-from (slice_get reps x.0) (slice_get reps y.0) h.0 h.1 h.2

  pub in_one_class-to : (x y : TermId) → in_one_class reps x.0 y.0 ≡ true → InOneClass reps x y
  in_one_class-to x y h = are_one-to (slice_get reps x.0) (slice_get reps y.0) h

  pub InOneClass-sym : (x y : TermId) → InOneClass reps x y → InOneClass reps y x
  InOneClass-sym x y h = (h.0, h.2, h.1)

  pub InOneClass-trans : (x y z : TermId) → InOneClass reps x y → InOneClass reps y z → InOneClass reps x z
  InOneClass-trans x y z p q = (p.0, p.1, q.2 ∙ sym q.1 ∙ p.2)

  pub InOneClass-refl : (x : TermId) → x.0 < length reps → InOneClass reps x x
  InOneClass-refl x inside = let at = slice_get-there reps x.0 inside in (at.0, at.1, at.1)

  pub InOneClass-left : (x y : TermId) → InOneClass reps x y → x.0 < length reps
  InOneClass-left x y h = slice_get_within reps x.0 h.0 h.1

  pub InOneClass-right : (x y : TermId) → InOneClass reps x y → y.0 < length reps
  InOneClass-right x y h = slice_get_within reps y.0 h.0 h.2

-- ---- the pairs

module _ (state : State) where
  -- each of the terms is of the class of its side of one of the pairs
  abbrev meets : List Equation → TermId → TermId → Bool
  meets [] x y = false
  meets (pair ∷ pairs) x y = (in_one_class state.reps x.0 pair.left.0 && in_one_class state.reps pair.right.0 y.0) || meets pairs x y

  -- or they are of one class
  abbrev related : List Equation → TermId → TermId → Bool
  related pairs x y = in_one_class state.reps x.0 y.0 || meets pairs x y

  meets-from : (pairs : List Equation) (k : ℕ) (pair : Equation) (x y : TermId) → slice_get pairs k ≡ Some pair → AreEqual state x pair.left → AreEqual state pair.right y → meets pairs x y ≡ true
  meets-from [] k pair x y at left right = absurd (none-some pair at)
  meets-from (p ∷ ps) zero pair x y at left right =
      let here = same_Some p pair at in
      or_left (in_one_class state.reps x.0 p.left.0 && in_one_class state.reps p.right.0 y.0) (meets ps x y)
      (and_from (in_one_class state.reps x.0 p.left.0) (in_one_class state.reps p.right.0 y.0)
      (in_one_class-from state.reps x p.left (subst (λ (e : Equation). AreEqual state x e.left) (sym here) left))
      (in_one_class-from state.reps p.right y (subst (λ (e : Equation). AreEqual state e.right y) (sym here) right)))
  meets-from (p ∷ ps) (suc k) pair x y at left right =
      or_right (in_one_class state.reps x.0 p.left.0 && in_one_class state.reps p.right.0 y.0) (meets ps x y) (meets-from ps k pair x y at left right)

  meets-to : (pairs : List Equation) (x y : TermId) → meets pairs x y ≡ true → (k : ℕ) × (pair : Equation) × (slice_get pairs k ≡ Some pair) × AreEqual state x pair.left × AreEqual state pair.right y
  meets-to [] x y h = absurd (true≢false (sym h))
  meets-to (p ∷ ps) x y h = elim (or_cases (in_one_class state.reps x.0 p.left.0 && in_one_class state.reps p.right.0 y.0) (meets ps x y) h) [
    | inl here ↦
        let parts = both_parts (in_one_class state.reps x.0 p.left.0) (in_one_class state.reps p.right.0 y.0) here in
        (0, p, refl, in_one_class-to state.reps x p.left parts.0, in_one_class-to state.reps p.right y parts.1)
    | inr later ↦ let found = meets-to ps x y later in (suc found.0, found.1, found.2, found.3, found.4)
  ]

  related-from : (pairs : List Equation) (x y : TermId) → AreMatched (AreEqual state) pairs x y → related pairs x y ≡ true
  related-from pairs x y (inl h) = or_left (in_one_class state.reps x.0 y.0) (meets pairs x y) (in_one_class-from state.reps x y h)
  related-from pairs x y (inr h) =
      let at = slice_get-from_Contains pairs h.0 h.1 in
      or_right (in_one_class state.reps x.0 y.0) (meets pairs x y) (meets-from pairs at.0 h.0 x y at.1 h.2 h.3)

  related-to : (pairs : List Equation) (x y : TermId) → related pairs x y ≡ true → AreMatched (AreEqual state) pairs x y
  related-to pairs x y h = elim (or_cases (in_one_class state.reps x.0 y.0) (meets pairs x y) h) [
    | inl one ↦ inl (in_one_class-to state.reps x y one)
    | inr found ↦ let m = meets-to pairs x y found in inr (m.1, Contains-from_slice_get pairs m.0 m.1 m.2, m.3, m.4)
  ]

  AreMatched-of_classes : (pairs : List Equation) (x y u v : TermId) → AreEqual state x u → AreEqual state y v → AreMatched (AreEqual state) pairs x y → AreMatched (AreEqual state) pairs u v
  AreMatched-of_classes pairs x y u v left right (inl h) =
      inl (InOneClass-trans state.reps u x v (InOneClass-sym state.reps x u left) (InOneClass-trans state.reps x y v h right))
  AreMatched-of_classes pairs x y u v left right (inr h) =
      inr (h.0, h.1, InOneClass-trans state.reps u x h.0.left (InOneClass-sym state.reps x u left) h.2, InOneClass-trans state.reps h.0.right y v h.3 right)

  -- what uniqueness gives over the classes is bisimilar
  pub AreBisimilar-unique : length state.reps ≡ length state.terms → (x y : TermId) → IsUniqueness state.terms (AreEqual state) x y → AreBisimilar state x y
  AreBisimilar-unique long x y u =
      let own = u.matched (record { left = x; right = y }) u.listed in
      let in_x : x.0 < length state.reps = omega (arith, slice_get_within state.terms x.0 _ own.left_stands.1, long) in
      let in_y : y.0 < length state.reps = omega (arith, slice_get_within state.terms y.0 _ own.right_stands.1, long) in
      record {
        related = related u.pairs;
        bisimulation = record {
          of_classes = λ a b c e left right h. related-from u.pairs c e (AreMatched-of_classes u.pairs a b c e left right (related-to u.pairs a b h));
          matched = λ a b h. matched a b (related-to u.pairs a b h);
        };
        holds = related-from u.pairs x y (inr (record { left = x; right = y }, u.listed, InOneClass-refl state.reps x in_x, InOneClass-refl state.reps y in_y));
      }
    where
      matched : (a b : TermId) → AreMatched (AreEqual state) u.pairs a b → AreEqual state a b ⊎ HaveRelatedTerms state.terms (AreEqual state) (related u.pairs) a b
      matched a b (inl h) = inl h
      matched a b (inr h) =
          let m = u.matched h.0 h.1 in
          inr (record {
            left = h.0.left;
            right = h.0.right;
            ctor = m.ctor;
            xs = m.xs;
            ys = m.ys;
            left_equal = h.2;
            right_equal = InOneClass-sym state.reps h.0.right b h.3;
            left_stands = m.left_stands;
            right_stands = m.right_stands;
            arguments = AllZip-weaker (AreMatched (AreEqual state) u.pairs) (λ p q. related u.pairs p q ≡ true) (related-from u.pairs) m.xs m.ys m.arguments;
          })
