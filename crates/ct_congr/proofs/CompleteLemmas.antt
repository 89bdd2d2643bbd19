-- Classes that are closed under every rule are exactly what derives.
use Rattle.std.proofs.Common.{◌≡◌, ◌<◌, ◌⊎◌, Bool, true, false, nat_eq, List, [], ◌∷◌, length, Option, slice_get, Some, None, refl, sym, ap, subst, ◌∙◌, inl, inr, arith, true≢false}
use Rattle.std.specs.List.{Contains}
use Rattle.std.proofs.lemmas.Bool.Decides.{Decides-eqb}
use Rattle.std.proofs.lemmas.Option.{slice_get_within}
use Rattle.ct_sorts.specs.Declarations.{Declarations}
use Rattle.ct_terms.specs.declared.ids.TermId.{TermId}
use Rattle.ct_terms.specs.declared.ids.Lit.{Lit}
use Rattle.ct_terms.specs.Terms.{Terms}
use Rattle.ct_rules.specs.declared.equation.Equation.{Equation}
use Rattle.ct_rules.specs.Rules.{Follows, by_reflexivity, by_symmetry, by_transitivity, by_congruence, by_injection, by_selection, by_testing, by_expansion, by_equation_in, by_equation_out, by_negation, by_singleton}
use Rattle.ct_rules.specs.Derivation.{AreAmong, IsHypothesis, Derives}
use Rattle.ct_congr.specs.declared.merge.Merge.{Merge}
use Rattle.ct_congr.specs.Partition.{InOneClass}
use Rattle.ct_congr.specs.Reasons.{IsReason, IsRule}
use Rattle.ct_congr.specs.Merges.{IsChain}
use Rattle.ct_congr.specs.Rules.{AreRulesClosed}
use Rattle.ct_congr.specs.Sound.{IsSound}
use Rattle.ct_congr.proofs.ClassLemmas.{InOneClass-refl, InOneClass-sym, InOneClass-trans}
use Rattle.ct_congr.proofs.FollowsLemmas.{Follows-wider}
use Rattle.ct_congr.proofs.MergeLemmas.{IsReason-wider, IsReason-follows}

-- the theorems on derivations that are needed
pub record Theorems (d : Declarations) (terms : Terms) (hyps : List Lit) (given : List Equation) : Type 0 where
  pub states : (x y : TermId) → IsHypothesis hyps x y → Derives d terms hyps given x y
  pub follows : (x y : TermId) → Follows d terms (Derives d terms hyps given) x y → Derives d terms hyps given x y
  pub least : (related : TermId → TermId → Bool) → ((x y : TermId) → IsHypothesis hyps x y → related x y ≡ true) → ((x y : TermId) → AreAmong given x y → related x y ≡ true) → ((x y : TermId) → Follows d terms (λ a b. related a b ≡ true) x y → related x y ≡ true) → (x y : TermId) → Derives d terms hyps given x y → related x y ≡ true

-- ---- the test of two terms

same_at : Option TermId → Option TermId → Bool
same_at (Some r) (Some s) = nat_eq r.0 s.0
same_at p q = false

pub same_class : List TermId → TermId → TermId → Bool
same_class reps x y = same_at (slice_get reps x.0) (slice_get reps y.0)

pub class_of : (reps : List TermId) (x y : TermId) → same_class reps x y ≡ true → InOneClass reps x y
unfolding same_class same_at
class_of reps x y h = at (slice_get reps x.0) (slice_get reps y.0) refl refl h
  where
    at : (p q : Option TermId) → slice_get reps x.0 ≡ p → slice_get reps y.0 ≡ q → same_at p q ≡ true → InOneClass reps x y
    at (Some r) (Some s) p q e = (r, p, q ∙ ap Some (λ i. record { 0 = sym ((Decides-eqb r.0 s.0).0 e) i }))
    at (Some r) None p q e = absurd (true≢false (sym e))
    at None q p e h = absurd (true≢false (sym h))

pub test_of : (reps : List TermId) (x y : TermId) → InOneClass reps x y → same_class reps x y ≡ true
unfolding same_class same_at
test_of reps x y h = rw (h.1, h.2) ((Decides-eqb h.0.0 h.0.0).1 refl)

-- ---- one way

module _ (d : Declarations) (terms : Terms) (hyps : List Lit) (given : List Equation) (theorems : Theorems d terms hyps given) where
  Derives-sym : (x y : TermId) → Derives d terms hyps given x y → Derives d terms hyps given y x
  Derives-sym x y h = theorems.follows y x (by_symmetry h)

  Derives-trans : (x y z : TermId) → Derives d terms hyps given x y → Derives d terms hyps given y z → Derives d terms hyps given x z
  Derives-trans x y z p q = theorems.follows x z (by_transitivity (record { middle = y; first = p; second = q }))

  Derives-chain : (merges : List Merge) → ((m : Merge) → Contains merges m → Derives d terms hyps given m.left m.right) → (x : TermId) (zs : List TermId) (y : TermId) → IsChain merges x zs y → (x ≡ y) ⊎ Derives d terms hyps given x y
  Derives-chain merges derives x [] y h = inl h
  Derives-chain merges derives x (z ∷ zs) y h =
      let m = h.0.0 in
      let one = derives m h.0.1 in
      let step : Derives d terms hyps given x z = elim h.0.2 [
        | inl p ↦ subst (λ (t : TermId). Derives d terms hyps given t z) p.0 (subst (Derives d terms hyps given m.left) p.1 one)
        | inr p ↦ Derives-sym z x (subst (λ (t : TermId). Derives d terms hyps given t x) p.0 (subst (Derives d terms hyps given m.left) p.1 one))
      ] in
      inr (elim (Derives-chain merges derives z zs y h.1) [
        | inl same ↦ subst (Derives d terms hyps given x) same step
        | inr rest ↦ Derives-trans x z y step rest
      ])

  -- what is of one class derives
  pub Derives-class : (reps : List TermId) (cons : List (Option TermId)) (merges : List Merge) → IsSound d terms hyps given reps cons merges → (x y : TermId) → InOneClass reps x y → Derives d terms hyps given x y
  Derives-class reps cons merges sound x y h =
      let inside : x.0 < length terms = omega (arith, slice_get_within reps x.0 h.0 h.1, sound.long) in
      let chain = sound.connected x y h in
      elim (Derives-chain merges sound.derives x chain.0 y chain.1) [
        | inl same ↦ theorems.follows x y (by_reflexivity (record { inside = inside; one = same }))
        | inr derives ↦ derives
      ]

  -- so does what follows by a rule from equations of classes
  pub Derives-reason : (reps : List TermId) (cons : List (Option TermId)) (merges : List Merge) → IsSound d terms hyps given reps cons merges → (m : Merge) → IsReason d terms hyps (InOneClass reps) m.left m.right m.why → IsRule m.why → Derives d terms hyps given m.left m.right
  Derives-reason reps cons merges sound m why rule =
      let wide = IsReason-wider d terms hyps (InOneClass reps) (Derives d terms hyps given) (Derives-class reps cons merges sound) m.left m.right m.why why in
      elim (IsReason-follows d terms hyps (Derives d terms hyps given) m.left m.right m.why rule wide) [
        | inl states ↦ theorems.states m.left m.right states
        | inr follows ↦ theorems.follows m.left m.right follows
      ]

-- ---- the other way

-- closed under the rules, an equivalence is closed under all of them
pub Follows-closed : (d : Declarations) (terms : Terms) (reps : List TermId) → length reps ≡ length terms → AreRulesClosed d terms (InOneClass reps) → (x y : TermId) → Follows d terms (InOneClass reps) x y → InOneClass reps x y
Follows-closed d terms reps long closed x y (by_reflexivity r) = subst (InOneClass reps x) r.one (InOneClass-refl reps x (omega (arith, r.inside, long)))
Follows-closed d terms reps long closed x y (by_symmetry r) = InOneClass-sym reps y x r
Follows-closed d terms reps long closed x y (by_transitivity r) = InOneClass-trans reps x r.middle y r.first r.second
Follows-closed d terms reps long closed x y (by_congruence r) = closed.congruence x y r
Follows-closed d terms reps long closed x y (by_injection r) = closed.injection x y r
Follows-closed d terms reps long closed x y (by_selection r) = closed.selection x y r
Follows-closed d terms reps long closed x y (by_testing r) = closed.testing x y r
Follows-closed d terms reps long closed x y (by_expansion r) = closed.expansion x y r
Follows-closed d terms reps long closed x y (by_equation_in r) = closed.equation_in x y r
Follows-closed d terms reps long closed x y (by_equation_out r) = closed.equation_out x y r
Follows-closed d terms reps long closed x y (by_negation r) = closed.negation x y r
Follows-closed d terms reps long closed x y (by_singleton r) = closed.singleton x y r

-- what derives is of one class
pub InOneClass-derives : (d : Declarations) (terms : Terms) (hyps : List Lit) (given : List Equation) → Theorems d terms hyps given → (reps : List TermId) → length reps ≡ length terms → AreRulesClosed d terms (InOneClass reps) → ((x y : TermId) → IsHypothesis hyps x y → InOneClass reps x y) → ((x y : TermId) → AreAmong given x y → InOneClass reps x y) → (x y : TermId) → Derives d terms hyps given x y → InOneClass reps x y
InOneClass-derives d terms hyps given theorems reps long closed states gives x y derives =
    class_of reps x y (theorems.least (same_class reps)
    (λ u v h. test_of reps u v (states u v h))
    (λ u v h. test_of reps u v (gives u v h))
    (λ u v f. test_of reps u v (Follows-closed d terms reps long closed u v (Follows-wider d terms (λ a b. same_class reps a b ≡ true) (InOneClass reps) (class_of reps) u v f)))
    x y derives)
