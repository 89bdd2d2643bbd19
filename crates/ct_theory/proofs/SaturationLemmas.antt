-- Classes that are closed under the rules are exactly what the literals entail.
use Rattle.std.proofs.Common.{◌≡◌, ℕ, zero, suc, ◌<◌, ◌⊎◌, List, [], ◌∷◌, length, take, slice_get, Some, subst, inl, inr, arith}
use Rattle.std.specs.List.{Contains}
use Rattle.std.proofs.lemmas.Option.{none-some, same_Some}
use Rattle.std.proofs.lemmas.List.Elements.{Contains-push}
use Rattle.ct_lemmas.proofs.Contained.{slice_get-from_Contains}
use Rattle.ct_sorts.specs.Declarations.{Declarations}
use Rattle.ct_terms.specs.declared.ids.TermId.{TermId}
use Rattle.ct_terms.specs.declared.ids.Lit.{Lit}
use Rattle.ct_terms.specs.Terms.{Terms}
use Rattle.ct_rules.specs.declared.equation.Equation.{Equation}
use Rattle.ct_rules.specs.Rules.{Equations, Follows}
use Rattle.ct_rules.specs.Derivation.{AreAmong, IsHypothesis, Derives}
use Rattle.ct_congr.specs.State.{State, AreEqual, IsQuiet}
use Rattle.ct_unique.specs.Partition.{IsStronglyExtensional}
use Rattle.ct_theory.specs.Entailment.{FollowsAtAll, Entails}
use Rattle.ct_theory.proofs.FollowsLemmas.{Follows-wider}
use Rattle.ct_theory.proofs.EntailmentLemmas.{equation, before, Entails-hypothesis, Entails-inside, Entails-follows, Entails-least}
use Rattle.ct_theory.proofs.BisimulationLemmas.{InOneClass-left, InOneClass-right, AreBisimilar-unique}

-- what holds of hypotheses and of what is given, and is closed under the rules, holds of all that derives
Derives-least : (d : Declarations) (terms : Terms) (hyps : List Lit) (given : List Equation) (related : Equations) → ((x y : TermId) → IsHypothesis hyps x y → related x y) → ((x y : TermId) → AreAmong given x y → related x y) → ((x y : TermId) → Follows d terms related x y → related x y) → (x y : TermId) → Derives d terms hyps given x y → related x y
Derives-least d terms hyps given related states gives closed x y derives =
    let at = slice_get-from_Contains derives.equations (equation x y) derives.stands in
    up_to (suc at.0) at.0 (equation x y) (omega arith) at.1
  where
    up_to : (n : ℕ) → (k : ℕ) (e : Equation) → k < n → slice_get derives.equations k ≡ Some e → related e.left e.right
    up_to zero k e below at = absurd (omega arith)
    up_to (suc n) k e below at = elim (derives.derived k e at) [
      | inl h ↦ states e.left e.right h
      | inr r ↦ elim r [
        | inl g ↦ gives e.left e.right g
        | inr f ↦ closed e.left e.right (Follows-wider d terms (AreAmong (take k derives.equations)) related
            (λ a b known. let was = before derives.equations k a b known in up_to n was.0 (equation a b) (omega (arith, was.1)) was.2)
            e.left e.right f)
      ]
    ]

-- what is given derives
Derives-given : (d : Declarations) (terms : Terms) (hyps : List Lit) (given : List Equation) (x y : TermId) → AreAmong given x y → Derives d terms hyps given x y
Derives-given d terms hyps given x y h = record {
  equations = equation x y ∷ [];
  derived = alone;
  stands = Contains-push [] (equation x y);
}
  where
    alone : (index : ℕ) (e : Equation) → slice_get (equation x y ∷ []) index ≡ Some e → IsHypothesis hyps e.left e.right ⊎ (AreAmong given e.left e.right ⊎ Follows d terms (AreAmong (take index (equation x y ∷ []))) e.left e.right)
    alone zero e at = inr (inl (subst (λ (f : Equation). AreAmong given f.left f.right) (same_Some (equation x y) e at) h))
    alone (suc index) e at = absurd (none-some e at)

module _ (state : State) (quiet : IsQuiet state) (long : length state.reps ≡ length state.terms) (states : (x y : TermId) → IsHypothesis state.hypotheses x y → AreEqual state x y) where
  -- the terms of a class are terms of the table
  AreEqual-inside : (x y : TermId) → AreEqual state x y → (x.0 < length state.terms) × (y.0 < length state.terms)
  AreEqual-inside x y h =
      let left = InOneClass-left state.reps x y h in
      let right = InOneClass-right state.reps x y h in
      (omega (arith, left, long), omega (arith, right, long))

  -- what is entailed is of one class, where bisimilar classes are one
  pub AreEqual-entailed : IsStronglyExtensional state → (x y : TermId) → Entails state.declarations state.terms state.hypotheses x y → AreEqual state x y
  AreEqual-entailed extensional = Entails-least state.declarations state.terms state.hypotheses (AreEqual state) states closed
    where
      closed : (x y : TermId) → FollowsAtAll state.declarations state.terms (AreEqual state) x y → AreEqual state x y
      closed x y (inl f) = quiet.closed.closed x y f
      closed x y (inr u) = extensional x y (AreBisimilar-unique state long x y u)

  module _ (given : (e : Equation) → Contains state.given e → Entails state.declarations state.terms state.hypotheses e.left e.right) where
    abbrev Both : TermId → TermId → Type 0
    Both x y = AreEqual state x y × Entails state.declarations state.terms state.hypotheses x y

    given_equal : (x y : TermId) → AreAmong state.given x y → Both x y
    given_equal x y h =
        let entailed = given (equation x y) h in
        let inside = Entails-inside state.declarations state.terms state.hypotheses x y entailed in
        ((quiet.closed.exact x y inside.0 inside.1).1 (Derives-given state.declarations state.terms state.hypotheses state.given x y h), entailed)

    closed_both : (x y : TermId) → Follows state.declarations state.terms Both x y → Both x y
    closed_both x y f =
        let equal = quiet.closed.closed x y (Follows-wider state.declarations state.terms Both (AreEqual state) (λ a b h. h.0) x y f) in
        let inside = AreEqual-inside x y equal in
        (equal, Entails-follows state.declarations state.terms state.hypotheses x y inside.0 inside.1 (inl (Follows-wider state.declarations state.terms Both (Entails state.declarations state.terms state.hypotheses) (λ a b h. h.1) x y f)))

    -- terms of one class are entailed to be equal, where all that was given is entailed
    pub Entails-equal : (x y : TermId) → AreEqual state x y → Entails state.declarations state.terms state.hypotheses x y
    Entails-equal x y h =
        let inside = AreEqual-inside x y h in
        (Derives-least state.declarations state.terms state.hypotheses state.given Both hypothesis given_equal closed_both x y ((quiet.closed.exact x y inside.0 inside.1).0 h)).1
      where
        hypothesis : (a b : TermId) → IsHypothesis state.hypotheses a b → Both a b
        hypothesis a b s =
            let equal = states a b s in
            let within = AreEqual-inside a b equal in
            (equal, Entails-hypothesis state.declarations state.terms state.hypotheses a b within.0 within.1 s)
