-- Lists of equations of which each follows from those before it: they can be joined, and what follows from equations that
-- derive derives.
use Rattle.std.proofs.Common.{◌≡◌, ℕ, zero, suc, ◌+◌, ◌<◌, ◌⊎◌, Bool, true, List, [], ◌∷◌, ◌++◌, length, take, slice_get, Some, refl, sym, ap, subst, ◌∙◌, inl, inr, arith}
use Rattle.std.specs.List.{AllZip, Contains}
use Rattle.std.proofs.lemmas.Option.{none-some, same_Some, slice_get_within}
use Rattle.std.proofs.lemmas.List.Elements.{Contains-append_left, Contains-append_right, Contains-push}
use Rattle.ct_lemmas.proofs.Contained.{Contains-from_slice_get, slice_get-from_Contains}
use Rattle.ct_lemmas.proofs.Lists.{slice_get-append_cases, slice_get-append_left, slice_get-append_right}
use Rattle.ct_lemmas.proofs.Pairs.{AllZip-weaker}
use Rattle.ct_lemmas.proofs.Prefixes.{slice_get-take, slice_get-take_below, take-slice_get}
use Rattle.ct_sorts.specs.Declarations.{Declarations}
use Rattle.ct_terms.specs.declared.ids.TermId.{TermId}
use Rattle.ct_terms.specs.declared.ids.Lit.{Lit}
use Rattle.ct_terms.specs.Children.{core_children}
use Rattle.ct_terms.specs.Terms.{Terms}
use Rattle.ct_rules.specs.declared.equation.Equation.{Equation}
use Rattle.ct_rules.specs.Rules.{Equations, Follows, by_reflexivity, by_symmetry, by_transitivity, by_congruence, by_injection, by_selection, by_testing, by_expansion, by_equation_in, by_equation_out, by_negation, by_singleton}
use Rattle.ct_rules.specs.Derivation.{AreAmong, States, IsHypothesis, AreDerived, Derives}
use Rattle.ct_rules.proofs.FollowsLemmas.{Follows-wider}

abbrev equation : TermId → TermId → Equation
equation x y = record { left = x; right = y }

-- what is among the first equations of a list stands at an index before
before : (es : List Equation) (n : ℕ) (x y : TermId) → AreAmong (take n es) x y → (k : ℕ) × (k < n) × (slice_get es k ≡ Some (equation x y))
before es n x y h =
    let at = slice_get-from_Contains (take n es) (equation x y) h in
    (at.0, slice_get-take_below n es at.0 (equation x y) at.1, slice_get-take n es at.0 (equation x y) at.1)

-- and back
among : (es : List Equation) (n k : ℕ) (x y : TermId) → k < n → slice_get es k ≡ Some (equation x y) → AreAmong (take n es) x y
among es n k x y below at = Contains-from_slice_get (take n es) k (equation x y) (take-slice_get n es k (equation x y) below at)

module _ (d : Declarations) (terms : Terms) (hyps : List Lit) (given : List Equation) where
  -- why an equation may stand in a derivation
  abbrev HasReason : Equations → Equation → Type 0
  HasReason known e = IsHypothesis hyps e.left e.right ⊎ (AreAmong given e.left e.right ⊎ Follows d terms known e.left e.right)

  HasReason-wider : (known wider : Equations) → ((x y : TermId) → known x y → wider x y) → (e : Equation) → HasReason known e → HasReason wider e
  HasReason-wider known wider each e (inl h) = inl h
  HasReason-wider known wider each e (inr (inl g)) = inr (inl g)
  HasReason-wider known wider each e (inr (inr f)) = inr (inr (Follows-wider d terms known wider each e.left e.right f))

  -- a derivation with more equations after it, each with a reason over it and over those before
  AreDerived-extend : (es fs : List Equation) → AreDerived d terms hyps given es → ((k : ℕ) (e : Equation) → slice_get fs k ≡ Some e → HasReason (λ x y. AreAmong es x y ⊎ AreAmong (take k fs) x y) e) → AreDerived d terms hyps given (es ++ fs)
  AreDerived-extend es fs first second index e at =
      elim (slice_get-append_cases es fs index e at) [
        | inl h ↦ HasReason-wider (AreAmong (take index es)) (AreAmong (take index (es ++ fs))) early e (first index e h)
        | inr h ↦ HasReason-wider (λ x y. AreAmong es x y ⊎ AreAmong (take h.0 fs) x y) (AreAmong (take index (es ++ fs))) (late h.0 h.1) e (second h.0 e h.2)
      ]
    where
      early : (x y : TermId) → AreAmong (take index es) x y → AreAmong (take index (es ++ fs)) x y
      early x y known =
          let b = before es index x y known in
          among (es ++ fs) index b.0 x y b.1 (slice_get-append_left es fs b.0 (equation x y) b.2)

      late : (k : ℕ) → index ≡ length es + k → (x y : TermId) → AreAmong es x y ⊎ AreAmong (take k fs) x y → AreAmong (take index (es ++ fs)) x y
      late k is x y (inl known) =
          let b = slice_get-from_Contains es (equation x y) known in
          among (es ++ fs) index b.0 x y (omega (arith, is, slice_get_within es b.0 (equation x y) b.1)) (slice_get-append_left es fs b.0 (equation x y) b.1)
      late k is x y (inr known) =
          let b = before fs k x y known in
          among (es ++ fs) index (length es + b.0) x y (omega (arith, b.1, is)) (slice_get-append_right es fs b.0 (equation x y) b.2)

  -- two derivations, one after the other
  AreDerived-append : (es fs : List Equation) → AreDerived d terms hyps given es → AreDerived d terms hyps given fs → AreDerived d terms hyps given (es ++ fs)
  AreDerived-append es fs first second =
      AreDerived-extend es fs first (λ k e at. HasReason-wider (AreAmong (take k fs)) (λ x y. AreAmong es x y ⊎ AreAmong (take k fs) x y) (λ x y known. inr known) e (second k e at))

  AreDerived-none : AreDerived d terms hyps given []
  AreDerived-none index e at = absurd (none-some e at)

  -- an equation with a reason over those of a derivation derives
  Derives-push : (es : List Equation) (e : Equation) → AreDerived d terms hyps given es → HasReason (AreAmong es) e → Derives d terms hyps given e.left e.right
  Derives-push es e first reason = record {
    equations = es ++ e ∷ [];
    derived = AreDerived-extend es (e ∷ []) first last;
    stands = Contains-push es e;
  }
    where
      last : (k : ℕ) (f : Equation) → slice_get (e ∷ []) k ≡ Some f → HasReason (λ x y. AreAmong es x y ⊎ AreAmong (take k (e ∷ [])) x y) f
      last zero f at = subst (HasReason (λ x y. AreAmong es x y ⊎ AreAmong (take zero (e ∷ [])) x y)) (same_Some e f at) (HasReason-wider (AreAmong es) (λ x y. AreAmong es x y ⊎ AreAmong (take zero (e ∷ [])) x y) (λ x y known. inl known) e reason)
      last (suc k) f at = absurd (none-some f at)

  -- what derives by itself
  pub Derives-hypothesis : (x y : TermId) → IsHypothesis hyps x y → Derives d terms hyps given x y
  Derives-hypothesis x y h = Derives-push [] (equation x y) AreDerived-none (inl h)

  pub Derives-given : (x y : TermId) → AreAmong given x y → Derives d terms hyps given x y
  Derives-given x y h = Derives-push [] (equation x y) AreDerived-none (inr (inl h))

  -- one derivation has all these equations
  record HaveOne (xs ys : List TermId) : Type 0 where
    equations : List Equation
    derived : AreDerived d terms hyps given equations
    stand : AllZip (AreAmong equations) xs ys

  HaveOne-all : (xs ys : List TermId) → AllZip (Derives d terms hyps given) xs ys → HaveOne xs ys
  HaveOne-all [] [] h = record { equations = []; derived = AreDerived-none; stand = tt }
  HaveOne-all [] (y ∷ ys) h = absurd h
  HaveOne-all (x ∷ xs) [] h = absurd h
  HaveOne-all (x ∷ xs) (y ∷ ys) h =
      let rest = HaveOne-all xs ys h.1 in
      let first = h.0 in
      record {
        equations = first.equations ++ rest.equations;
        derived = AreDerived-append first.equations rest.equations first.derived rest.derived;
        stand = (
          Contains-append_left first.equations rest.equations (equation x y) first.stands,
          AllZip-weaker (AreAmong rest.equations) (AreAmong (first.equations ++ rest.equations)) (λ a b known. Contains-append_right first.equations rest.equations (equation a b) known) xs ys rest.stand,
        );
      }

  -- what follows by a rule from the equations of one derivation derives
  by_rule : (es : List Equation) (x y : TermId) → AreDerived d terms hyps given es → Follows d terms (AreAmong es) x y → Derives d terms hyps given x y
  by_rule es x y derived f = Derives-push es (equation x y) derived (inr (inr f))

  -- what follows by a rule from equations that derive does
  pub Derives-follows : (x y : TermId) → Follows d terms (Derives d terms hyps given) x y → Derives d terms hyps given x y
  Derives-follows x y (by_reflexivity r) = by_rule [] x y AreDerived-none (by_reflexivity r)
  Derives-follows x y (by_symmetry r) = by_rule r.equations x y r.derived (by_symmetry r.stands)
  Derives-follows x y (by_transitivity r) =
      let a = r.first in
      let b = r.second in
      by_rule (a.equations ++ b.equations) x y (AreDerived-append a.equations b.equations a.derived b.derived) (by_transitivity (record {
        middle = r.middle;
        first = Contains-append_left a.equations b.equations (equation x r.middle) a.stands;
        second = Contains-append_right a.equations b.equations (equation r.middle y) b.stands;
      }))
  Derives-follows x y (by_congruence r) =
      let all = HaveOne-all (core_children r.left) (core_children r.right) r.arguments in
      by_rule all.equations x y all.derived (by_congruence (record {
        left = r.left;
        right = r.right;
        left_stands = r.left_stands;
        right_stands = r.right_stands;
        head = r.head;
        arguments = all.stand;
      }))
  Derives-follows x y (by_injection r) = by_rule r.equal.equations x y r.equal.derived (by_injection (record {
    left = r.left;
    right = r.right;
    ctor = r.ctor;
    xs = r.xs;
    ys = r.ys;
    place = r.place;
    equal = r.equal.stands;
    left_stands = r.left_stands;
    right_stands = r.right_stands;
    left_at = r.left_at;
    right_at = r.right_at;
  }))
  Derives-follows x y (by_selection r) = by_rule r.equal.equations x y r.equal.derived (by_selection (record {
    sel = r.sel;
    selector = r.selector;
    argument = r.argument;
    con = r.con;
    args = r.args;
    stands = r.stands;
    declared = r.declared;
    equal = r.equal.stands;
    con_stands = r.con_stands;
    at = r.at;
  }))
  Derives-follows x y (by_testing r) = by_rule r.equal.equations x y r.equal.derived (by_testing (record {
    tested = r.tested;
    argument = r.argument;
    con = r.con;
    ctor = r.ctor;
    args = r.args;
    stands = r.stands;
    equal = r.equal.stands;
    con_stands = r.con_stands;
    answer = r.answer;
  }))
  Derives-follows x y (by_expansion r) = by_rule r.holds.equations x y r.holds.derived (by_expansion (record {
    test = r.test;
    id = r.id;
    ctor = r.ctor;
    args = r.args;
    declared = r.declared;
    holds = r.holds.stands;
    test_stands = r.test_stands;
    con_stands = r.con_stands;
    fields = r.fields;
  }))
  Derives-follows x y (by_equation_in r) = by_rule r.equal.equations x y r.equal.derived (by_equation_in (record {
    left = r.left;
    right = r.right;
    stands = r.stands;
    equal = r.equal.stands;
    answer = r.answer;
  }))
  Derives-follows x y (by_equation_out r) = by_rule r.holds.equations x y r.holds.derived (by_equation_out (record {
    term = r.term;
    stands = r.stands;
    holds = r.holds.stands;
  }))
  Derives-follows x y (by_negation r) = elim r.answer [
    | inl h ↦ by_rule h.0.equations x y h.0.derived (by_negation (record { argument = r.argument; stands = r.stands; answer = inl (h.0.stands, h.1) }))
    | inr h ↦ by_rule h.0.equations x y h.0.derived (by_negation (record { argument = r.argument; stands = r.stands; answer = inr (h.0.stands, h.1) }))
  ]
  Derives-follows x y (by_singleton r) = by_rule [] x y AreDerived-none (by_singleton r)

  -- what holds of hypotheses and of what is given, and is closed under the rules, holds of all that derives
  pub Derives-least : (related : Equations) → ((x y : TermId) → IsHypothesis hyps x y → related x y) → ((x y : TermId) → AreAmong given x y → related x y) → ((x y : TermId) → Follows d terms related x y → related x y) → (x y : TermId) → Derives d terms hyps given x y → related x y
  Derives-least related states gives closed x y derives =
      let at = slice_get-from_Contains derives.equations (equation x y) derives.stands in
      up_to (suc at.0) at.0 (equation x y) (omega arith) at.1
    where
      up_to : (n : ℕ) → (k : ℕ) (e : Equation) → k < n → slice_get derives.equations k ≡ Some e → related e.left e.right
      up_to zero k e below at = absurd (omega arith)
      up_to (suc n) k e below at = elim (derives.derived k e at) [
        | inl h ↦ states e.left e.right h
        | inr r ↦ elim r [
          | inl g ↦ gives e.left e.right g
          | inr f ↦ closed e.left e.right (Follows-wider d terms (AreAmong (take k derives.equations)) related
              (λ a b known. let was = before derives.equations k a b known in up_to n was.0 (equation a b) (omega (arith, was.1)) was.2)
              e.left e.right f)
        ]
      ]

-- what derives from equations that derive from others derives from those
pub Derives-more : (d : Declarations) (terms : Terms) (hyps more_hyps : List Lit) (given more_given : List Equation) → ((x y : TermId) → IsHypothesis hyps x y → Derives d terms more_hyps more_given x y) → ((x y : TermId) → AreAmong given x y → Derives d terms more_hyps more_given x y) → (x y : TermId) → Derives d terms hyps given x y → Derives d terms more_hyps more_given x y
Derives-more d terms hyps more_hyps given more_given states gives =
    Derives-least d terms hyps given (Derives d terms more_hyps more_given) states gives (Derives-follows d terms more_hyps more_given)
