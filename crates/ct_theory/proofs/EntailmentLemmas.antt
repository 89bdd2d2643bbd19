-- Lists of equations that literals entail: they can be joined, and what follows from entailed equations is entailed.
use Rattle.std.proofs.Common.{◌≡◌, ℕ, zero, suc, ◌+◌, ◌<◌, ◌⊎◌, true, false, List, [], ◌∷◌, ◌++◌, length, take, slice_get, Some, refl, subst, inl, inr, arith}
use Rattle.std.specs.List.{AllZip, Contains}
use Rattle.std.proofs.lemmas.Option.{none-some, same_Some, slice_get_within}
use Rattle.std.proofs.lemmas.List.Elements.{Contains-append_left, Contains-append_right, Contains-push}
use Rattle.ct_lemmas.proofs.Contained.{Contains-from_slice_get, slice_get-from_Contains}
use Rattle.ct_lemmas.proofs.Lists.{slice_get-append_cases, slice_get-append_left, slice_get-append_right}
use Rattle.ct_lemmas.proofs.Pairs.{AllZip-weaker}
use Rattle.ct_lemmas.proofs.Prefixes.{slice_get-take, slice_get-take_below, take-slice_get}
use Rattle.ct_sorts.specs.Declarations.{Declarations}
use Rattle.ct_terms.specs.declared.ids.TermId.{TermId}
use Rattle.ct_terms.specs.declared.ids.Lit.{Lit}
use Rattle.ct_terms.specs.Children.{core_children}
use Rattle.ct_terms.specs.Terms.{Terms}
use Rattle.ct_rules.specs.declared.equation.Equation.{Equation}
use Rattle.ct_rules.specs.Rules.{Equations, truth_term, Follows, by_reflexivity, by_symmetry, by_transitivity, by_congruence, by_injection, by_selection, by_testing, by_expansion, by_equation_in, by_equation_out, by_negation, by_singleton}
use Rattle.ct_rules.specs.Derivation.{AreAmong, IsHypothesis}
use Rattle.ct_rules.specs.Uniqueness.{AreMatched, IsPairMatched, IsUniqueness}
use Rattle.ct_theory.specs.Entailment.{FollowsAtAll, AreEntailed, Entails}
use Rattle.ct_theory.proofs.FollowsLemmas.{FollowsAtAll-wider, IsPairMatched-wider}

abbrev pub equation : TermId → TermId → Equation
equation x y = record { left = x; right = y }

-- what is among the first equations of a list stands at an index before
pub before : (es : List Equation) (n : ℕ) (x y : TermId) → AreAmong (take n es) x y → (k : ℕ) × (k < n) × (slice_get es k ≡ Some (equation x y))
before es n x y h =
    let at = slice_get-from_Contains (take n es) (equation x y) h in
    (at.0, slice_get-take_below n es at.0 (equation x y) at.1, slice_get-take n es at.0 (equation x y) at.1)

-- and back
among : (es : List Equation) (n k : ℕ) (x y : TermId) → k < n → slice_get es k ≡ Some (equation x y) → AreAmong (take n es) x y
among es n k x y below at = Contains-from_slice_get (take n es) k (equation x y) (take-slice_get n es k (equation x y) below at)

module _ (d : Declarations) (terms : Terms) (literals : List Lit) where
  -- why an equation may stand in a list
  abbrev HasReason : Equations → Equation → Type 0
  HasReason known e = IsHypothesis literals e.left e.right ⊎ FollowsAtAll d terms known e.left e.right

  -- both sides are terms of the table
  abbrev IsInside : Equation → Type 0
  IsInside e = (e.left.0 < length terms) × (e.right.0 < length terms)

  HasReason-wider : (known wider : Equations) → ((x y : TermId) → known x y → wider x y) → (e : Equation) → HasReason known e → HasReason wider e
  HasReason-wider known wider each e (inl h) = inl h
  HasReason-wider known wider each e (inr f) = inr (FollowsAtAll-wider d terms known wider each e.left e.right f)

  -- a list with more equations after it, each with a reason over it and over those before
  AreEntailed-extend : (es fs : List Equation) → AreEntailed d terms literals es → ((e : Equation) → Contains fs e → IsInside e) → ((k : ℕ) (e : Equation) → slice_get fs k ≡ Some e → HasReason (λ x y. AreAmong es x y ⊎ AreAmong (take k fs) x y) e) → AreEntailed d terms literals (es ++ fs)
  AreEntailed-extend es fs first inside second = record {
    inside = within;
    each = reasons;
  }
    where
      within : (e : Equation) → Contains (es ++ fs) e → IsInside e
      within e h =
          let at = slice_get-from_Contains (es ++ fs) e h in
          elim (slice_get-append_cases es fs at.0 e at.1) [
            | inl left ↦ first.inside e (Contains-from_slice_get es at.0 e left)
            | inr right ↦ inside e (Contains-from_slice_get fs right.0 e right.2)
          ]

      early : (index : ℕ) (x y : TermId) → AreAmong (take index es) x y → AreAmong (take index (es ++ fs)) x y
      early index x y known =
          let b = before es index x y known in
          among (es ++ fs) index b.0 x y b.1 (slice_get-append_left es fs b.0 (equation x y) b.2)

      late : (index k : ℕ) → index ≡ length es + k → (x y : TermId) → AreAmong es x y ⊎ AreAmong (take k fs) x y → AreAmong (take index (es ++ fs)) x y
      late index k is x y (inl known) =
          let b = slice_get-from_Contains es (equation x y) known in
          among (es ++ fs) index b.0 x y (omega (arith, is, slice_get_within es b.0 (equation x y) b.1)) (slice_get-append_left es fs b.0 (equation x y) b.1)
      late index k is x y (inr known) =
          let b = before fs k x y known in
          among (es ++ fs) index (length es + b.0) x y (omega (arith, b.1, is)) (slice_get-append_right es fs b.0 (equation x y) b.2)

      reasons : (index : ℕ) (e : Equation) → slice_get (es ++ fs) index ≡ Some e → HasReason (AreAmong (take index (es ++ fs))) e
      reasons index e at = elim (slice_get-append_cases es fs index e at) [
        | inl h ↦ HasReason-wider (AreAmong (take index es)) (AreAmong (take index (es ++ fs))) (early index) e (first.each index e h)
        | inr h ↦ HasReason-wider (λ x y. AreAmong es x y ⊎ AreAmong (take h.0 fs) x y) (AreAmong (take index (es ++ fs))) (late index h.0 h.1) e (second h.0 e h.2)
      ]

  -- two lists, one after the other
  AreEntailed-append : (es fs : List Equation) → AreEntailed d terms literals es → AreEntailed d terms literals fs → AreEntailed d terms literals (es ++ fs)
  AreEntailed-append es fs first second =
      AreEntailed-extend es fs first second.inside (λ k e at. HasReason-wider (AreAmong (take k fs)) (λ x y. AreAmong es x y ⊎ AreAmong (take k fs) x y) (λ x y known. inr known) e (second.each k e at))

  AreEntailed-none : AreEntailed d terms literals []
  AreEntailed-none = record { inside = λ e h. absurd (none-some e (slice_get-from_Contains [] e h).1); each = λ index e at. absurd (none-some e at) }

  -- an equation with a reason over those of a list is entailed
  Entails-push : (es : List Equation) (e : Equation) → AreEntailed d terms literals es → IsInside e → HasReason (AreAmong es) e → Entails d terms literals e.left e.right
  Entails-push es e first inside reason = record {
    equations = es ++ e ∷ [];
    entailed = AreEntailed-extend es (e ∷ []) first within last;
    stands = Contains-push es e;
  }
    where
      at_end : (k : ℕ) (f : Equation) → slice_get (e ∷ []) k ≡ Some f → (k ≡ 0) × (e ≡ f)
      at_end zero f at = (refl, same_Some e f at)
      at_end (suc k) f at = absurd (none-some f at)

      within : (f : Equation) → Contains (e ∷ []) f → IsInside f
      within f h =
          let at = slice_get-from_Contains (e ∷ []) f h in
          subst IsInside (at_end at.0 f at.1).1 inside

      last : (k : ℕ) (f : Equation) → slice_get (e ∷ []) k ≡ Some f → HasReason (λ x y. AreAmong es x y ⊎ AreAmong (take k (e ∷ [])) x y) f
      last k f at = HasReason-wider (AreAmong es) (λ x y. AreAmong es x y ⊎ AreAmong (take k (e ∷ [])) x y) (λ x y known. inl known) f (subst (HasReason (AreAmong es)) (at_end k f at).1 reason)

  -- what a literal states is entailed
  pub Entails-hypothesis : (x y : TermId) → x.0 < length terms → y.0 < length terms → IsHypothesis literals x y → Entails d terms literals x y
  Entails-hypothesis x y left right h = Entails-push [] (equation x y) AreEntailed-none (left, right) (inl h)

  -- both sides of an entailed equation are terms of the table
  pub Entails-inside : (x y : TermId) → Entails d terms literals x y → (x.0 < length terms) × (y.0 < length terms)
  Entails-inside x y h = h.entailed.inside (equation x y) h.stands

  -- one list has all these equations
  record HaveOne (P : Equations → Type 0) : Type 0 where
    equations : List Equation
    entailed : AreEntailed d terms literals equations
    stand : P (AreAmong equations)

  -- two of these as one
  both : (P Q : Equations → Type 0) → ((known wider : Equations) → ((x y : TermId) → known x y → wider x y) → P known → P wider) → ((known wider : Equations) → ((x y : TermId) → known x y → wider x y) → Q known → Q wider) → HaveOne P → HaveOne Q → HaveOne (λ known. P known × Q known)
  both P Q more_p more_q p q = record {
    equations = p.equations ++ q.equations;
    entailed = AreEntailed-append p.equations q.equations p.entailed q.entailed;
    stand = (
      more_p (AreAmong p.equations) (AreAmong (p.equations ++ q.equations)) (λ x y known. Contains-append_left p.equations q.equations (equation x y) known) p.stand,
      more_q (AreAmong q.equations) (AreAmong (p.equations ++ q.equations)) (λ x y known. Contains-append_right p.equations q.equations (equation x y) known) q.stand,
    );
  }

  abbrev Grows : (Equations → Type 0) → Type 1
  Grows P = (known wider : Equations) → ((x y : TermId) → known x y → wider x y) → P known → P wider

  none : (P : Equations → Type 0) → P (AreAmong []) → HaveOne P
  none P p = record { equations = []; entailed = AreEntailed-none; stand = p }

  one : (x y : TermId) → Entails d terms literals x y → HaveOne (λ known. known x y)
  one x y h = record { equations = h.equations; entailed = h.entailed; stand = h.stands }

  -- from a fact another one
  via : (P Q : Equations → Type 0) → ((known : Equations) → P known → Q known) → HaveOne P → HaveOne Q
  via P Q step p = record { equations = p.equations; entailed = p.entailed; stand = step (AreAmong p.equations) p.stand }

  -- terms side by side
  zipped : (R : Equations → TermId → TermId → Type 0) → ((x y : TermId) → Grows (λ known. R known x y)) → ((x y : TermId) → R (Entails d terms literals) x y → HaveOne (λ known. R known x y)) → (xs ys : List TermId) → AllZip (R (Entails d terms literals)) xs ys → HaveOne (λ known. AllZip (R known) xs ys)
  zipped R grows each [] [] h = none (λ known. AllZip (R known) [] []) tt
  zipped R grows each [] (y ∷ ys) h = absurd h
  zipped R grows each (x ∷ xs) [] h = absurd h
  zipped R grows each (x ∷ xs) (y ∷ ys) h =
      both (λ known. R known x y) (λ known. AllZip (R known) xs ys) (grows x y)
      (λ known wider more all. AllZip-weaker (R known) (R wider) (λ a b. grows a b known wider more) xs ys all)
      (each x y h.0) (zipped R grows each xs ys h.1)

  -- two terms that are matched
  AreMatched-grows : (pairs : List Equation) (x y : TermId) → Grows (λ known. AreMatched known pairs x y)
  AreMatched-grows pairs x y known wider more (inl h) = inl (more x y h)
  AreMatched-grows pairs x y known wider more (inr h) = inr (h.0, h.1, more x h.0.left h.2, more h.0.right y h.3)

  AreMatched-one : (pairs : List Equation) (x y : TermId) → AreMatched (Entails d terms literals) pairs x y → HaveOne (λ known. AreMatched known pairs x y)
  AreMatched-one pairs x y (inl h) = via (λ known. known x y) (λ known. AreMatched known pairs x y) (λ known k. inl k) (one x y h)
  AreMatched-one pairs x y (inr h) =
      via (λ known. known x h.0.left × known h.0.right y) (λ known. AreMatched known pairs x y) (λ known k. inr (h.0, h.1, k.0, k.1))
      (both (λ known. known x h.0.left) (λ known. known h.0.right y) (λ known wider more. more x h.0.left) (λ known wider more. more h.0.right y) (one x h.0.left h.2) (one h.0.right y h.3))

  -- a pair that is matched
  IsPairMatched-one : (pairs : List Equation) (x y : TermId) → IsPairMatched terms (Entails d terms literals) pairs x y → HaveOne (λ known. IsPairMatched terms known pairs x y)
  IsPairMatched-one pairs x y m =
      via (λ known. AllZip (AreMatched known pairs) m.xs m.ys) (λ known. IsPairMatched terms known pairs x y)
      (λ known all. record { ctor = m.ctor; xs = m.xs; ys = m.ys; left_stands = m.left_stands; right_stands = m.right_stands; arguments = all })
      (zipped (λ known. AreMatched known pairs) (AreMatched-grows pairs) (AreMatched-one pairs) m.xs m.ys m.arguments)

  -- the pairs of a list
  abbrev EachMatched : List Equation → List Equation → Equations → Type 0
  EachMatched pairs some known = (k : ℕ) (p : Equation) → slice_get some k ≡ Some p → IsPairMatched terms known pairs p.left p.right

  EachMatched-one : (pairs some : List Equation) → EachMatched pairs some (Entails d terms literals) → HaveOne (EachMatched pairs some)
  EachMatched-one pairs [] each = none (EachMatched pairs []) (λ k p at. absurd (none-some p at))
  EachMatched-one pairs (q ∷ qs) each =
      via (λ known. IsPairMatched terms known pairs q.left q.right × EachMatched pairs qs known) (EachMatched pairs (q ∷ qs)) cons
      (both (λ known. IsPairMatched terms known pairs q.left q.right) (EachMatched pairs qs)
      (λ known wider more. IsPairMatched-wider d terms known wider more pairs q.left q.right)
      (λ known wider more all k p at. IsPairMatched-wider d terms known wider more pairs p.left p.right (all k p at))
      (IsPairMatched-one pairs q.left q.right (each 0 q refl))
      (EachMatched-one pairs qs (λ k p at. each (suc k) p at)))
    where
      cons : (known : Equations) → IsPairMatched terms known pairs q.left q.right × EachMatched pairs qs known → EachMatched pairs (q ∷ qs) known
      cons known h zero p at = subst (λ (e : Equation). IsPairMatched terms known pairs e.left e.right) (same_Some q p at) h.0
      cons known h (suc k) p at = h.1 k p at

  IsUniqueness-one : (x y : TermId) → IsUniqueness terms (Entails d terms literals) x y → HaveOne (λ known. IsUniqueness terms known x y)
  IsUniqueness-one x y u =
      via (EachMatched u.pairs u.pairs) (λ known. IsUniqueness terms known x y)
      (λ known each. record { pairs = u.pairs; listed = u.listed; matched = λ pair listed. let at = slice_get-from_Contains u.pairs pair listed in each at.0 pair at.1 })
      (EachMatched-one u.pairs u.pairs (λ k p at. u.matched p (Contains-from_slice_get u.pairs k p at)))

  -- each rule takes its equations from one list
  Follows-one : (x y : TermId) → Follows d terms (Entails d terms literals) x y → HaveOne (λ known. Follows d terms known x y)
  Follows-one x y (by_reflexivity r) = none (λ known. Follows d terms known x y) (by_reflexivity r)
  Follows-one x y (by_symmetry r) = via (λ known. known y x) (λ known. Follows d terms known x y) (λ known k. by_symmetry k) (one y x r)
  Follows-one x y (by_transitivity r) =
      via (λ known. known x r.middle × known r.middle y) (λ known. Follows d terms known x y) (λ known k. by_transitivity (record { middle = r.middle; first = k.0; second = k.1 }))
      (both (λ known. known x r.middle) (λ known. known r.middle y) (λ known wider more. more x r.middle) (λ known wider more. more r.middle y) (one x r.middle r.first) (one r.middle y r.second))
  Follows-one x y (by_congruence r) =
      via (λ known. AllZip known (core_children r.left) (core_children r.right)) (λ known. Follows d terms known x y)
      (λ known all. by_congruence (record { left = r.left; right = r.right; left_stands = r.left_stands; right_stands = r.right_stands; head = r.head; arguments = all }))
      (zipped (λ known a b. known a b) (λ a b known wider more. more a b) one (core_children r.left) (core_children r.right) r.arguments)
  Follows-one x y (by_injection r) = via (λ known. known r.left r.right) (λ known. Follows d terms known x y)
      (λ known k. by_injection (record { left = r.left; right = r.right; ctor = r.ctor; xs = r.xs; ys = r.ys; place = r.place; equal = k; left_stands = r.left_stands; right_stands = r.right_stands; left_at = r.left_at; right_at = r.right_at }))
      (one r.left r.right r.equal)
  Follows-one x y (by_selection r) = via (λ known. known r.argument r.con) (λ known. Follows d terms known x y)
      (λ known k. by_selection (record { sel = r.sel; selector = r.selector; argument = r.argument; con = r.con; args = r.args; stands = r.stands; declared = r.declared; equal = k; con_stands = r.con_stands; at = r.at }))
      (one r.argument r.con r.equal)
  Follows-one x y (by_testing r) = via (λ known. known r.argument r.con) (λ known. Follows d terms known x y)
      (λ known k. by_testing (record { tested = r.tested; argument = r.argument; con = r.con; ctor = r.ctor; args = r.args; stands = r.stands; equal = k; con_stands = r.con_stands; answer = r.answer }))
      (one r.argument r.con r.equal)
  Follows-one x y (by_expansion r) = via (λ known. known r.test (truth_term true)) (λ known. Follows d terms known x y)
      (λ known k. by_expansion (record { test = r.test; id = r.id; ctor = r.ctor; args = r.args; declared = r.declared; holds = k; test_stands = r.test_stands; con_stands = r.con_stands; fields = r.fields }))
      (one r.test (truth_term true) r.holds)
  Follows-one x y (by_equation_in r) = via (λ known. known r.left r.right) (λ known. Follows d terms known x y)
      (λ known k. by_equation_in (record { left = r.left; right = r.right; stands = r.stands; equal = k; answer = r.answer }))
      (one r.left r.right r.equal)
  Follows-one x y (by_equation_out r) = via (λ known. known r.term (truth_term true)) (λ known. Follows d terms known x y)
      (λ known k. by_equation_out (record { term = r.term; stands = r.stands; holds = k }))
      (one r.term (truth_term true) r.holds)
  Follows-one x y (by_negation r) = elim r.answer [
    | inl h ↦ via (λ known. known r.argument (truth_term true)) (λ known. Follows d terms known x y)
        (λ known k. by_negation (record { argument = r.argument; stands = r.stands; answer = inl (k, h.1) })) (one r.argument (truth_term true) h.0)
    | inr h ↦ via (λ known. known r.argument (truth_term false)) (λ known. Follows d terms known x y)
        (λ known k. by_negation (record { argument = r.argument; stands = r.stands; answer = inr (k, h.1) })) (one r.argument (truth_term false) h.0)
  ]
  Follows-one x y (by_singleton r) = none (λ known. Follows d terms known x y) (by_singleton r)

  FollowsAtAll-one : (x y : TermId) → FollowsAtAll d terms (Entails d terms literals) x y → HaveOne (λ known. FollowsAtAll d terms known x y)
  FollowsAtAll-one x y (inl f) = via (λ known. Follows d terms known x y) (λ known. FollowsAtAll d terms known x y) (λ known k. inl k) (Follows-one x y f)
  FollowsAtAll-one x y (inr u) = via (λ known. IsUniqueness terms known x y) (λ known. FollowsAtAll d terms known x y) (λ known k. inr k) (IsUniqueness-one x y u)

  -- what follows from entailed equations by a rule is entailed
  pub Entails-follows : (x y : TermId) → x.0 < length terms → y.0 < length terms → FollowsAtAll d terms (Entails d terms literals) x y → Entails d terms literals x y
  Entails-follows x y left right f =
      let all = FollowsAtAll-one x y f in
      Entails-push all.equations (equation x y) all.entailed (left, right) (inr all.stand)

  -- what holds of what literals state, and is closed under the rules, holds of all that is entailed
  pub Entails-least : (related : Equations) → ((x y : TermId) → IsHypothesis literals x y → related x y) → ((x y : TermId) → FollowsAtAll d terms related x y → related x y) → (x y : TermId) → Entails d terms literals x y → related x y
  Entails-least related states closed x y h =
      let at = slice_get-from_Contains h.equations (equation x y) h.stands in
      up_to (suc at.0) at.0 (equation x y) (omega arith) at.1
    where
      up_to : (n : ℕ) → (k : ℕ) (e : Equation) → k < n → slice_get h.equations k ≡ Some e → related e.left e.right
      up_to zero k e below at = absurd (omega arith)
      up_to (suc n) k e below at = elim (h.entailed.each k e at) [
        | inl s ↦ states e.left e.right s
        | inr f ↦ closed e.left e.right (FollowsAtAll-wider d terms (AreAmong (take k h.equations)) related
            (λ a b known. let was = before h.equations k a b known in up_to n was.0 (equation a b) (omega (arith, was.1)) was.2)
            e.left e.right f)
      ]
