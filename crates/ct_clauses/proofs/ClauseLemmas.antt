-- Initial steps and their clauses: each has one clause, and each that a line may have is among them.
use Rattle.std.proofs.Common.{◌≡◌, ℕ, Bool, true, false, nat_eq, List, [], ◌∷◌, ◌++◌, length, map, take, get_or, option_map, Contains, slice_get, Some, refl, sym, ap, subst, ◌∙◌, arith, if◌then◌else◌}
use Rattle.std.specs.List.{AllZip, range_with_len}
use Rattle.std.proofs.lemmas.Bool.Decides.{Decides-eqb}
use Rattle.std.proofs.lemmas.List.Elements.{Contains-append_left, Contains-append_right}
use Rattle.std.proofs.lemmas.Option.{same_Some, slice_get_within, slice_get-map}
use Rattle.ct_lemmas.proofs.Contained.{Contains-first, Contains-map, Contains-map_cases, Contains-rest, slice_get-from_Contains}
use Rattle.ct_sorts.specs.declared.ids.CtorId.{CtorId}
use Rattle.ct_sorts.specs.declared.ids.SortId.{SortId}
use Rattle.ct_sorts.specs.Declarations.{Declarations, Sort, bool_sort}
use Rattle.ct_terms.specs.declared.ids.TermId.{TermId}
use Rattle.ct_terms.specs.declared.ids.Lit.{Lit}
use Rattle.ct_terms.specs.declared.term.Core.{Core}
use Rattle.ct_terms.specs.declared.term.Core.TheVariants as core
use Rattle.ct_terms.specs.Children.{core_children}
use Rattle.ct_terms.specs.Clause.{Clause, opposites}
use Rattle.ct_terms.specs.Literal.{opposite, literal_of}
use Rattle.ct_terms.specs.Terms.{Terms, IsBoolean, Has, AreSingle}
use Rattle.ct_closure.specs.ClosedTable.{AreRising}
use Rattle.ct_log.specs.declared.rules.Gate.{Gate}
use Rattle.ct_log.specs.declared.rules.Gate.TheVariants.{True, False, AndPos, AndNeg, OrPos, OrNeg, Iff1, Iff2, Iff3, Iff4, Ite1, Ite2, Ite3, Ite4, Then, Else}
use Rattle.ct_log.specs.declared.line.Line.{Line}
use Rattle.ct_log.specs.declared.line.Step.{Step}
use Rattle.ct_log.specs.declared.line.Step.TheVariants as step
use Rattle.ct_log.specs.Acceptance.{Justifies, AreAccepted, clauses_of}
use Rattle.ct_log.specs.Gates.{positive, negative, literals_of, IsGateClause, OfEquivalence, OfChoice, IsOtherChoice, IsExhaustion, IsTestOf}
use Rattle.ct_clauses.specs.Initial.{firsts, whole, at_each, choice_gates, all_gates, initial_steps, steps_of, IsInitialStep, IsInitialLine, AreInitialLines, AreSplitTerms}
use Rattle.ct_clauses.proofs.GateLemmas.{Has-same}
use Rattle.ct_clauses.proofs.InputLemmas.{same_term}
use Rattle.ct_clauses.proofs.OrderLemmas.{Once, once_at, range_has}
use Rattle.ct_clauses.proofs.StepLemmas.{all_has, firsts_has, once_initial, initial_are}

-- what stands at one number has one list of children
children_same : (terms : Terms) (a b : Core) (t : ℕ) → Has terms a t → Has terms b t → core_children a ≡ core_children b
children_same terms a b t at_a at_b = ap core_children (Has-same terms a b t at_a at_b)

-- the child at a place, of two terms with one list of children
child : (xs ys : List TermId) (k : ℕ) (d : TermId) → xs ≡ ys → get_or xs k d ≡ get_or ys k d
child xs ys k d e = ap (λ (l : List TermId). get_or l k d) e

one_equivalence : (terms : Terms) (t : TermId) (f : Lit → Lit → Clause) (x y : Clause) → OfEquivalence terms t f x → OfEquivalence terms t f y → x ≡ y
one_equivalence terms t f x y (a, b, has, is) (a', b', has', is') =
    let e = children_same terms (core.Iff a b) (core.Iff a' b') t.0 has has' in
    let ea : a ≡ a' = child (a ∷ (b ∷ [])) (a' ∷ (b' ∷ [])) 0 t e in
    let eb : b ≡ b' = child (a ∷ (b ∷ [])) (a' ∷ (b' ∷ [])) 1 t e in
    is ∙ ap (λ (u : TermId). f (literal_of terms u) (literal_of terms b)) ea ∙ ap (λ (v : TermId). f (literal_of terms a') (literal_of terms v)) eb ∙ sym is'

one_choice : (terms : Terms) (t : TermId) (f : Lit → Lit → Lit → Clause) (x y : Clause) → OfChoice terms t f x → OfChoice terms t f y → x ≡ y
one_choice terms t f x y (c, a, b, has, is) (c', a', b', has', is') =
    let e = children_same terms (core.Ite c a b) (core.Ite c' a' b') t.0 has.0 has'.0 in
    let ec : c ≡ c' = child (c ∷ (a ∷ (b ∷ []))) (c' ∷ (a' ∷ (b' ∷ []))) 0 t e in
    let ea : a ≡ a' = child (c ∷ (a ∷ (b ∷ []))) (c' ∷ (a' ∷ (b' ∷ []))) 1 t e in
    let eb : b ≡ b' = child (c ∷ (a ∷ (b ∷ []))) (c' ∷ (a' ∷ (b' ∷ []))) 2 t e in
    is
    ∙ ap (λ (w : TermId). f (literal_of terms w) (literal_of terms a) (literal_of terms b)) ec
    ∙ ap (λ (u : TermId). f (literal_of terms c') (literal_of terms u) (literal_of terms b)) ea
    ∙ ap (λ (v : TermId). f (literal_of terms c') (literal_of terms a') (literal_of terms v)) eb
    ∙ sym is'

-- one term has one number
one_number : (terms : Terms) → AreSingle terms → (c c' : Core) (e e' : TermId) → c ≡ c' → Has terms c e.0 → Has terms c' e'.0 → e ≡ e'
one_number terms single c c' e e' same has has' = same_term e e' (single e.0 e'.0 c' (subst (λ (k : Core). Has terms k e.0) same has) has')

-- a gate of a term at a place has one clause
pub one_gate_clause : (terms : Terms) → AreSingle terms → (gate : Gate) (t : TermId) (k : ℕ) (x y : Clause) → IsGateClause terms gate t k x → IsGateClause terms gate t k y → x ≡ y
one_gate_clause terms single True t k x y h l = h.2 ∙ sym l.2
one_gate_clause terms single False t k x y h l = h.2 ∙ sym l.2
one_gate_clause terms single AndPos t k x y (args, a, has, at, is) (args', a', has', at', is') =
    let e = children_same terms (core.And args) (core.And args') t.0 has has' in
    let same : a ≡ a' = same_Some a a' (sym at ∙ ap (λ (l : List TermId). slice_get l k) e ∙ at') in
    is ∙ ap (λ (u : TermId). negative t ∷ (literal_of terms u ∷ [])) same ∙ sym is'
one_gate_clause terms single AndNeg t k x y (args, has, zero_at, is) (args', has', zero_at', is') =
    let e = children_same terms (core.And args) (core.And args') t.0 has has' in
    is ∙ ap (λ (us : List TermId). positive t ∷ opposites (literals_of terms us)) e ∙ sym is'
one_gate_clause terms single OrPos t k x y (args, has, zero_at, is) (args', has', zero_at', is') =
    let e = children_same terms (core.Or args) (core.Or args') t.0 has has' in
    is ∙ ap (λ (us : List TermId). negative t ∷ literals_of terms us) e ∙ sym is'
one_gate_clause terms single OrNeg t k x y (args, a, has, at, is) (args', a', has', at', is') =
    let e = children_same terms (core.Or args) (core.Or args') t.0 has has' in
    let same : a ≡ a' = same_Some a a' (sym at ∙ ap (λ (l : List TermId). slice_get l k) e ∙ at') in
    is ∙ ap (λ (u : TermId). positive t ∷ (opposite (literal_of terms u) ∷ [])) same ∙ sym is'
one_gate_clause terms single Iff1 t k x y h l = one_equivalence terms t (λ a b. negative t ∷ (opposite a ∷ (b ∷ []))) x y h.1 l.1
one_gate_clause terms single Iff2 t k x y h l = one_equivalence terms t (λ a b. negative t ∷ (a ∷ (opposite b ∷ []))) x y h.1 l.1
one_gate_clause terms single Iff3 t k x y h l = one_equivalence terms t (λ a b. positive t ∷ (a ∷ (b ∷ []))) x y h.1 l.1
one_gate_clause terms single Iff4 t k x y h l = one_equivalence terms t (λ a b. positive t ∷ (opposite a ∷ (opposite b ∷ []))) x y h.1 l.1
one_gate_clause terms single Ite1 t k x y h l = one_choice terms t (λ c a b. negative t ∷ (opposite c ∷ (a ∷ []))) x y h.1 l.1
one_gate_clause terms single Ite2 t k x y h l = one_choice terms t (λ c a b. negative t ∷ (c ∷ (b ∷ []))) x y h.1 l.1
one_gate_clause terms single Ite3 t k x y h l = one_choice terms t (λ c a b. positive t ∷ (opposite c ∷ (opposite a ∷ []))) x y h.1 l.1
one_gate_clause terms single Ite4 t k x y h l = one_choice terms t (λ c a b. positive t ∷ (c ∷ (opposite b ∷ []))) x y h.1 l.1
one_gate_clause terms single Then t k x y (c, a, b, q, choice, eq, zero_at, is) (c', a', b', q', choice', eq', zero_at', is') =
    let e = children_same terms (core.Ite c a b) (core.Ite c' a' b') t.0 choice.0 choice'.0 in
    let ec : c ≡ c' = child (c ∷ (a ∷ (b ∷ []))) (c' ∷ (a' ∷ (b' ∷ []))) 0 t e in
    let ea : a ≡ a' = child (c ∷ (a ∷ (b ∷ []))) (c' ∷ (a' ∷ (b' ∷ []))) 1 t e in
    let same : q ≡ q' = one_number terms single (core.Eq t a) (core.Eq t a') q q' (ap (λ (u : TermId). core.Eq t u) ea) eq eq' in
    is ∙ ap (λ (w : TermId). opposite (literal_of terms w) ∷ (positive q ∷ [])) ec ∙ ap (λ (p : TermId). opposite (literal_of terms c') ∷ (positive p ∷ [])) same ∙ sym is'
one_gate_clause terms single Else t k x y (c, a, b, q, choice, eq, zero_at, is) (c', a', b', q', choice', eq', zero_at', is') =
    let e = children_same terms (core.Ite c a b) (core.Ite c' a' b') t.0 choice.0 choice'.0 in
    let ec : c ≡ c' = child (c ∷ (a ∷ (b ∷ []))) (c' ∷ (a' ∷ (b' ∷ []))) 0 t e in
    let eb : b ≡ b' = child (c ∷ (a ∷ (b ∷ []))) (c' ∷ (a' ∷ (b' ∷ []))) 2 t e in
    let same : q ≡ q' = one_number terms single (core.Eq t b) (core.Eq t b') q q' (ap (λ (u : TermId). core.Eq t u) eb) eq eq' in
    is ∙ ap (λ (w : TermId). literal_of terms w ∷ (positive q ∷ [])) ec ∙ ap (λ (p : TermId). literal_of terms c' ∷ (positive p ∷ [])) same ∙ sym is'

-- the tests of constructors on a term are one clause
one_tests : (terms : Terms) → AreSingle terms → (t : TermId) (ctors : List CtorId) (x y : Clause) → AllZip (IsTestOf terms t) x ctors → AllZip (IsTestOf terms t) y ctors → x ≡ y
one_tests terms single t [] [] [] h k = refl
one_tests terms single t [] [] (m ∷ y) h k = absurd k
one_tests terms single t [] (l ∷ x) y h k = absurd h
one_tests terms single t (c ∷ ctors) [] y h k = absurd h
one_tests terms single t (c ∷ ctors) (l ∷ x) [] h k = absurd k
one_tests terms single t (c ∷ ctors) (l ∷ x) (m ∷ y) h k =
    let term : l.term ≡ m.term = one_number terms single (core.Test c t) (core.Test c t) l.term m.term refl h.0.1 k.0.1 in
    let sign : l.positive ≡ m.positive = h.0.0 ∙ sym k.0.0 in
    let of : TermId → Bool → Lit = λ u b. record { term = u; positive = b } in
    let same : l ≡ m = ap (λ (u : TermId). of u l.positive) term ∙ ap (λ (b : Bool). of m.term b) sign in
    ap (λ (j : Lit). j ∷ x) same ∙ ap (λ (ls : Clause). m ∷ ls) (one_tests terms single t ctors x y h.1 k.1)

-- so is the exhaustion of a term
one_exhaustion : (d : Declarations) (terms : Terms) → AreSingle terms → (t : TermId) (x y : Clause) → IsExhaustion d terms t x → IsExhaustion d terms t y → x ≡ y
one_exhaustion d terms single t x y h k =
    let id : h.id ≡ k.id = ap (λ (e : Core × SortId). e.1) (same_Some (h.sorted.0, h.id) (k.sorted.0, k.id) (sym h.sorted.1 ∙ k.sorted.1)) in
    let sort : h.sort ≡ k.sort = same_Some h.sort k.sort (sym h.declared ∙ ap (λ (s : SortId). slice_get d.sorts s.0) id ∙ k.declared) in
    one_tests terms single t k.sort.ctors x y (subst (λ (s : Sort). AllZip (IsTestOf terms t) x s.ctors) sort h.tests) k.tests

-- an initial step gives one clause, whatever lines are before it
pub one_clause : (d : Declarations) (terms : Terms) (asserts : List TermId) (e f : List Clause) → AreSingle terms → (s : Step) (x y : Clause) → IsInitialStep d terms s → Justifies d terms asserts e s x → Justifies d terms asserts f s y → x ≡ y
one_clause d terms asserts e f single (step.Input t) x y i h k = h.1 ∙ sym k.1
one_clause d terms asserts e f single (step.Gate gate t place) x y i h k = one_gate_clause terms single gate t place x y h k
one_clause d terms asserts e f single (step.Exhaust t) x y i h k = one_exhaustion d terms single t x y h k
one_clause d terms asserts e f single (step.Theory steps close) x y i h k = absurd i
one_clause d terms asserts e f single (step.Learn hints) x y i h k = absurd i

-- the clause is given whatever lines are before it
pub anywhere : (d : Declarations) (terms : Terms) (asserts : List TermId) (e f : List Clause) (s : Step) (x : Clause) → IsInitialStep d terms s → Justifies d terms asserts e s x → Justifies d terms asserts f s x
anywhere d terms asserts e f (step.Input t) x i h = h
anywhere d terms asserts e f (step.Gate gate t place) x i h = h
anywhere d terms asserts e f (step.Exhaust t) x i h = h
anywhere d terms asserts e f (step.Theory steps close) x i h = absurd i
anywhere d terms asserts e f (step.Learn hints) x i h = absurd i

-- a gate at a place of the arguments is among those of all places
each_has : (gate : Gate) (t : TermId) (args : List TermId) (k : ℕ) (a : TermId) → slice_get args k ≡ Some a → Contains (at_each gate t args) (step.Gate gate t k)
each_has gate t args k a at =
    let within = slice_get_within args k a at in
    Contains-map (λ (place : ℕ). step.Gate gate t place) (range_with_len 0 (length args)) k (range_has 0 (length args) k (omega arith) (omega (arith, within)))

-- the gates of a choice, by its sort
choice_boolean : (terms : Terms) (t c a b : TermId) (has : Has terms (core.Ite c a b) t.0) → IsBoolean terms t → choice_gates t has.0 ≡ whole Ite1 t ∷ (whole Ite2 t ∷ (whole Ite3 t ∷ (whole Ite4 t ∷ [])))
choice_boolean terms t c a b has boolean =
    let same : has.0 ≡ bool_sort = ap (λ (e : Core × SortId). e.1) (same_Some (core.Ite c a b, has.0) (boolean.0, bool_sort) (sym has.1 ∙ boolean.1)) in
    ap (choice_gates t) same

choice_other : (terms : Terms) (t c a b : TermId) (has : Has terms (core.Ite c a b) t.0) → (IsBoolean terms t → ⊥) → choice_gates t has.0 ≡ whole Then t ∷ (whole Else t ∷ [])
choice_other terms t c a b has other = by (nat_eq has.0.0 0) refl
  where
    by : (r : Bool) → nat_eq has.0.0 0 ≡ r → (if r then whole Ite1 t ∷ (whole Ite2 t ∷ (whole Ite3 t ∷ (whole Ite4 t ∷ []))) else whole Then t ∷ (whole Else t ∷ [])) ≡ whole Then t ∷ (whole Else t ∷ [])
    by true told =
        let of : ℕ → SortId = λ n. record { 0 = n } in
        let same : has.0 ≡ bool_sort = ap of ((Decides-eqb has.0.0 0).0 told) in
        absurd (other (core.Ite c a b, has.1 ∙ ap (λ (s : SortId). Some (core.Ite c a b, s)) same))
    by false told = refl

boolean_has : (terms : Terms) (t c a b : TermId) (s : Step) → Has terms (core.Ite c a b) t.0 → IsBoolean terms t → Contains (whole Ite1 t ∷ (whole Ite2 t ∷ (whole Ite3 t ∷ (whole Ite4 t ∷ [])))) s → Contains (all_gates terms) s
boolean_has terms t c a b s has boolean h =
    all_has terms t (core.Ite c a b) has.0 s has.1 (subst (λ (l : List Step). Contains l s) (sym (choice_boolean terms t c a b has boolean)) h)

other_has : (terms : Terms) (t c a b : TermId) (s : Step) → IsOtherChoice terms t c a b → Contains (whole Then t ∷ (whole Else t ∷ [])) s → Contains (all_gates terms) s
other_has terms t c a b s choice h =
    all_has terms t (core.Ite c a b) choice.0.0 s choice.0.1 (subst (λ (l : List Step). Contains l s) (sym (choice_other terms t c a b choice.0 choice.1)) h)

-- the first four of a list are in it
module _ {X : Type 0} (a b c d : X) where
  abbrev four : List X
  four = a ∷ (b ∷ (c ∷ (d ∷ [])))

  has_first : Contains four a
  has_first = (0, omega arith, refl)

  has_second : Contains four b
  has_second = (1, omega arith, refl)

  has_third : Contains four c
  has_third = (2, omega arith, refl)

  has_fourth : Contains four d
  has_fourth = (3, omega arith, refl)

-- the same step, with the place 0
at_zero : (terms : Terms) (gate : Gate) (t : TermId) (k : ℕ) → k ≡ 0 → Contains (all_gates terms) (whole gate t) → Contains (all_gates terms) (step.Gate gate t k)
at_zero terms gate t k e h = subst (λ (n : ℕ). Contains (all_gates terms) (step.Gate gate t n)) (sym e) h

-- a gate that a line may have is among all gates
pub gate_has : (terms : Terms) (gate : Gate) (t : TermId) (k : ℕ) (x : Clause) → IsGateClause terms gate t k x → Contains (all_gates terms) (step.Gate gate t k)
gate_has terms True t k x (e, z, is) =
    at_zero terms True t k z (subst (λ (u : TermId). Contains (all_gates terms) (whole True u)) (sym e) (0, omega arith, refl))
gate_has terms False t k x (e, z, is) =
    at_zero terms False t k z (subst (λ (u : TermId). Contains (all_gates terms) (whole False u)) (sym e) (1, omega arith, refl))
gate_has terms AndPos t k x (args, a, has, at, is) =
    all_has terms t (core.And args) has.0 (step.Gate AndPos t k) has.1 (Contains-append_left (at_each AndPos t args) (whole AndNeg t ∷ []) (step.Gate AndPos t k) (each_has AndPos t args k a at))
gate_has terms AndNeg t k x (args, has, z, is) =
    at_zero terms AndNeg t k z (all_has terms t (core.And args) has.0 (whole AndNeg t) has.1 (Contains-append_right (at_each AndPos t args) (whole AndNeg t ∷ []) (whole AndNeg t) (Contains-first (whole AndNeg t) [])))
gate_has terms OrPos t k x (args, has, z, is) =
    at_zero terms OrPos t k z (all_has terms t (core.Or args) has.0 (whole OrPos t) has.1 (Contains-first (whole OrPos t) (at_each OrNeg t args)))
gate_has terms OrNeg t k x (args, a, has, at, is) =
    all_has terms t (core.Or args) has.0 (step.Gate OrNeg t k) has.1 (Contains-rest (whole OrPos t) (at_each OrNeg t args) (step.Gate OrNeg t k) (each_has OrNeg t args k a at))
gate_has terms Iff1 t k x (z, (a, b, has, is)) = at_zero terms Iff1 t k z (all_has terms t (core.Iff a b) has.0 (whole Iff1 t) has.1 (has_first (whole Iff1 t) (whole Iff2 t) (whole Iff3 t) (whole Iff4 t)))
gate_has terms Iff2 t k x (z, (a, b, has, is)) = at_zero terms Iff2 t k z (all_has terms t (core.Iff a b) has.0 (whole Iff2 t) has.1 (has_second (whole Iff1 t) (whole Iff2 t) (whole Iff3 t) (whole Iff4 t)))
gate_has terms Iff3 t k x (z, (a, b, has, is)) = at_zero terms Iff3 t k z (all_has terms t (core.Iff a b) has.0 (whole Iff3 t) has.1 (has_third (whole Iff1 t) (whole Iff2 t) (whole Iff3 t) (whole Iff4 t)))
gate_has terms Iff4 t k x (z, (a, b, has, is)) = at_zero terms Iff4 t k z (all_has terms t (core.Iff a b) has.0 (whole Iff4 t) has.1 (has_fourth (whole Iff1 t) (whole Iff2 t) (whole Iff3 t) (whole Iff4 t)))
gate_has terms Ite1 t k x (z, (c, a, b, has, is)) = at_zero terms Ite1 t k z (boolean_has terms t c a b (whole Ite1 t) has.0 has.1 (has_first (whole Ite1 t) (whole Ite2 t) (whole Ite3 t) (whole Ite4 t)))
gate_has terms Ite2 t k x (z, (c, a, b, has, is)) = at_zero terms Ite2 t k z (boolean_has terms t c a b (whole Ite2 t) has.0 has.1 (has_second (whole Ite1 t) (whole Ite2 t) (whole Ite3 t) (whole Ite4 t)))
gate_has terms Ite3 t k x (z, (c, a, b, has, is)) = at_zero terms Ite3 t k z (boolean_has terms t c a b (whole Ite3 t) has.0 has.1 (has_third (whole Ite1 t) (whole Ite2 t) (whole Ite3 t) (whole Ite4 t)))
gate_has terms Ite4 t k x (z, (c, a, b, has, is)) = at_zero terms Ite4 t k z (boolean_has terms t c a b (whole Ite4 t) has.0 has.1 (has_fourth (whole Ite1 t) (whole Ite2 t) (whole Ite3 t) (whole Ite4 t)))
gate_has terms Then t k x (c, a, b, q, choice, eq, z, is) = at_zero terms Then t k z (other_has terms t c a b (whole Then t) choice (Contains-first (whole Then t) (whole Else t ∷ [])))
gate_has terms Else t k x (c, a, b, q, choice, eq, z, is) = at_zero terms Else t k z (other_has terms t c a b (whole Else t) choice (Contains-rest (whole Then t) (whole Else t ∷ []) (whole Else t) (Contains-first (whole Else t) [])))

-- a step that an initial line may have is among the initial steps
step_has : (d : Declarations) (terms : Terms) (asserts split : List TermId) → AreSplitTerms d terms split → (s : Step) (x : Clause) → IsInitialStep d terms s → Justifies d terms asserts [] s x → Contains (initial_steps terms asserts split) s
step_has d terms asserts split exact (step.Input t) x i h =
    Contains-append_left (map step.Input (firsts asserts)) (all_gates terms ++ map step.Exhaust split) (step.Input t) (Contains-map step.Input (firsts asserts) t (firsts_has asserts t h.0))
step_has d terms asserts split exact (step.Gate gate t place) x i h =
    Contains-append_right (map step.Input (firsts asserts)) (all_gates terms ++ map step.Exhaust split) (step.Gate gate t place)
    (Contains-append_left (all_gates terms) (map step.Exhaust split) (step.Gate gate t place) (gate_has terms gate t place x h))
step_has d terms asserts split exact (step.Exhaust t) x i h =
    Contains-append_right (map step.Input (firsts asserts)) (all_gates terms ++ map step.Exhaust split) (step.Exhaust t)
    (Contains-append_right (all_gates terms) (map step.Exhaust split) (step.Exhaust t) (Contains-map step.Exhaust split t ((exact t).1 i)))
step_has d terms asserts split exact (step.Theory steps close) x i h = absurd i
step_has d terms asserts split exact (step.Learn hints) x i h = absurd i

-- accepted lines with the initial steps are the initial lines
pub initial_all : (d : Declarations) (terms : Terms) (asserts split : List TermId) (lines : List Line)
    → AreSingle terms
    → AreSplitTerms d terms split
    → AreRising split
    → AreAccepted d terms asserts lines
    → steps_of lines ≡ initial_steps terms asserts split
    → AreInitialLines d terms asserts lines
initial_all d terms asserts split lines single exact rising accepted steps = record {
  exact = λ line. (to line, from line);
  once = λ i j line a b. once_at (steps_of lines) (subst (λ (ss : List Step). Once ss) (sym steps) (once_initial terms asserts split rising)) i j line.step (at i line a) (at j line b);
}
  where
    at : (i : ℕ) (line : Line) → slice_get lines i ≡ Some line → slice_get (steps_of lines) i ≡ Some line.step
    at i line a = slice_get-map (λ (l : Line). l.step) lines i ∙ ap (option_map (λ (l : Line). l.step)) a

    inside : (line : Line) → Contains lines line → IsInitialStep d terms line.step
    inside line h = initial_are d terms asserts split exact line.step (subst (λ (ss : List Step). Contains ss line.step) steps (Contains-map (λ (l : Line). l.step) lines line h))

    to : (line : Line) → Contains lines line → IsInitialLine d terms asserts line
    to line h =
        let found = slice_get-from_Contains lines line h in
        record {
          initial = inside line h;
          justified = anywhere d terms asserts (clauses_of (take found.0 lines)) [] line.step line.clause (inside line h) (accepted found.0 line found.1).justified;
        }

    from : (line : Line) → IsInitialLine d terms asserts line → Contains lines line
    from line h =
        let among : Contains (steps_of lines) line.step = subst (λ (ss : List Step). Contains ss line.step) (sym steps) (step_has d terms asserts split exact line.step line.clause h.initial h.justified) in
        let found = Contains-map_cases (λ (l : Line). l.step) lines line.step among in
        let other = to found.0 found.1 in
        let clause : found.0.clause ≡ line.clause = one_clause d terms asserts [] [] single line.step found.0.clause line.clause h.initial (subst (λ (s : Step). Justifies d terms asserts [] s found.0.clause) found.2 other.justified) h.justified in
        let of : Clause → Step → Line = λ x s. record { clause = x; step = s } in
        let same : found.0 ≡ line = ap (λ (x : Clause). of x found.0.step) clause ∙ ap (λ (s : Step). of line.clause s) found.2 in
        subst (Contains lines) same found.1
