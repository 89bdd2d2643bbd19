-- The initial steps: which they are, and that each stands once.
use Rattle.std.proofs.Common.{◌≡◌, ℕ, zero, suc, ◌+◌, ◌<◌, ◌≤◌, inl, inr, Bool, true, false, not, nat_eq, List, [], ◌∷◌, ◌++◌, length, map, take, get_or, filter, Contains, slice_get, Some, refl, sym, ap, subst, ◌∙◌, append-nil, append_assoc, arith, if◌then◌else◌}
use Rattle.std.specs.List.{range_with_len, AllByRecursion}
use Rattle.std.proofs.lemmas.List.Elements.{Contains-append_left, Contains-append_right, Contains-append_cases, All-contains, All-from_recursion}
use Rattle.std.proofs.lemmas.List.{take_more}
use Rattle.std.proofs.lemmas.Option.{none-some, same_Some}
use Rattle.ct_lemmas.proofs.Contained.{Contains-cons, Contains-first, Contains-map_cases, Contains-none, Contains-rest}
use Rattle.ct_lemmas.proofs.Numbers.{same_or_other}
use Rattle.ct_sorts.specs.declared.ids.SortId.{SortId}
use Rattle.ct_sorts.specs.Declarations.{Declarations}
use Rattle.ct_terms.specs.declared.ids.TermId.{TermId}
use Rattle.ct_terms.specs.declared.term.Core.{Core}
use Rattle.ct_terms.specs.declared.term.Core.TheVariants as core
use Rattle.ct_terms.specs.Terms.{Terms}
use Rattle.ct_rules.specs.Rules.{truth_term}
use Rattle.ct_closure.specs.ClosedTable.{AreRising}
use Rattle.ct_log.specs.declared.rules.Gate.{Gate}
use Rattle.ct_log.specs.declared.rules.Gate.TheVariants.{True, False, AndPos, AndNeg, OrPos, OrNeg, Iff1, Iff2, Iff3, Iff4, Ite1, Ite2, Ite3, Ite4, Then, Else}
use Rattle.ct_log.specs.declared.line.Step.{Step}
use Rattle.ct_log.specs.declared.line.Step.TheVariants as step
use Rattle.ct_clauses.specs.Initial.{firsts, whole, at_each, choice_gates, gates_of, gates_from, all_gates, initial_steps, IsInitialStep, AreSplitTerms}
use Rattle.ct_clauses.proofs.InputLemmas.{same_term, differs, not_differs}
use Rattle.ct_clauses.proofs.OrderLemmas.{Once, once_append, once_map, once_filter, once_rising, once_range, once_codes, Contains-filter, Contains-from_filter}

-- a number for each gate, in the order of the rules, and past them for the other steps
abbrev pub gate_code : Gate → ℕ
gate_code True = 0
gate_code False = 1
gate_code AndPos = 2
gate_code AndNeg = 3
gate_code OrPos = 4
gate_code OrNeg = 5
gate_code Iff1 = 6
gate_code Iff2 = 7
gate_code Iff3 = 8
gate_code Iff4 = 9
gate_code Ite1 = 10
gate_code Ite2 = 11
gate_code Ite3 = 12
gate_code Ite4 = 13
gate_code Then = 14
gate_code Else = 15

abbrev pub step_code : Step → ℕ
step_code (step.Gate gate t place) = gate_code gate
step_code (step.Input t) = 16
step_code (step.Exhaust t) = 17
step_code (step.Theory steps close) = 18
step_code (step.Learn hints) = 19

-- the number of the step's term, and its place
abbrev pub term_of : Step → ℕ
term_of (step.Gate gate t place) = t.0
term_of (step.Input t) = t.0
term_of (step.Exhaust t) = t.0
term_of (step.Theory steps close) = 0
term_of (step.Learn hints) = 0

abbrev pub place_of : Step → ℕ
place_of (step.Gate gate t place) = place
place_of (step.Input t) = 0
place_of (step.Exhaust t) = 0
place_of (step.Theory steps close) = 0
place_of (step.Learn hints) = 0

-- the step is a gate of a term from this number on, and none of the two that name no term
pub record IsGateFrom (n : ℕ) (s : Step) : Type 0 where
  pub term : n ≤ term_of s
  pub low : 2 ≤ step_code s
  pub high : step_code s ≤ 15

-- the step is such a gate of the term with this number
pub record IsGateAt (n : ℕ) (s : Step) : Type 0 where
  pub term : term_of s ≡ n
  pub low : 2 ≤ step_code s
  pub high : step_code s ≤ 15

gate_at : (gate : Gate) (t : TermId) (place : ℕ) → 2 ≤ gate_code gate → gate_code gate ≤ 15 → IsGateAt t.0 (step.Gate gate t place)
gate_at gate t place low high = record { term = refl; low = low; high = high }

among_each : (n : ℕ) (s : Step) (xs : List Step) → AllByRecursion (IsGateAt n) xs → Contains xs s → IsGateAt n s
among_each n s xs all h = All-contains (IsGateAt n) xs s (All-from_recursion (IsGateAt n) xs all) h

at_each_are : (gate : Gate) (t : TermId) (args : List TermId) (s : Step) → Contains (at_each gate t args) s → (place : ℕ) × (step.Gate gate t place ≡ s)
at_each_are gate t args s h = let from = Contains-map_cases (λ (place : ℕ). step.Gate gate t place) (range_with_len 0 (length args)) s h in (from.0, from.2)

choice_are : (t : TermId) (sort : SortId) (s : Step) → Contains (choice_gates t sort) s → IsGateAt t.0 s
choice_are t sort s = by (nat_eq sort.0 0)
  where
    by : (b : Bool) → Contains (if b then whole Ite1 t ∷ (whole Ite2 t ∷ (whole Ite3 t ∷ (whole Ite4 t ∷ []))) else whole Then t ∷ (whole Else t ∷ [])) s → IsGateAt t.0 s
    by true h = among_each t.0 s (whole Ite1 t ∷ (whole Ite2 t ∷ (whole Ite3 t ∷ (whole Ite4 t ∷ []))))
        (gate_at Ite1 t 0 (omega arith) (omega arith), (gate_at Ite2 t 0 (omega arith) (omega arith), (gate_at Ite3 t 0 (omega arith) (omega arith), (gate_at Ite4 t 0 (omega arith) (omega arith), tt)))) h
    by false h = among_each t.0 s (whole Then t ∷ (whole Else t ∷ [])) (gate_at Then t 0 (omega arith) (omega arith), (gate_at Else t 0 (omega arith) (omega arith), tt)) h

-- the gates of a term are its gates
gates_are : (t : TermId) (c : Core) (sort : SortId) (s : Step) → Contains (gates_of t c sort) s → IsGateAt t.0 s
gates_are t (core.And args) sort s h =
    elim (Contains-append_cases (at_each AndPos t args) (whole AndNeg t ∷ []) s h) [
      | inl k ↦ let at = at_each_are AndPos t args s k in subst (IsGateAt t.0) at.1 (gate_at AndPos t at.0 (omega arith) (omega arith))
      | inr k ↦ among_each t.0 s (whole AndNeg t ∷ []) (gate_at AndNeg t 0 (omega arith) (omega arith), tt) k
    ]
gates_are t (core.Or args) sort s h =
    elim (Contains-cons (whole OrPos t) (at_each OrNeg t args) s h) [
      | inl e ↦ subst (IsGateAt t.0) e (gate_at OrPos t 0 (omega arith) (omega arith))
      | inr k ↦ let at = at_each_are OrNeg t args s k in subst (IsGateAt t.0) at.1 (gate_at OrNeg t at.0 (omega arith) (omega arith))
    ]
gates_are t (core.Iff a b) sort s h =
    among_each t.0 s (gates_of t (core.Iff a b) sort)
    (gate_at Iff1 t 0 (omega arith) (omega arith), (gate_at Iff2 t 0 (omega arith) (omega arith), (gate_at Iff3 t 0 (omega arith) (omega arith), (gate_at Iff4 t 0 (omega arith) (omega arith), tt)))) h
gates_are t (core.Ite c a b) sort s h = choice_are t sort s h
gates_are t (core.Con c args) sort s h = absurd (Contains-none s h)
gates_are t (core.Sel c a) sort s h = absurd (Contains-none s h)
gates_are t (core.Test c a) sort s h = absurd (Contains-none s h)
gates_are t (core.Apply f args) sort s h = absurd (Contains-none s h)
gates_are t (core.Eq a b) sort s h = absurd (Contains-none s h)
gates_are t (core.Not a) sort s h = absurd (Contains-none s h)

-- and those of terms from a number on
from_are : (n : ℕ) (terms : Terms) (s : Step) → Contains (gates_from n terms) s → IsGateFrom n s
from_are n [] s h = absurd (Contains-none s h)
from_are n (e ∷ terms) s h =
    elim (Contains-append_cases (gates_of (record { 0 = n }) e.0 e.1) (gates_from (suc n) terms) s h) [
      | inl k ↦ let at = gates_are (record { 0 = n }) e.0 e.1 s k in let same = at.term in record { term = omega (arith, same); low = at.low; high = at.high }
      | inr k ↦ let from = from_are (suc n) terms s k in let less = from.term in record { term = omega (arith, less); low = from.low; high = from.high }
    ]

-- the gates of a term stand in the list of all
from_has : (n : ℕ) (terms : Terms) (i : ℕ) (c : Core) (sort : SortId) (s : Step) → slice_get terms i ≡ Some (c, sort) → Contains (gates_of (record { 0 = n + i }) c sort) s → Contains (gates_from n terms) s
from_has n [] i c sort s at h = absurd (none-some (c, sort) at)
from_has n (e ∷ terms) zero c sort s at h =
    let same : e ≡ (c, sort) = same_Some e (c, sort) at in
    let number : n + 0 ≡ n = omega arith in
    Contains-append_left (gates_of (record { 0 = n }) e.0 e.1) (gates_from (suc n) terms) s
    (subst (λ (f : Core × SortId). Contains (gates_of (record { 0 = n }) f.0 f.1) s) (sym same) (subst (λ (m : ℕ). Contains (gates_of (record { 0 = m }) c sort) s) number h))
from_has n (e ∷ terms) (suc i) c sort s at h =
    let number : n + suc i ≡ suc n + i = omega arith in
    Contains-append_right (gates_of (record { 0 = n }) e.0 e.1) (gates_from (suc n) terms) s
    (from_has (suc n) terms i c sort s at (subst (λ (m : ℕ). Contains (gates_of (record { 0 = m }) c sort) s) number h))

pub all_has : (terms : Terms) (t : TermId) (c : Core) (sort : SortId) (s : Step) → slice_get terms t.0 ≡ Some (c, sort) → Contains (gates_of t c sort) s → Contains (all_gates terms) s
all_has terms t c sort s at h =
    let number : t.0 ≡ 0 + t.0 = omega arith in
    let more = whole False (truth_term true) ∷ gates_from 0 terms in
    Contains-rest (whole True (truth_term true)) more s
    (Contains-rest (whole False (truth_term true)) (gates_from 0 terms) s
    (from_has 0 terms t.0 c sort s at (subst (λ (m : ℕ). Contains (gates_of (record { 0 = m }) c sort) s) number h)))

-- each gate of a term stands once
once_each : (gate : Gate) (t : TermId) (args : List TermId) → Once (at_each gate t args)
once_each gate t args = once_map (λ (place : ℕ). step.Gate gate t place) (λ x y e. ap place_of e) (range_with_len 0 (length args)) (once_range 0 (length args))

once_choice : (t : TermId) (sort : SortId) → Once (choice_gates t sort)
once_choice t sort = by (nat_eq sort.0 0)
  where
    by : (b : Bool) → Once (if b then whole Ite1 t ∷ (whole Ite2 t ∷ (whole Ite3 t ∷ (whole Ite4 t ∷ []))) else whole Then t ∷ (whole Else t ∷ []))
    by true =
        let one : 10 < 11 = omega arith in
        let two : 11 < 12 = omega arith in
        let three : 12 < 13 = omega arith in
        once_codes step_code (whole Ite1 t ∷ (whole Ite2 t ∷ (whole Ite3 t ∷ (whole Ite4 t ∷ [])))) (one, (two, (three, tt)))
    by false = let one : 14 < 15 = omega arith in once_codes step_code (whole Then t ∷ (whole Else t ∷ [])) (one, tt)

once_gates : (t : TermId) (c : Core) (sort : SortId) → Once (gates_of t c sort)
once_gates t (core.And args) sort =
    once_append (at_each AndPos t args) (whole AndNeg t ∷ []) (once_each AndPos t args) ((λ h. Contains-none (whole AndNeg t) h), tt)
    (λ s h k.
    let at = at_each_are AndPos t args s h in
    elim (Contains-cons (whole AndNeg t) [] s k) [
      | inl e ↦ let clash : 2 ≡ 3 = ap step_code (at.1 ∙ sym e) in absurd (omega (arith, clash))
      | inr none ↦ Contains-none s none
    ])
once_gates t (core.Or args) sort = (
  λ h. let at = at_each_are OrNeg t args (whole OrPos t) h in let clash : 5 ≡ 4 = ap step_code at.1 in absurd (omega (arith, clash)),
  once_each OrNeg t args,
)
once_gates t (core.Iff a b) sort =
    let one : 6 < 7 = omega arith in
    let two : 7 < 8 = omega arith in
    let three : 8 < 9 = omega arith in
    once_codes step_code (whole Iff1 t ∷ (whole Iff2 t ∷ (whole Iff3 t ∷ (whole Iff4 t ∷ [])))) (one, (two, (three, tt)))
once_gates t (core.Ite c a b) sort = once_choice t sort
once_gates t (core.Con c args) sort = tt
once_gates t (core.Sel c a) sort = tt
once_gates t (core.Test c a) sort = tt
once_gates t (core.Apply f args) sort = tt
once_gates t (core.Eq a b) sort = tt
once_gates t (core.Not a) sort = tt

once_from : (n : ℕ) (terms : Terms) → Once (gates_from n terms)
once_from n [] = tt
once_from n (e ∷ terms) =
    once_append (gates_of (record { 0 = n }) e.0 e.1) (gates_from (suc n) terms) (once_gates (record { 0 = n }) e.0 e.1) (once_from (suc n) terms)
    (λ s h k.
    let here = (gates_are (record { 0 = n }) e.0 e.1 s h).term in
    let later = (from_are (suc n) terms s k).term in
    absurd (omega (arith, here, later)))

once_all : (terms : Terms) → Once (all_gates terms)
once_all terms = (
  λ h. elim (Contains-cons (whole False (truth_term true)) (gates_from 0 terms) (whole True (truth_term true)) h) [
    | inl e ↦ let clash : 1 ≡ 0 = ap step_code e in absurd (omega (arith, clash))
    | inr k ↦ let low : 2 ≤ 0 = (from_are 0 terms (whole True (truth_term true)) k).low in absurd (omega (arith, low))
  ],
  (λ k. let low : 2 ≤ 1 = (from_are 0 terms (whole False (truth_term true)) k).low in absurd (omega (arith, low)), once_from 0 terms),
)

-- all gates are gates
all_are : (terms : Terms) (s : Step) → Contains (all_gates terms) s → step_code s ≤ 15
all_are terms s h =
    elim (Contains-cons (whole True (truth_term true)) (whole False (truth_term true) ∷ gates_from 0 terms) s h) [
      | inl e ↦ let low : 0 ≤ 15 = omega arith in subst (λ (r : Step). step_code r ≤ 15) e low
      | inr more ↦
          elim (Contains-cons (whole False (truth_term true)) (gates_from 0 terms) s more) [
            | inl e ↦ let low : 1 ≤ 15 = omega arith in subst (λ (r : Step). step_code r ≤ 15) e low
            | inr k ↦ (from_are 0 terms s k).high
          ]
    ]

-- the different ones of some terms are these terms, each once
pub firsts_from : (ts : List TermId) (t : TermId) → Contains (firsts ts) t → Contains ts t
firsts_from [] t h = h
firsts_from (u ∷ ts) t h =
    elim (Contains-cons u (filter (λ v. not (nat_eq v.0 u.0)) (firsts ts)) t h) [
      | inl e ↦ subst (Contains (u ∷ ts)) e (Contains-first u ts)
      | inr k ↦ Contains-rest u ts t (firsts_from ts t (Contains-from_filter (λ (v : TermId). not (nat_eq v.0 u.0)) (firsts ts) t k).0)
    ]

pub firsts_has : (ts : List TermId) (t : TermId) → Contains ts t → Contains (firsts ts) t
firsts_has [] t h = h
firsts_has (u ∷ ts) t h =
    elim (same_or_other t.0 u.0) [
      | inl e ↦ subst (Contains (firsts (u ∷ ts))) (sym (same_term t u e)) (Contains-first u (filter (λ v. not (nat_eq v.0 u.0)) (firsts ts)))
      | inr n ↦
          elim (Contains-cons u ts t h) [
            | inl e ↦ absurd (n (ap (λ (v : TermId). v.0) (sym e)))
            | inr k ↦ Contains-rest u (filter (λ v. not (nat_eq v.0 u.0)) (firsts ts)) t (Contains-filter (λ (v : TermId). not (nat_eq v.0 u.0)) (firsts ts) t (firsts_has ts t k) (differs t.0 u.0 n))
          ]
    ]

once_firsts : (ts : List TermId) → Once (firsts ts)
once_firsts [] = tt
once_firsts (u ∷ ts) = (
  λ h. let passes = (Contains-from_filter (λ (v : TermId). not (nat_eq v.0 u.0)) (firsts ts) u h).1 in true_false (sym passes ∙ not_differs u.0 u.0 refl),
  once_filter (λ (v : TermId). not (nat_eq v.0 u.0)) (firsts ts) (once_firsts ts),
)
  where
    true_false : true ≡ false → ⊥
    true_false e = cc

inputs_are : (asserts : List TermId) (s : Step) → Contains (map step.Input (firsts asserts)) s → step_code s ≡ 16
inputs_are asserts s h = let from = Contains-map_cases step.Input (firsts asserts) s h in ap step_code (sym from.2)

exhausts_are : (split : List TermId) (s : Step) → Contains (map step.Exhaust split) s → step_code s ≡ 17
exhausts_are split s h = let from = Contains-map_cases step.Exhaust split s h in ap step_code (sym from.2)

-- each initial step stands once
pub once_initial : (terms : Terms) (asserts split : List TermId) → AreRising split → Once (initial_steps terms asserts split)
once_initial terms asserts split rising =
    once_append (map step.Input (firsts asserts)) (all_gates terms ++ map step.Exhaust split)
    (once_map step.Input (λ x y e. same_term x y (ap term_of e)) (firsts asserts) (once_firsts asserts))
    (once_append (all_gates terms) (map step.Exhaust split) (once_all terms)
    (once_map step.Exhaust (λ x y e. same_term x y (ap term_of e)) split (once_rising split rising))
    (λ s h k. let a = all_are terms s h in let b = exhausts_are split s k in absurd (omega (arith, a, b))))
    (λ s h k.
    let a = inputs_are asserts s h in
    elim (Contains-append_cases (all_gates terms) (map step.Exhaust split) s k) [
      | inl l ↦ let b = all_are terms s l in absurd (omega (arith, a, b))
      | inr l ↦ let b = exhausts_are split s l in absurd (omega (arith, a, b))
    ])

-- a step whose number is that of an input or a gate is one
low_step : (d : Declarations) (terms : Terms) (s : Step) → step_code s ≤ 16 → IsInitialStep d terms s
low_step d terms (step.Gate gate t place) h = tt
low_step d terms (step.Input t) h = tt
low_step d terms (step.Exhaust t) h = let high : 17 ≤ 16 = h in absurd (omega (arith, high))
low_step d terms (step.Theory steps close) h = let high : 18 ≤ 16 = h in absurd (omega (arith, high))
low_step d terms (step.Learn hints) h = let high : 19 ≤ 16 = h in absurd (omega (arith, high))

-- the initial steps are inputs, gates and exhaustions of terms that are split
pub initial_are : (d : Declarations) (terms : Terms) (asserts split : List TermId) → AreSplitTerms d terms split → (s : Step) → Contains (initial_steps terms asserts split) s → IsInitialStep d terms s
initial_are d terms asserts split exact s h =
    elim (Contains-append_cases (map step.Input (firsts asserts)) (all_gates terms ++ map step.Exhaust split) s h) [
      | inl k ↦ let a = inputs_are asserts s k in low_step d terms s (omega (arith, a))
      | inr more ↦
          elim (Contains-append_cases (all_gates terms) (map step.Exhaust split) s more) [
            | inl k ↦ let a = all_are terms s k in low_step d terms s (omega (arith, a))
            | inr k ↦ let from = Contains-map_cases step.Exhaust split s k in subst (IsInitialStep d terms) from.2 ((exact from.0).0 from.1)
          ]
    ]

-- the gates of one term more
pub from_more : (n : ℕ) (terms : Terms) (e : Core × SortId) → gates_from n (terms ++ e ∷ []) ≡ gates_from n terms ++ gates_of (record { 0 = n + length terms }) e.0 e.1
from_more n [] e =
    let number : n ≡ n + 0 = omega arith in
    append-nil (gates_of (record { 0 = n }) e.0 e.1) ∙ ap (λ (m : ℕ). gates_of (record { 0 = m }) e.0 e.1) number
from_more n (f ∷ terms) e =
    let number : suc n + length terms ≡ n + suc (length terms) = omega arith in
    let here = gates_of (record { 0 = n }) f.0 f.1 in
    ap (λ (l : List Step). here ++ l) (from_more (suc n) terms e ∙ ap (λ (m : ℕ). gates_from (suc n) terms ++ gates_of (record { 0 = m }) e.0 e.1) number)
    ∙ sym (append_assoc here (gates_from (suc n) terms) (gates_of (record { 0 = n + suc (length terms) }) e.0 e.1))

first_length : (n : ℕ) (terms : Terms) → n < length terms → length (take n terms) ≡ n
first_length zero terms h = refl
first_length (suc n) [] h = absurd (omega (arith, h))
first_length (suc n) (t ∷ terms) h = ap suc (first_length n terms (omega (arith, h)))

-- and of the first terms and the next
pub from_next : (terms : Terms) (n : ℕ) (d : Core × SortId) → n < length terms → gates_from 0 (take (n + 1) terms) ≡ gates_from 0 (take n terms) ++ gates_of (record { 0 = n }) (get_or terms n d).0 (get_or terms n d).1
from_next terms n d within =
    let e = get_or terms n d in
    let long : length (take n terms) ≡ n = first_length n terms within in
    let number : 0 + length (take n terms) ≡ n = omega (arith, long) in
    ap (gates_from 0) (take_more terms n d within) ∙ from_more 0 (take n terms) e ∙ ap (λ (m : ℕ). gates_from 0 (take n terms) ++ gates_of (record { 0 = m }) e.0 e.1) number
