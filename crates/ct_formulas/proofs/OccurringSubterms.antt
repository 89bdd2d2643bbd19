-- What occurs in a formula stands in its core term: the term of a variable that occurs is a subterm.
use Rattle.std.proofs.Common.{◌≡◌, ◌⊎◌, ℕ, zero, suc, ◌+◌, ◌<◌, Bool, true, false, not, ◌&&◌, ◌||◌, ◌==◌, List, [], ◌∷◌, ◌++◌, length, map, Contains, Option, Some, None, option_map, unwrap_or, slice_get, if◌then◌else◌, refl, sym, ap, subst, ◌∙◌, inl, inr, arith, true≢false}
use Rattle.std.specs.List.{fold}
use Rattle.std.proofs.lemmas.Option.{slice_get_within}
use Rattle.std.proofs.lemmas.List.Elements.{Contains-append_left, Contains-append_right}
use Rattle.ct_lemmas.proofs.Booleans.{both_parts, by_test, not_is_false, or_cases}
use Rattle.ct_lemmas.proofs.Contained.{Contains-rest, Contains-none, Contains-cons}
use Rattle.ct_lemmas.proofs.Lists.{slice_get-there}
use Rattle.ct_lemmas.proofs.Numbers.{same_number}
use Rattle.ct_sorts.specs.declared.ids.CtorId.{CtorId}
use Rattle.ct_sorts.specs.declared.ids.DefId.{DefId}
use Rattle.ct_sorts.specs.declared.ids.SelId.{SelId}
use Rattle.ct_sorts.specs.declared.ids.SortId.{SortId}
use Rattle.ct_sorts.specs.Declarations.{Declarations, Constructor, bool_sort}
use Rattle.ct_formulas.specs.declared.tree.Pattern.TheVariants.{Ctor, Any}
use Rattle.ct_formulas.specs.declared.tree.Quantifier.{Quantifier}
use Rattle.ct_formulas.specs.declared.tree.Quantifier.TheVariants.{Forall, Exists}
use Rattle.ct_listing.specs.Closed.{ClosedValue, term_of}
use Rattle.ct_formulas.specs.Choices.{choices_of}
use Rattle.ct_formulas.proofs.QuantifierLemmas.{first_there, choice_terms_length}
use Rattle.ct_terms.specs.CoreTree.{CoreTree, con, sel, test, apply, equation, negation, conjunction, disjunction, equivalence, choice, trees_of, subtrees, subtrees_of_all, no_term}
use Rattle.ct_terms.specs.CoreSorts.{tree_sort}
use Rattle.ct_formulas.specs.Formula.{Formula, Formulas, Cases, Var, Con, Sel, Test, Apply, Def, Not, And, Or, Xor, Implies, Equal, Distinct, Ite, Let, Match, Quantified, no_formulas, with_formula, no_cases, with_case, bind}
use Rattle.ct_formulas.specs.FormulaSorts.{AreAtLeastTwo, IsSorted, AllSorted, AreOfSort, AreSortedCases, AreSound}
use Rattle.ct_formulas.specs.Pairs.{neighbours_from, neighbours, pairs}
use Rattle.ct_formulas.specs.Calls.{body_call, calls_below, calls}
use Rattle.ct_terms.specs.Fields.{fields_of}
use Rattle.ct_formulas.specs.Compiled.{all_of, any_of, exclusive, exclusive_of, implied_from, implication_of, equality, inequality, joined, surely_fits, are_none, compiled, compiled_all, compiled_cases, core_of}
use Rattle.ct_formulas.specs.Occurrence.{count_of, field_count, any_below, occurs, occurs_in_some, occurs_in_bound, matched_occurs, occurs_in_cases, body_uses, uses_below, occurs_in, GiveUsed}
use Rattle.ct_formulas.proofs.CallLemmas.{calls_below-suc}
use Rattle.ct_terms.proofs.SubtreeLemmas.{subtrees-itself, subtrees-further}
use Rattle.ct_formulas.proofs.OccurrenceLemmas.{count_fields}

-- tests
false_is_not_true : {P : Type 0} → false ≡ true → P
false_is_not_true e = absurd (true≢false (sym e))

-- the tree is a subterm
abbrev IsUnder : CoreTree → CoreTree → Type 0
IsUnder u t = Contains (subtrees t) u

-- it is a subterm of one of these
abbrev IsUnderSome : CoreTree → List CoreTree → Type 0
IsUnderSome u [] = ⊥
IsUnderSome u (t ∷ ts) = IsUnder u t ⊎ IsUnderSome u ts

-- what is bound comes first, the last of it as variable 0, and after it what was there
bind_past : (xs env : List CoreTree) (i : ℕ) → slice_get (bind xs env) (i + length xs) ≡ slice_get env i
bind_past [] env i = ap (slice_get env) (omega arith)
bind_past (x ∷ xs) env i = ap (slice_get (bind xs (x ∷ env))) (omega arith) ∙ bind_past xs (x ∷ env) (suc i)

bind_first : (x : CoreTree) (xs env : List CoreTree) → slice_get (bind xs (x ∷ env)) (length xs) ≡ Some x
bind_first x xs env = ap (slice_get (bind xs (x ∷ env))) (omega arith) ∙ bind_past xs (x ∷ env) 0

module _ (u : CoreTree) where
  under_args : (ts : List CoreTree) → IsUnderSome u ts → Contains (subtrees_of_all (trees_of ts)) u
  under_args [] h = absurd h
  under_args (t ∷ ts) (inl h) = Contains-append_left (subtrees t) (subtrees_of_all (trees_of ts)) u h
  under_args (t ∷ ts) (inr h) = Contains-append_right (subtrees t) (subtrees_of_all (trees_of ts)) u (under_args ts h)

  -- on the left, on the right, and right under
  left_of : (a b : CoreTree) → IsUnder u a → Contains (subtrees a ++ subtrees b) u
  left_of a b h = Contains-append_left (subtrees a) (subtrees b) u h

  right_of : (a b : CoreTree) → IsUnder u b → Contains (subtrees a ++ subtrees b) u
  right_of a b h = Contains-append_right (subtrees a) (subtrees b) u h

  under_equivalence : (a b : CoreTree) → IsUnder u a ⊎ IsUnder u b → IsUnder u (equivalence a b)
  under_equivalence a b (inl h) = Contains-rest (equivalence a b) (subtrees a ++ subtrees b) u (left_of a b h)
  under_equivalence a b (inr h) = Contains-rest (equivalence a b) (subtrees a ++ subtrees b) u (right_of a b h)

  under_equation : (a b : CoreTree) → IsUnder u a ⊎ IsUnder u b → IsUnder u (equation a b)
  under_equation a b (inl h) = Contains-rest (equation a b) (subtrees a ++ subtrees b) u (left_of a b h)
  under_equation a b (inr h) = Contains-rest (equation a b) (subtrees a ++ subtrees b) u (right_of a b h)

  under_negation : (t : CoreTree) → IsUnder u t → IsUnder u (negation t)
  under_negation t h = Contains-rest (negation t) (subtrees t) u h

  under_choice_test : (c a b : CoreTree) → IsUnder u c → IsUnder u (choice c a b)
  under_choice_test c a b h = Contains-rest (choice c a b) (subtrees c ++ (subtrees a ++ subtrees b)) u (Contains-append_left (subtrees c) (subtrees a ++ subtrees b) u h)

  under_choice_first : (c a b : CoreTree) → IsUnder u a → IsUnder u (choice c a b)
  under_choice_first c a b h = Contains-rest (choice c a b) (subtrees c ++ (subtrees a ++ subtrees b)) u (Contains-append_right (subtrees c) (subtrees a ++ subtrees b) u (left_of a b h))

  under_choice_second : (c a b : CoreTree) → IsUnder u b → IsUnder u (choice c a b)
  under_choice_second c a b h = Contains-rest (choice c a b) (subtrees c ++ (subtrees a ++ subtrees b)) u (Contains-append_right (subtrees c) (subtrees a ++ subtrees b) u (right_of a b h))

  -- the operators on several
  under_all : (ts : List CoreTree) → IsUnderSome u ts → IsUnder u (all_of ts)
  under_all [] h = absurd h
  under_all (t ∷ []) (inl h) = h
  under_all (t ∷ []) (inr h) = absurd h
  under_all (t ∷ s ∷ ts) h = Contains-rest (conjunction (trees_of (t ∷ s ∷ ts))) (subtrees_of_all (trees_of (t ∷ s ∷ ts))) u (under_args (t ∷ s ∷ ts) h)

  under_any : (ts : List CoreTree) → IsUnderSome u ts → IsUnder u (any_of ts)
  under_any [] h = absurd h
  under_any (t ∷ []) (inl h) = h
  under_any (t ∷ []) (inr h) = absurd h
  under_any (t ∷ s ∷ ts) h = Contains-rest (disjunction (trees_of (t ∷ s ∷ ts))) (subtrees_of_all (trees_of (t ∷ s ∷ ts))) u (under_args (t ∷ s ∷ ts) h)

  under_mapped : {X : Type 0} (f : X → CoreTree) (xs : List X) (x : X) → Contains xs x → IsUnder u (f x) → IsUnderSome u (map f xs)
  under_mapped f [] x inside h = absurd (Contains-none x inside)
  under_mapped f (y ∷ xs) x inside h = elim (Contains-cons y xs x inside) [
    | inl e ↦ inl (subst (λ (z : _). IsUnder u (f z)) (sym e) h)
    | inr rest ↦ inr (under_mapped f xs x rest h)
  ]

  under_joined : (q : Quantifier) (ts : List CoreTree) → IsUnderSome u ts → IsUnder u (joined q ts)
  under_joined Forall ts h = under_all ts h
  under_joined Exists ts h = under_any ts h

  under_fold : (t : CoreTree) (ts : List CoreTree) → IsUnder u t ⊎ IsUnderSome u ts → IsUnder u (fold exclusive t ts)
  under_fold t [] (inl h) = h
  under_fold t [] (inr h) = absurd h
  under_fold t (s ∷ ts) (inl h) = under_fold (exclusive t s) ts (inl (under_negation (equivalence t s) (under_equivalence t s (inl h))))
  under_fold t (s ∷ ts) (inr (inl h)) = under_fold (exclusive t s) ts (inl (under_negation (equivalence t s) (under_equivalence t s (inr h))))
  under_fold t (s ∷ ts) (inr (inr h)) = under_fold (exclusive t s) ts (inr h)

  under_exclusive : (ts : List CoreTree) → IsUnderSome u ts → IsUnder u (exclusive_of ts)
  under_exclusive [] h = absurd h
  under_exclusive (t ∷ ts) h = under_fold t ts h

  under_implied : (t : CoreTree) (ts : List CoreTree) → IsUnder u t ⊎ IsUnderSome u ts → IsUnder u (implied_from t ts)
  under_implied t [] (inl h) = h
  under_implied t [] (inr h) = absurd h
  under_implied t (s ∷ ts) (inl h) = under_any (negation t ∷ implied_from s ts ∷ []) (inl (under_negation t h))
  under_implied t (s ∷ ts) (inr h) = under_any (negation t ∷ implied_from s ts ∷ []) (inr (inl (under_implied s ts h)))

  under_implication : (ts : List CoreTree) → IsUnderSome u ts → IsUnder u (implication_of ts)
  under_implication [] h = absurd h
  under_implication (t ∷ ts) h = under_implied t ts h

  -- equalities of neighbours and of pairs, of two or more
  module _ (d : Declarations) where
    under_equality : (a b : CoreTree) → IsUnder u a ⊎ IsUnder u b → IsUnder u (equality d a b)
    under_equality a b h = by_test (λ (t : CoreTree). IsUnder u t) ((tree_sort d a).0 == 0) (equivalence a b) (equation a b) (λ e. under_equivalence a b h) (λ e. under_equation a b h)

    under_inequality : (a b : CoreTree) → IsUnder u a ⊎ IsUnder u b → IsUnder u (inequality d a b)
    under_inequality a b h = under_negation (equality d a b) (under_equality a b h)

    under_neighbours : (a b : CoreTree) (ts : List CoreTree) → IsUnderSome u (a ∷ b ∷ ts) → IsUnderSome u (neighbours_from (equality d) a (b ∷ ts))
    under_neighbours a b ts (inl h) = inl (under_equality a b (inl h))
    under_neighbours a b ts (inr (inl h)) = inl (under_equality a b (inr h))
    under_neighbours a b [] (inr (inr h)) = absurd h
    under_neighbours a b (c ∷ ts) (inr (inr h)) = inr (under_neighbours b c ts (inr h))

    under_first_pairs : (a : CoreTree) (ts : List CoreTree) → IsUnderSome u ts → IsUnderSome u (map (inequality d a) ts)
    under_first_pairs a [] h = absurd h
    under_first_pairs a (t ∷ ts) (inl h) = inl (under_inequality a t (inr h))
    under_first_pairs a (t ∷ ts) (inr h) = inr (under_first_pairs a ts h)

    under_append : (ts us : List CoreTree) → IsUnderSome u ts → IsUnderSome u (ts ++ us)
    under_append [] us h = absurd h
    under_append (t ∷ ts) us (inl h) = inl h
    under_append (t ∷ ts) us (inr h) = inr (under_append ts us h)

    under_pairs : (a b : CoreTree) (ts : List CoreTree) → IsUnderSome u (a ∷ b ∷ ts) → IsUnderSome u (pairs (inequality d) (a ∷ b ∷ ts))
    under_pairs a b ts (inl h) = inl (under_inequality a b (inl h))
    under_pairs a b ts (inr h) = under_append (map (inequality d a) (b ∷ ts)) (pairs (inequality d) (b ∷ ts)) (under_first_pairs a (b ∷ ts) h)

-- one of several fields that occurs
module _ (p : ℕ → Bool) (t : CoreTree) where
  -- a field of the term that stands at an index of the test
  abbrev HasField : List CoreTree → Type 0
  HasField env = (j : ℕ) × (s : SelId) × (p j ≡ true) × (slice_get env j ≡ Some (sel s t))

  field_there : (sels : List SelId) (env : List CoreTree) → any_below p (length sels) ≡ true → HasField (bind (map (λ s. sel s t) sels) env)
  field_there [] env h = false_is_not_true h
  field_there (s ∷ sels) env h =
      elim (or_cases (p (length sels)) (any_below p (length sels)) h) [
        | inl first ↦
            (length sels, s, first, ap (slice_get (bind (map (λ s. sel s t) sels) (sel s t ∷ env))) (sym (count_fields t sels)) ∙ bind_first (sel s t) (map (λ s. sel s t) sels) env)
        | inr rest ↦ field_there sels (sel s t ∷ env) rest
      ]

module _ (d : Declarations) (uses : DefId → ℕ → Bool) (made : DefId → List CoreTree → CoreTree) (give : GiveUsed uses made) where
  -- a case that is stored, in either way
  under_case : (sure : Bool) (u t a b : CoreTree) → IsUnder u a → IsUnder u (if sure then a else choice t a b)
  under_case true u t a b h = h
  under_case false u t a b h = under_choice_first u t a b h

  under_later_case : (sure : Bool) (u t a b : CoreTree) → sure ≡ false → IsUnder u b → IsUnder u (if sure then a else choice t a b)
  under_later_case true u t a b e h = absurd (true≢false e)
  under_later_case false u t a b e h = under_choice_second u t a b h

  under_test : (sure : Bool) (u t a b : CoreTree) → sure ≡ false → IsUnder u t → IsUnder u (if sure then a else choice t a b)
  under_test true u t a b e h = absurd (true≢false e)
  under_test false u t a b e h = under_choice_test u t a b h

  -- as many core terms as formulas
  count_terms : (ts : Formulas) (env : List CoreTree) → length (compiled_all d made env ts) ≡ count_of ts
  count_terms no_formulas env = refl
  count_terms (with_formula t ts) env = ap suc (count_terms ts env)

  mutual
    pub occurring_under : (t : Formula) (env : List CoreTree) (sorts : List SortId) (sort : SortId) (i : ℕ) (u : CoreTree) → IsSorted d sorts t sort → occurs d uses t i ≡ true → slice_get env i ≡ Some u → Contains (subtrees (compiled d made env t)) u
    occurring_under (Var k) env sorts sort i u h o at =
        subst (λ (x : Option CoreTree). IsUnder u (unwrap_or x no_term)) (sym (ap (slice_get env) (same_number k i o) ∙ at)) (subtrees-itself u)
    occurring_under (Con c ts) env sorts sort i u h o at =
        Contains-rest (con c (trees_of (compiled_all d made env ts))) (subtrees_of_all (trees_of (compiled_all d made env ts))) u (under_args u (compiled_all d made env ts) (all_under ts env sorts h.1 i u h.4 o at))
    occurring_under (Sel s t) env sorts sort i u h o at =
        Contains-rest (sel s (compiled d made env t)) (subtrees (compiled d made env t)) u (occurring_under t env sorts h.1.sort i u h.4 o at)
    occurring_under (Test c t) env sorts sort i u h o at =
        Contains-rest (test c (compiled d made env t)) (subtrees (compiled d made env t)) u (occurring_under t env sorts h.0.sort i u h.2 o at)
    occurring_under (Apply f ts) env sorts sort i u h o at =
        Contains-rest (apply f (trees_of (compiled_all d made env ts))) (subtrees_of_all (trees_of (compiled_all d made env ts))) u (under_args u (compiled_all d made env ts) (all_under ts env sorts h.0.args i u h.2 o at))
    occurring_under (Def k ts) env sorts sort i u h o at =
        bound_under ts (uses k) env [] sorts h.0.args (made k (compiled_all d made env ts)) i u h.2 (give k (compiled_all d made env ts)) o at
    occurring_under (Not t) env sorts sort i u h o at = under_negation u (compiled d made env t) (occurring_under t env sorts bool_sort i u h.0 o at)
    occurring_under (And ts) env sorts sort i u h o at = under_all u (compiled_all d made env ts) (one_under ts env sorts bool_sort i u h.1 o at)
    occurring_under (Or ts) env sorts sort i u h o at = under_any u (compiled_all d made env ts) (one_under ts env sorts bool_sort i u h.1 o at)
    occurring_under (Xor ts) env sorts sort i u h o at = under_exclusive u (compiled_all d made env ts) (one_under ts env sorts bool_sort i u h.1 o at)
    occurring_under (Implies ts) env sorts sort i u h o at = under_implication u (compiled_all d made env ts) (one_under ts env sorts bool_sort i u h.1 o at)
    occurring_under (Equal ts) env sorts sort i u h o at = equal_under ts env u h.1 (one_under ts env sorts h.0 i u h.2 o at)
    occurring_under (Distinct ts) env sorts sort i u h o at = distinct_under ts env u h.1 (one_under ts env sorts h.0 i u h.2 o at)
    occurring_under (Ite c t v) env sorts sort i u h o at =
        let a = compiled d made env c in
        let b = compiled d made env t in
        let e = compiled d made env v in
        elim (or_cases (occurs d uses c i) (occurs d uses t i || occurs d uses v i) o) [
          | inl first ↦ under_choice_test u a b e (occurring_under c env sorts bool_sort i u h.0 first at)
          | inr rest ↦
              elim (or_cases (occurs d uses t i) (occurs d uses v i) rest) [
                | inl second ↦ under_choice_first u a b e (occurring_under t env sorts sort i u h.1 second at)
                | inr third ↦ under_choice_second u a b e (occurring_under v env sorts sort i u h.2 third at)
              ]
        ]
    occurring_under (Let ts v) env sorts sort i u h o at =
        elim (or_cases (occurs_in_bound d uses (occurs d uses v) ts i) (occurs d uses v (i + count_of ts)) o) [
          | inl bound ↦
              bound_under ts (occurs d uses v) env env sorts h.0 (compiled d made (bind (compiled_all d made env ts) env) v) i u h.2
              (λ j x used at. occurring_under v (bind (compiled_all d made env ts) env) (bind h.0 sorts) sort j x h.3 used at) bound at
          | inr free ↦
              occurring_under v (bind (compiled_all d made env ts) env) (bind h.0 sorts) sort (i + count_of ts) u h.3 free
              (ap (λ (m : ℕ). slice_get (bind (compiled_all d made env ts) env) (i + m)) (sym (count_terms ts env)) ∙ bind_past (compiled_all d made env ts) env i ∙ at)
        ]
    occurring_under (Match t cases) env sorts sort i u h o at =
        elim (or_cases (matched_occurs d uses [] cases && occurs d uses t i) (occurs_in_cases d uses [] cases i) o) [
          | inl matched ↦
              let both = both_parts (matched_occurs d uses [] cases) (occurs d uses t i) matched in
              subtrees-further (compiled_cases d made env (compiled d made env t) [] cases) (compiled d made env t) u
              (matched_under cases env sorts h.0 (compiled d made env t) [] sort h.4 both.0)
              (occurring_under t env sorts h.0 i u h.1 both.1 at)
          | inr inside ↦ cases_under cases env sorts h.0 (compiled d made env t) [] sort i u h.4 inside at
        ]
    occurring_under (Quantified q bound t) env sorts sort i u h o at =
        let first = first_there (choices_of d bound) h.0.some in
        let core : List ClosedValue → CoreTree = λ vs. compiled d made (bind (map term_of vs) env) t in
        under_joined u q (map core (choices_of d bound)) (under_mapped u core (choices_of d bound) first.0 first.1
        (occurring_under t (bind (map term_of first.0) env) (bind bound sorts) bool_sort (i + length bound) u h.1 o
        (ap (λ (m : ℕ). slice_get (bind (map term_of first.0) env) (i + m)) (sym (choice_terms_length d bound first.0 first.1)) ∙ bind_past (map term_of first.0) env i ∙ at)))

    all_under : (ts : Formulas) (env : List CoreTree) (sorts ss : List SortId) (i : ℕ) (u : CoreTree) → AllSorted d sorts ts ss → occurs_in_some d uses ts i ≡ true → slice_get env i ≡ Some u → IsUnderSome u (compiled_all d made env ts)
    all_under no_formulas env sorts ss i u h o at = false_is_not_true o
    all_under (with_formula t ts) env sorts [] i u h o at = absurd h
    all_under (with_formula t ts) env sorts (s ∷ ss) i u h o at =
        elim (or_cases (occurs d uses t i) (occurs_in_some d uses ts i) o) [
          | inl first ↦ inl (occurring_under t env sorts s i u h.0 first at)
          | inr rest ↦ inr (all_under ts env sorts ss i u h.1 rest at)
        ]

    one_under : (ts : Formulas) (env : List CoreTree) (sorts : List SortId) (s : SortId) (i : ℕ) (u : CoreTree) → AreOfSort d sorts ts s → occurs_in_some d uses ts i ≡ true → slice_get env i ≡ Some u → IsUnderSome u (compiled_all d made env ts)
    one_under no_formulas env sorts s i u h o at = false_is_not_true o
    one_under (with_formula t ts) env sorts s i u h o at =
        elim (or_cases (occurs d uses t i) (occurs_in_some d uses ts i) o) [
          | inl first ↦ inl (occurring_under t env sorts s i u h.0 first at)
          | inr rest ↦ inr (one_under ts env sorts s i u h.1 rest at)
        ]

    equal_under : (ts : Formulas) (env : List CoreTree) (u : CoreTree) → AreAtLeastTwo ts → IsUnderSome u (compiled_all d made env ts) → IsUnder u (compiled d made env (Equal ts))
    equal_under no_formulas env u several h = absurd several
    equal_under (with_formula t no_formulas) env u several h = absurd several
    equal_under (with_formula t (with_formula v ts)) env u several h =
        under_all u (neighbours (equality d) (compiled_all d made env (with_formula t (with_formula v ts)))) (under_neighbours u d (compiled d made env t) (compiled d made env v) (compiled_all d made env ts) h)

    distinct_under : (ts : Formulas) (env : List CoreTree) (u : CoreTree) → AreAtLeastTwo ts → IsUnderSome u (compiled_all d made env ts) → IsUnder u (compiled d made env (Distinct ts))
    distinct_under no_formulas env u several h = absurd several
    distinct_under (with_formula t no_formulas) env u several h = absurd several
    distinct_under (with_formula t (with_formula v ts)) env u several h =
        under_all u (pairs (inequality d) (compiled_all d made env (with_formula t (with_formula v ts)))) (under_pairs u d (compiled d made env t) (compiled d made env v) (compiled_all d made env ts) h)

    -- what is bound to a variable that occurs is a subterm, and what occurs in that in turn
    bound_under : (ts : Formulas) (inner : ℕ → Bool) (env outer : List CoreTree) (sorts ss : List SortId) (result : CoreTree) (i : ℕ) (u : CoreTree) → AllSorted d sorts ts ss → ((j : ℕ) (x : CoreTree) → inner j ≡ true → slice_get (bind (compiled_all d made env ts) outer) j ≡ Some x → IsUnder x result) → occurs_in_bound d uses inner ts i ≡ true → slice_get env i ≡ Some u → IsUnder u result
    bound_under no_formulas inner env outer sorts ss result i u h used o at = false_is_not_true o
    bound_under (with_formula t ts) inner env outer sorts [] result i u h used o at = absurd h
    bound_under (with_formula t ts) inner env outer sorts (s ∷ ss) result i u h used o at =
        elim (or_cases (inner (count_of ts) && occurs d uses t i) (occurs_in_bound d uses inner ts i) o) [
          | inl first ↦
              let both = both_parts (inner (count_of ts)) (occurs d uses t i) first in
              let x = compiled d made env t in
              subtrees-further result x u
              (used (count_of ts) x both.0 (ap (slice_get (bind (compiled_all d made env ts) (x ∷ outer))) (sym (count_terms ts env)) ∙ bind_first x (compiled_all d made env ts) outer))
              (occurring_under t env sorts s i u h.0 both.1 at)
          | inr rest ↦ bound_under ts inner env (compiled d made env t ∷ outer) sorts ss result i u h.1 used rest at
        ]

    -- the matched term, where it occurs
    matched_under : (cases : Cases) (env : List CoreTree) (sorts : List SortId) (side : SortId) (t : CoreTree) (earlier : List CtorId) (sort : SortId) → AreSortedCases d sorts side cases sort → matched_occurs d uses earlier cases ≡ true → IsUnder t (compiled_cases d made env t earlier cases)
    matched_under no_cases env sorts side t earlier sort h o = false_is_not_true o
    matched_under (with_case Any body cases) env sorts side t earlier sort h o = occurring_under body (t ∷ env) (bind h.0.0 sorts) sort 0 t h.0.2 o refl
    matched_under (with_case (Ctor c) body cases) env sorts side t earlier sort h o =
        let sure : Bool = surely_fits d earlier c || are_none cases in
        let sels : List SelId = unwrap_or (option_map (λ (ctor : Constructor). ctor.sels) (slice_get d.ctors c.0)) [] in
        let first = compiled d made (bind (fields_of d c t) env) body in
        let later = compiled_cases d made env t (c ∷ earlier) cases in
        elim (or_cases (not sure) (any_below (occurs d uses body) (field_count d c)) o) [
          | inl tested ↦ under_test sure t (test c t) first later (not_is_false sure tested) (Contains-rest (test c t) (subtrees t) t (subtrees-itself t))
          | inr field ↦
              let found = field_there (occurs d uses body) t sels env field in
              under_case sure t (test c t) first later
              (subtrees-further first (sel found.1 t) t (occurring_under body (bind (fields_of d c t) env) (bind h.0.0 sorts) sort found.0 (sel found.1 t) h.0.2 found.2 found.3) (Contains-rest (sel found.1 t) (subtrees t) t (subtrees-itself t)))
        ]

    -- a variable that occurs in the body of a case that is stored
    cases_under : (cases : Cases) (env : List CoreTree) (sorts : List SortId) (side : SortId) (t : CoreTree) (earlier : List CtorId) (sort : SortId) (i : ℕ) (u : CoreTree) → AreSortedCases d sorts side cases sort → occurs_in_cases d uses earlier cases i ≡ true → slice_get env i ≡ Some u → IsUnder u (compiled_cases d made env t earlier cases)
    cases_under no_cases env sorts side t earlier sort i u h o at = false_is_not_true o
    cases_under (with_case Any body cases) env sorts side t earlier sort i u h o at = occurring_under body (t ∷ env) (bind h.0.0 sorts) sort (suc i) u h.0.2 o at
    cases_under (with_case (Ctor c) body cases) env sorts side t earlier sort i u h o at =
        let sure : Bool = surely_fits d earlier c || are_none cases in
        let sels : List SelId = unwrap_or (option_map (λ (ctor : Constructor). ctor.sels) (slice_get d.ctors c.0)) [] in
        let first = compiled d made (bind (fields_of d c t) env) body in
        let later = compiled_cases d made env t (c ∷ earlier) cases in
        elim (or_cases (occurs d uses body (i + field_count d c)) (not sure && occurs_in_cases d uses (c ∷ earlier) cases i) o) [
          | inl inside ↦
              under_case sure u (test c t) first later
              (occurring_under body (bind (fields_of d c t) env) (bind h.0.0 sorts) sort (i + field_count d c) u h.0.2 inside
              (ap (λ (m : ℕ). slice_get (bind (fields_of d c t) env) (i + m)) (sym (count_fields t sels)) ∙ bind_past (fields_of d c t) env i ∙ at))
          | inr rest ↦
              let both = both_parts (not sure) (occurs_in_cases d uses (c ∷ earlier) cases i) rest in
              under_later_case sure u (test c t) first later (not_is_false sure both.0) (cases_under cases env sorts side t (c ∷ earlier) sort i u h.1 both.1 at)
        ]

-- so it is with definitions
module _ (d : Declarations) (bodies : List Formula) (sound : AreSound d bodies) where
  -- what a definition uses, and what it gives, by the same test
  tested : (b : Bool) (p q : Bool) (t s u : CoreTree) → (if b then p else q) ≡ true → (b ≡ true → p ≡ true → IsUnder u t) → (b ≡ false → q ≡ true → IsUnder u s) → IsUnder u (if b then t else s)
  tested true p q t s u o h k = h refl o
  tested false p q t s u o h k = k refl o

  body_under : (n : ℕ) (o : Option Formula) (args : List CoreTree) (i : ℕ) (u : CoreTree) → slice_get bodies n ≡ o → GiveUsed (uses_below d bodies n) (calls_below (compiled d) no_term bodies n) → body_uses d (uses_below d bodies n) o i ≡ true → slice_get (bind args []) i ≡ Some u → IsUnder u (body_call (compiled d) no_term (calls_below (compiled d) no_term bodies n) o args)
  body_under n None args i u is give used at = false_is_not_true used
  body_under n (Some body) args i u is give used at =
      let definition = slice_get-there d.definitions n (subst (λ (m : ℕ). n < m) sound.one_each (slice_get_within bodies n body is)) in
      occurring_under d (uses_below d bodies n) (calls_below (compiled d) no_term bodies n) give body (bind args []) (bind definition.0.args []) definition.0.result i u (sound.sorted n definition.0 body definition.1 is) used at

  pub calls_give_used : (n : ℕ) → GiveUsed (uses_below d bodies n) (calls_below (compiled d) no_term bodies n)
  unfolding uses_below
  calls_give_used zero k args i u used at = false_is_not_true used
  calls_give_used (suc n) k args i u used at =
      subst (λ (t : CoreTree). IsUnder u t) (sym (calls_below-suc (compiled d) no_term bodies n k args))
      (tested (k.0 == n) (body_uses d (uses_below d bodies n) (slice_get bodies n) i) (uses_below d bodies n k i) (body_call (compiled d) no_term (calls_below (compiled d) no_term bodies n) (slice_get bodies n) args) (calls_below (compiled d) no_term bodies n k args) u used
      (λ e inside. body_under n (slice_get bodies n) args i u refl (calls_give_used n) inside at)
      (λ e inside. calls_give_used n k args i u inside at))

  pub core_of_under : (t : Formula) (env : List CoreTree) (sorts : List SortId) (sort : SortId) (i : ℕ) (u : CoreTree) → IsSorted d sorts t sort → occurs_in d bodies t i ≡ true → slice_get env i ≡ Some u → Contains (subtrees (core_of d bodies env t)) u
  core_of_under t env sorts sort i u h o at =
      occurring_under d (uses_below d bodies (length bodies)) (calls (compiled d) no_term bodies) (calls_give_used (length bodies)) t env sorts sort i u h o at
