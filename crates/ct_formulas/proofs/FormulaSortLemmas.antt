-- A well-sorted formula has a well-sorted core term of its sort, and names declared definitions alone.
use Rattle.std.proofs.Common.{◌≡◌, ℕ, zero, suc, ◌<◌, Bool, true, false, ◌==◌, ◌||◌, List, [], ◌∷◌, ◌++◌, length, map, Option, Some, option_map, unwrap_or, slice_get, if◌then◌else◌, refl, sym, ap, subst, ◌∙◌, arith}
use Rattle.std.specs.List.{AllZip, AllByRecursion, fold}
use Rattle.std.proofs.lemmas.Option.{same_Some, slice_get_within}
use Rattle.ct_lemmas.proofs.Booleans.{by_test}
use Rattle.ct_lemmas.proofs.Lists.{slice_get-there}
use Rattle.ct_lemmas.proofs.Numbers.{below_next, not_same_number, same_number}
use Rattle.ct_lemmas.proofs.Pairs.{AllZip-at_right}
use Rattle.ct_sorts.specs.declared.ids.CtorId.{CtorId}
use Rattle.ct_sorts.specs.declared.ids.DefId.{DefId}
use Rattle.ct_sorts.specs.declared.ids.SelId.{SelId}
use Rattle.ct_sorts.specs.declared.ids.SortId.{SortId}
use Rattle.ct_sorts.specs.Declarations.{Declarations, Constructor, Selector, Function, bool_sort}
use Rattle.ct_sorts.specs.Structure.{HaveOwnSelectors}
use Rattle.ct_formulas.specs.declared.tree.Pattern.TheVariants.{Ctor, Any}
use Rattle.ct_formulas.specs.declared.tree.Quantifier.{Quantifier}
use Rattle.ct_formulas.specs.declared.tree.Quantifier.TheVariants.{Forall, Exists}
use Rattle.ct_listing.specs.Closed.{ClosedValue, term_of}
use Rattle.ct_formulas.specs.Choices.{choices_of}
use Rattle.ct_terms.specs.CoreTree.{CoreTree, sel, test, equation, equivalence, choice, trees_of, no_term}
use Rattle.ct_terms.specs.CoreSorts.{AreFieldSorts, HasTreeSort, HaveTreeSorts, AreBooleanTrees, tree_sort}
use Rattle.ct_formulas.specs.Formula.{Formula, Formulas, Cases, Var, Con, Sel, Test, Apply, Def, Not, And, Or, Xor, Implies, Equal, Distinct, Ite, Let, Match, Quantified, no_formulas, with_formula, no_cases, with_case, bind, MentionsBelow, AllMentionBelow, CasesMentionBelow}
use Rattle.ct_formulas.specs.FormulaSorts.{HasFormula, AreAtLeastTwo, HasSomeCase, IsSorted, AllSorted, AreOfSort, AreSortedCases, AreSound}
use Rattle.ct_formulas.specs.Pairs.{neighbours_from, neighbours, pairs}
use Rattle.ct_formulas.specs.Calls.{body_call, calls_below, calls}
use Rattle.ct_terms.specs.Fields.{fields_of}
use Rattle.ct_formulas.specs.Compiled.{all_of, any_of, exclusive, exclusive_of, implied_from, implication_of, equality, inequality, joined, surely_fits, are_none, compiled, compiled_all, compiled_cases, core_of, GiveSorted}
use Rattle.ct_terms.proofs.CoreSortLemmas.{HasTreeSort-read}
use Rattle.ct_formulas.proofs.CallLemmas.{AllZip-bind, calls_below-suc}
use Rattle.ct_formulas.proofs.QuantifierLemmas.{all_mapped, HaveSortedChoices}

-- what holds of what stands at each index holds of all
all_by_indices : {X : Type 0} (P : X → Type 0) (xs : List X) → ((k : ℕ) (x : X) → slice_get xs k ≡ Some x → P x) → AllByRecursion P xs
all_by_indices P [] each = tt
all_by_indices P (x ∷ xs) each = (each 0 x refl, all_by_indices P xs (λ k y at. each (suc k) y at))

-- a well-sorted formula names declared definitions alone
module _ (d : Declarations) where
  mutual
    pub sorted_mentions : (env : List SortId) (t : Formula) (sort : SortId) → IsSorted d env t sort → MentionsBelow (length d.definitions) t
    sorted_mentions env (Var i) sort h = tt
    sorted_mentions env (Con c ts) sort h = all_sorted_mention env ts h.1 h.4
    sorted_mentions env (Sel s t) sort h = sorted_mentions env t h.1.sort h.4
    sorted_mentions env (Test c t) sort h = sorted_mentions env t h.0.sort h.2
    sorted_mentions env (Apply f ts) sort h = all_sorted_mention env ts h.0.args h.2
    sorted_mentions env (Def k ts) sort h = (slice_get_within d.definitions k.0 h.0 h.1, all_sorted_mention env ts h.0.args h.2)
    sorted_mentions env (Not t) sort h = sorted_mentions env t bool_sort h.0
    sorted_mentions env (And ts) sort h = one_sort_mention env ts bool_sort h.1
    sorted_mentions env (Or ts) sort h = one_sort_mention env ts bool_sort h.1
    sorted_mentions env (Xor ts) sort h = one_sort_mention env ts bool_sort h.1
    sorted_mentions env (Implies ts) sort h = one_sort_mention env ts bool_sort h.1
    sorted_mentions env (Equal ts) sort h = one_sort_mention env ts h.0 h.2
    sorted_mentions env (Distinct ts) sort h = one_sort_mention env ts h.0 h.2
    sorted_mentions env (Ite c t u) sort h = (sorted_mentions env c bool_sort h.0, sorted_mentions env t sort h.1, sorted_mentions env u sort h.2)
    sorted_mentions env (Let ts u) sort h = (all_sorted_mention env ts h.0 h.2, sorted_mentions (bind h.0 env) u sort h.3)
    sorted_mentions env (Match t cases) sort h = (sorted_mentions env t h.0 h.1, cases_mention env h.0 cases sort h.4)
    sorted_mentions env (Quantified q sorts t) sort h = sorted_mentions (bind sorts env) t bool_sort h.1

    all_sorted_mention : (env : List SortId) (ts : Formulas) (sorts : List SortId) → AllSorted d env ts sorts → AllMentionBelow (length d.definitions) ts
    all_sorted_mention env no_formulas sorts h = tt
    all_sorted_mention env (with_formula t ts) [] h = absurd h
    all_sorted_mention env (with_formula t ts) (s ∷ sorts) h = (sorted_mentions env t s h.0, all_sorted_mention env ts sorts h.1)

    one_sort_mention : (env : List SortId) (ts : Formulas) (sort : SortId) → AreOfSort d env ts sort → AllMentionBelow (length d.definitions) ts
    one_sort_mention env no_formulas sort h = tt
    one_sort_mention env (with_formula t ts) sort h = (sorted_mentions env t sort h.0, one_sort_mention env ts sort h.1)

    cases_mention : (env : List SortId) (side : SortId) (cases : Cases) (sort : SortId) → AreSortedCases d env side cases sort → CasesMentionBelow (length d.definitions) cases
    cases_mention env side no_cases sort h = tt
    cases_mention env side (with_case p body cases) sort h = (sorted_mentions (bind h.0.0 env) body sort h.0.2, cases_mention env side cases sort h.1)

-- what a formula and the operators on several are as core terms, by their sorts
module _ (d : Declarations) where
  abbrev OfSort : SortId → CoreTree → Type 0
  OfSort s t = HasTreeSort d t s

  trees_sorted : (ts : List CoreTree) (sorts : List SortId) → AllZip (HasTreeSort d) ts sorts → HaveTreeSorts d (trees_of ts) sorts
  trees_sorted [] [] h = tt
  trees_sorted [] (s ∷ sorts) h = absurd h
  trees_sorted (t ∷ ts) [] h = absurd h
  trees_sorted (t ∷ ts) (s ∷ sorts) h = (h.0, trees_sorted ts sorts h.1)

  booleans : (ts : List CoreTree) → AllByRecursion (OfSort bool_sort) ts → AreBooleanTrees d (trees_of ts)
  booleans [] h = tt
  booleans (t ∷ ts) h = (h.0, booleans ts h.1)

  -- there is one or more
  abbrev Some_of : List CoreTree → Type 0
  Some_of [] = ⊥
  Some_of (t ∷ ts) = Unit {0}

  all_of_sorted : (ts : List CoreTree) → Some_of ts → AllByRecursion (OfSort bool_sort) ts → HasTreeSort d (all_of ts) bool_sort
  all_of_sorted [] some h = absurd some
  all_of_sorted (t ∷ []) some h = h.0
  all_of_sorted (t ∷ u ∷ ts) some h = (tt, booleans (t ∷ u ∷ ts) h, refl)

  any_of_sorted : (ts : List CoreTree) → Some_of ts → AllByRecursion (OfSort bool_sort) ts → HasTreeSort d (any_of ts) bool_sort
  any_of_sorted [] some h = absurd some
  any_of_sorted (t ∷ []) some h = h.0
  any_of_sorted (t ∷ u ∷ ts) some h = (tt, booleans (t ∷ u ∷ ts) h, refl)

  some_mapped : {X : Type 0} (f : X → CoreTree) (xs : List X) → 0 < length xs → Some_of (map f xs)
  some_mapped f [] h = absurd (omega (arith, h))
  some_mapped f (x ∷ xs) h = tt

  joined_sorted : (q : Quantifier) (ts : List CoreTree) → Some_of ts → AllByRecursion (OfSort bool_sort) ts → HasTreeSort d (joined q ts) bool_sort
  joined_sorted Forall ts some h = all_of_sorted ts some h
  joined_sorted Exists ts some h = any_of_sorted ts some h

  exclusive_sorted : (t : CoreTree) (ts : List CoreTree) → OfSort bool_sort t → AllByRecursion (OfSort bool_sort) ts → HasTreeSort d (fold exclusive t ts) bool_sort
  exclusive_sorted t [] h k = h
  exclusive_sorted t (u ∷ ts) h k = exclusive_sorted (exclusive t u) ts ((h, k.0, refl), refl) k.1

  exclusive_of_sorted : (ts : List CoreTree) → Some_of ts → AllByRecursion (OfSort bool_sort) ts → HasTreeSort d (exclusive_of ts) bool_sort
  exclusive_of_sorted [] some h = absurd some
  exclusive_of_sorted (t ∷ ts) some h = exclusive_sorted t ts h.0 h.1

  implied_sorted : (t : CoreTree) (ts : List CoreTree) → OfSort bool_sort t → AllByRecursion (OfSort bool_sort) ts → HasTreeSort d (implied_from t ts) bool_sort
  implied_sorted t [] h k = h
  implied_sorted t (u ∷ ts) h k = (tt, ((h, refl), (implied_sorted u ts k.0 k.1, tt)), refl)

  implication_of_sorted : (ts : List CoreTree) → Some_of ts → AllByRecursion (OfSort bool_sort) ts → HasTreeSort d (implication_of ts) bool_sort
  implication_of_sorted [] some h = absurd some
  implication_of_sorted (t ∷ ts) some h = implied_sorted t ts h.0 h.1

  -- the equality of two terms of one sort
  pub equality_sorted : (side : SortId) (a b : CoreTree) → OfSort side a → OfSort side b → HasTreeSort d (equality d a b) bool_sort
  equality_sorted side a b h k =
      by_test (λ (t : CoreTree). HasTreeSort d t bool_sort) ((tree_sort d a).0 == 0) (equivalence a b) (equation a b)
      (λ e.
      let same : side ≡ bool_sort = sym (HasTreeSort-read d a side h) ∙ ap id (same_number (tree_sort d a).0 0 e) in
      (subst (λ (s : SortId). HasTreeSort d a s) same h, subst (λ (s : SortId). HasTreeSort d b s) same k, refl))
      (λ e.
      (side, h, k, λ same. not_same_number (tree_sort d a).0 0 e (ap (λ (s : SortId). s.0) (HasTreeSort-read d a side h ∙ same)), refl))
    where
      id : ℕ → SortId
      id n = record { 0 = n }

  neighbours_sorted : (side : SortId) (t : CoreTree) (ts : List CoreTree) → OfSort side t → AllByRecursion (OfSort side) ts → AllByRecursion (OfSort bool_sort) (neighbours_from (equality d) t ts)
  neighbours_sorted side t [] h k = tt
  neighbours_sorted side t (u ∷ ts) h k = (equality_sorted side t u h k.0, neighbours_sorted side u ts k.0 k.1)

  append_sorted : (ts us : List CoreTree) → AllByRecursion (OfSort bool_sort) ts → AllByRecursion (OfSort bool_sort) us → AllByRecursion (OfSort bool_sort) (ts ++ us)
  append_sorted [] us h k = k
  append_sorted (t ∷ ts) us h k = (h.0, append_sorted ts us h.1 k)

  unequal_sorted : (side : SortId) (t : CoreTree) (ts : List CoreTree) → OfSort side t → AllByRecursion (OfSort side) ts → AllByRecursion (OfSort bool_sort) (map (inequality d t) ts)
  unequal_sorted side t [] h k = tt
  unequal_sorted side t (u ∷ ts) h k = ((equality_sorted side t u h k.0, refl), unequal_sorted side t ts h k.1)

  pairs_sorted : (side : SortId) (ts : List CoreTree) → AllByRecursion (OfSort side) ts → AllByRecursion (OfSort bool_sort) (pairs (inequality d) ts)
  pairs_sorted side [] h = tt
  pairs_sorted side (t ∷ ts) h = append_sorted (map (inequality d t) ts) (pairs (inequality d) ts) (unequal_sorted side t ts h.0 h.1) (pairs_sorted side ts h.1)

  -- the selector is one of this constructor
  abbrev IsOwn : CtorId → SelId → Type 0
  IsOwn c s = (selector : Selector) × (slice_get d.sels s.0 ≡ Some selector) × (selector.ctor.0 ≡ c.0)

  -- the fields of a term of a constructor have the sorts of the selectors
  sels_sorted : (c : CtorId) (ctor : Constructor) (t : CoreTree) → slice_get d.ctors c.0 ≡ Some ctor → HasTreeSort d t ctor.sort → (sels : List SelId) (sorts : List SortId) → AllByRecursion (IsOwn c) sels → AreFieldSorts d sels sorts → AllZip (HasTreeSort d) (map (λ s. sel s t) sels) sorts
  sels_sorted c ctor t declared h [] [] own k = tt
  sels_sorted c ctor t declared h [] (r ∷ sorts) own k = absurd k
  sels_sorted c ctor t declared h (s ∷ sels) [] own k = absurd k
  sels_sorted c ctor t declared h (s ∷ sels) (r ∷ sorts) own k =
      let one : k.0.0 ≡ own.0.0 = same_Some k.0.0 own.0.0 (sym k.0.1 ∙ own.0.1) in
      let built : slice_get d.ctors k.0.0.ctor.0 ≡ Some ctor = ap (λ (g : Selector). slice_get d.ctors g.ctor.0) one ∙ ap (λ (n : ℕ). slice_get d.ctors n) own.0.2 ∙ declared in
      ((k.0.0, ctor, k.0.1, built, h, k.0.2), sels_sorted c ctor t declared h sels sorts own.1 k.1)

  own_sels : HaveOwnSelectors d → (c : CtorId) (ctor : Constructor) → slice_get d.ctors c.0 ≡ Some ctor → AllByRecursion (IsOwn c) ctor.sels
  own_sels own c ctor declared =
      all_by_indices (IsOwn c) ctor.sels (λ k s at. let g = own c.0 k ctor s declared at in (g.0, g.1, g.2))

  pub fields_of_sorted : HaveOwnSelectors d → (c : CtorId) (ctor : Constructor) (t : CoreTree) (sorts : List SortId) → slice_get d.ctors c.0 ≡ Some ctor → HasTreeSort d t ctor.sort → AreFieldSorts d ctor.sels sorts → AllZip (HasTreeSort d) (fields_of d c t) sorts
  fields_of_sorted own c ctor t sorts declared h fields =
      subst (λ (o : Option Constructor). AllZip (HasTreeSort d) (map (λ s. sel s t) (unwrap_or (option_map (λ (g : Constructor). g.sels) o) [])) sorts) (sym declared)
      (sels_sorted c ctor t declared h ctor.sels sorts (own_sels own c ctor declared) fields)

  module _ (own : HaveOwnSelectors d) (lists : HaveSortedChoices d) (n : ℕ) (call : DefId → List CoreTree → CoreTree) (give : GiveSorted d n call) where
    mutual
      pub compiled_sorted : (t : Formula) (env : List CoreTree) (sorts : List SortId) (sort : SortId) → AllZip (HasTreeSort d) env sorts → MentionsBelow n t → IsSorted d sorts t sort → HasTreeSort d (compiled d call env t) sort
      compiled_sorted (Var i) env sorts sort fit m h =
          let found = AllZip-at_right (HasTreeSort d) env sorts i sort fit h in
          subst (λ (o : Option CoreTree). HasTreeSort d (unwrap_or o no_term) sort) (sym found.1) found.2
      compiled_sorted (Con c ts) env sorts sort fit m h = (h.0, h.1, h.2, h.3, trees_sorted (compiled_all d call env ts) h.1 (all_compiled ts env sorts h.1 fit m h.4), h.5)
      compiled_sorted (Sel s t) env sorts sort fit m h = (h.0, h.1, h.2, h.3, compiled_sorted t env sorts h.1.sort fit m h.4, h.5)
      compiled_sorted (Test c t) env sorts sort fit m h = (h.0, h.1, compiled_sorted t env sorts h.0.sort fit m h.2, h.3)
      compiled_sorted (Apply f ts) env sorts sort fit m h = (h.0, h.1, trees_sorted (compiled_all d call env ts) h.0.args (all_compiled ts env sorts h.0.args fit m h.2), h.3)
      compiled_sorted (Def k ts) env sorts sort fit m h =
          subst (HasTreeSort d (call k (compiled_all d call env ts))) h.3 (give k h.0 (compiled_all d call env ts) m.0 h.1 (all_compiled ts env sorts h.0.args fit m.1 h.2))
      compiled_sorted (Not t) env sorts sort fit m h = (compiled_sorted t env sorts bool_sort fit m h.0, h.1)
      compiled_sorted (And ts) env sorts sort fit m h =
          subst (HasTreeSort d (all_of (compiled_all d call env ts))) h.2 (all_of_sorted (compiled_all d call env ts) (some_compiled ts env h.0) (one_compiled ts env sorts bool_sort fit m h.1))
      compiled_sorted (Or ts) env sorts sort fit m h =
          subst (HasTreeSort d (any_of (compiled_all d call env ts))) h.2 (any_of_sorted (compiled_all d call env ts) (some_compiled ts env h.0) (one_compiled ts env sorts bool_sort fit m h.1))
      compiled_sorted (Xor ts) env sorts sort fit m h =
          subst (HasTreeSort d (exclusive_of (compiled_all d call env ts))) h.2 (exclusive_of_sorted (compiled_all d call env ts) (several_compiled ts env h.0) (one_compiled ts env sorts bool_sort fit m h.1))
      compiled_sorted (Implies ts) env sorts sort fit m h =
          subst (HasTreeSort d (implication_of (compiled_all d call env ts))) h.2 (implication_of_sorted (compiled_all d call env ts) (several_compiled ts env h.0) (one_compiled ts env sorts bool_sort fit m h.1))
      compiled_sorted (Equal no_formulas) env sorts sort fit m h = absurd h.1
      compiled_sorted (Equal (with_formula t no_formulas)) env sorts sort fit m h = absurd h.1
      compiled_sorted (Equal (with_formula t (with_formula u ts))) env sorts sort fit m h =
          let a = compiled_sorted t env sorts h.0 fit m.0 h.2.0 in
          let b = compiled_sorted u env sorts h.0 fit m.1.0 h.2.1.0 in
          let rest = one_compiled ts env sorts h.0 fit m.1.1 h.2.1.1 in
          subst (HasTreeSort d (all_of (neighbours (equality d) (compiled_all d call env (with_formula t (with_formula u ts)))))) h.3
          (all_of_sorted (neighbours (equality d) (compiled_all d call env (with_formula t (with_formula u ts)))) tt
          (neighbours_sorted h.0 (compiled d call env t) (compiled_all d call env (with_formula u ts)) a (b, rest)))
      compiled_sorted (Distinct no_formulas) env sorts sort fit m h = absurd h.1
      compiled_sorted (Distinct (with_formula t no_formulas)) env sorts sort fit m h = absurd h.1
      compiled_sorted (Distinct (with_formula t (with_formula u ts))) env sorts sort fit m h =
          let a = compiled_sorted t env sorts h.0 fit m.0 h.2.0 in
          let b = compiled_sorted u env sorts h.0 fit m.1.0 h.2.1.0 in
          let rest = one_compiled ts env sorts h.0 fit m.1.1 h.2.1.1 in
          subst (HasTreeSort d (all_of (pairs (inequality d) (compiled_all d call env (with_formula t (with_formula u ts)))))) h.3
          (all_of_sorted (pairs (inequality d) (compiled_all d call env (with_formula t (with_formula u ts)))) tt
          (pairs_sorted h.0 (compiled_all d call env (with_formula t (with_formula u ts))) (a, (b, rest))))
      compiled_sorted (Ite c t u) env sorts sort fit m h = (compiled_sorted c env sorts bool_sort fit m.0 h.0, compiled_sorted t env sorts sort fit m.1 h.1, compiled_sorted u env sorts sort fit m.2 h.2)
      compiled_sorted (Let ts u) env sorts sort fit m h =
          compiled_sorted u (bind (compiled_all d call env ts) env) (bind h.0 sorts) sort
          (AllZip-bind (HasTreeSort d) (compiled_all d call env ts) h.0 env sorts (all_compiled ts env sorts h.0 fit m.0 h.2) fit) m.1 h.3
      compiled_sorted (Match t cases) env sorts sort fit m h =
          cases_compiled cases env sorts h.0 (compiled d call env t) [] sort fit (compiled_sorted t env sorts h.0 fit m.0 h.1) h.3 m.1 h.4
      compiled_sorted (Quantified q bound t) env sorts sort fit m h =
          let core : List ClosedValue → CoreTree = λ vs. compiled d call (bind (map term_of vs) env) t in
          subst (HasTreeSort d (joined q (map core (choices_of d bound)))) h.2
          (joined_sorted q (map core (choices_of d bound)) (some_mapped core (choices_of d bound) h.0.some)
          (all_mapped (OfSort bool_sort) core (choices_of d bound) (λ vs inside.
          compiled_sorted t (bind (map term_of vs) env) (bind bound sorts) bool_sort
          (AllZip-bind (HasTreeSort d) (map term_of vs) bound env sorts (lists bound vs h.0.listable inside) fit) m h.1)))

      all_compiled : (ts : Formulas) (env : List CoreTree) (sorts ss : List SortId) → AllZip (HasTreeSort d) env sorts → AllMentionBelow n ts → AllSorted d sorts ts ss → AllZip (HasTreeSort d) (compiled_all d call env ts) ss
      all_compiled no_formulas env sorts [] fit m h = tt
      all_compiled no_formulas env sorts (s ∷ ss) fit m h = absurd h
      all_compiled (with_formula t ts) env sorts [] fit m h = absurd h
      all_compiled (with_formula t ts) env sorts (s ∷ ss) fit m h = (compiled_sorted t env sorts s fit m.0 h.0, all_compiled ts env sorts ss fit m.1 h.1)

      one_compiled : (ts : Formulas) (env : List CoreTree) (sorts : List SortId) (s : SortId) → AllZip (HasTreeSort d) env sorts → AllMentionBelow n ts → AreOfSort d sorts ts s → AllByRecursion (OfSort s) (compiled_all d call env ts)
      one_compiled no_formulas env sorts s fit m h = tt
      one_compiled (with_formula t ts) env sorts s fit m h = (compiled_sorted t env sorts s fit m.0 h.0, one_compiled ts env sorts s fit m.1 h.1)

      some_compiled : (ts : Formulas) (env : List CoreTree) → HasFormula ts → Some_of (compiled_all d call env ts)
      some_compiled no_formulas env h = absurd h
      some_compiled (with_formula t ts) env h = tt

      several_compiled : (ts : Formulas) (env : List CoreTree) → AreAtLeastTwo ts → Some_of (compiled_all d call env ts)
      several_compiled no_formulas env h = absurd h
      several_compiled (with_formula t ts) env h = tt

      cases_compiled : (cases : Cases) (env : List CoreTree) (sorts : List SortId) (side : SortId) (t : CoreTree) (earlier : List CtorId) (sort : SortId) → AllZip (HasTreeSort d) env sorts → HasTreeSort d t side → HasSomeCase cases → CasesMentionBelow n cases → AreSortedCases d sorts side cases sort → HasTreeSort d (compiled_cases d call env t earlier cases) sort
      cases_compiled no_cases env sorts side t earlier sort fit of some m h = absurd some
      cases_compiled (with_case Any body cases) env sorts side t earlier sort fit of some m h =
          compiled_sorted body (t ∷ env) (side ∷ sorts) sort (of, fit) m.0 (subst (λ (ss : List SortId). IsSorted d (bind ss sorts) body sort) h.0.1 h.0.2)
      cases_compiled (with_case (Ctor c) body cases) env sorts side t earlier sort fit of some m h =
          let ctor = h.0.1.0 in
          let declared = h.0.1.1 in
          let of_ctor : HasTreeSort d t ctor.sort = subst (HasTreeSort d t) (sym h.0.1.2) of in
          let fields = fields_of_sorted own c ctor t h.0.0 declared of_ctor h.0.1.3 in
          let first = compiled_sorted body (bind (fields_of d c t) env) (bind h.0.0 sorts) sort (AllZip-bind (HasTreeSort d) (fields_of d c t) h.0.0 env sorts fields fit) m.0 h.0.2 in
          let tested : HasTreeSort d (test c t) bool_sort = (ctor, declared, of_ctor, refl) in
          case_compiled cases (surely_fits d earlier c) (test c t) (compiled d call (bind (fields_of d c t) env) body) (compiled_cases d call env t (c ∷ earlier) cases) sort tested first
          (λ more. cases_compiled cases env sorts side t (c ∷ earlier) sort fit of more m.1 h.1)

      case_compiled : (cases : Cases) (sure : Bool) (c t u : CoreTree) (sort : SortId) → HasTreeSort d c bool_sort → HasTreeSort d t sort → (HasSomeCase cases → HasTreeSort d u sort) → HasTreeSort d (if sure || are_none cases then t else choice c t u) sort
      case_compiled cases true c t u sort h k l = k
      case_compiled no_cases false c t u sort h k l = k
      case_compiled (with_case p body cases) false c t u sort h k l = (h, k, l tt)

  -- so every definition gives what is sorted, and every formula
  module _ (own : HaveOwnSelectors d) (lists : HaveSortedChoices d) (bodies : List Formula) (sound : AreSound d bodies) where
    body_given : (k : ℕ) (definition : Function) → slice_get d.definitions k ≡ Some definition → (body : Formula) × (slice_get bodies k ≡ Some body)
    body_given k definition declared = slice_get-there bodies k (subst (λ (m : ℕ). k < m) (sym sound.one_each) (slice_get_within d.definitions k definition declared))

    pub given_sorted : (n : ℕ) → GiveSorted d n (calls_below (compiled d) no_term bodies n)
    given_sorted zero k definition ts below declared h = absurd (omega (arith, below))
    given_sorted (suc n) k definition ts below declared h =
        subst (λ (t : CoreTree). HasTreeSort d t definition.result) (sym (calls_below-suc (compiled d) no_term bodies n k ts))
        (by_test (λ (t : CoreTree). HasTreeSort d t definition.result) (k.0 == n) (body_call (compiled d) no_term (calls_below (compiled d) no_term bodies n) (slice_get bodies n) ts) (calls_below (compiled d) no_term bodies n k ts)
        (λ e.
        let at : slice_get d.definitions n ≡ Some definition = ap (slice_get d.definitions) (sym (same_number k.0 n e)) ∙ declared in
        let body = body_given n definition at in
        subst (λ (o : Option Formula). HasTreeSort d (body_call (compiled d) no_term (calls_below (compiled d) no_term bodies n) o ts) definition.result) (sym body.1)
        (compiled_sorted own lists n (calls_below (compiled d) no_term bodies n) (given_sorted n) body.0 (bind ts []) (bind definition.args []) definition.result (AllZip-bind (HasTreeSort d) ts definition.args [] [] h tt) (sound.earlier n body.0 body.1) (sound.sorted n definition body.0 at body.1)))
        (λ e. given_sorted n k definition ts (below_next k.0 n below e) declared h))

    pub core_of_sorted : (env : List CoreTree) (sorts : List SortId) (t : Formula) (sort : SortId) → AllZip (HasTreeSort d) env sorts → IsSorted d sorts t sort → HasTreeSort d (core_of d bodies env t) sort
    core_of_sorted env sorts t sort fit h =
        compiled_sorted own lists (length bodies) (calls (compiled d) no_term bodies) (given_sorted (length bodies)) t env sorts sort fit
        (subst (λ (n : ℕ). MentionsBelow n t) (sym sound.one_each) (sorted_mentions d sorts t sort h)) h
