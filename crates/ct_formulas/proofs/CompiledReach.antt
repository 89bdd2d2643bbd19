-- The core term of a formula does not see definitions that the formula cannot reach, nor later declarations.
use Rattle.std.proofs.Common.{◌≡◌, ℕ, zero, suc, ◌<◌, ◌≤◌, Bool, true, false, ◌||◌, ◌==◌, List, [], ◌∷◌, ◌++◌, length, map, Option, Some, option_map, unwrap_or, slice_get, if◌then◌else◌, refl, sym, ap, subst, ◌∙◌, arith, length-append}
use Rattle.std.specs.List.{AllZip, AllByRecursion, list_all}
use Rattle.std.proofs.lemmas.Option.{slice_get_within}
use Rattle.ct_lemmas.proofs.Lists.{slice_get-append_left, slice_get-prefix, slice_get-there}
use Rattle.ct_lemmas.proofs.Numbers.{below_next, same_number}
use Rattle.ct_sorts.specs.declared.ids.CtorId.{CtorId}
use Rattle.ct_sorts.specs.declared.ids.DefId.{DefId}
use Rattle.ct_sorts.specs.declared.ids.SortId.{SortId}
use Rattle.ct_sorts.specs.Declarations.{Declarations, Sort, Constructor, Function, bool_sort}
use Rattle.ct_sorts.specs.Structure.{HaveOwnSelectors, AreOfTheirSorts}
use Rattle.ct_sorts.specs.Grown.{Extends}
use Rattle.ct_formulas.specs.declared.tree.Pattern.TheVariants.{Ctor, Any}
use Rattle.ct_terms.specs.CoreTree.{CoreTree, con, sel, test, apply, equation, negation, equivalence, choice, trees_of, no_term}
use Rattle.ct_terms.specs.CoreSorts.{HasTreeSort}
use Rattle.ct_formulas.specs.Formula.{Formula, Formulas, Cases, Var, Con, Sel, Test, Apply, Def, Not, And, Or, Xor, Implies, Equal, Distinct, Ite, Let, Match, Quantified, no_formulas, with_formula, no_cases, with_case, bind, MentionsBelow, AllMentionBelow, CasesMentionBelow}
use Rattle.ct_formulas.specs.FormulaSorts.{IsSorted, AllSorted, AreOfSort, AreSortedCases, AreSound}
use Rattle.ct_formulas.specs.Pairs.{neighbours_from, neighbours, pairs}
use Rattle.ct_formulas.specs.Calls.{body_call, calls_below, calls}
use Rattle.ct_terms.specs.Fields.{fields_of, ctor_ids_of_sort}
use Rattle.ct_formulas.specs.Compiled.{all_of, any_of, exclusive_of, implication_of, equality, inequality, joined, siblings, is_among, surely_fits, are_none, compiled, compiled_all, compiled_cases, core_of, GiveSorted}
use Rattle.ct_listing.specs.Closed.{ClosedValue, term_of}
use Rattle.ct_listing.proofs.ListLemmas.{map_same}
use Rattle.ct_formulas.specs.Choices.{choices_of}
use Rattle.ct_formulas.proofs.QuantifierLemmas.{HaveSortedChoices, KeepsLists, choices_kept}
use Rattle.ct_terms.proofs.CoreSortLemmas.{HasTreeSort-read, HasTreeSort-extends}
use Rattle.ct_formulas.proofs.CallLemmas.{AllZip-bind, calls_below-suc}
use Rattle.ct_formulas.proofs.FormulaSortLemmas.{sorted_mentions, fields_of_sorted, compiled_sorted, given_sorted}

module _ (later earlier : Declarations) (extends : Extends later earlier) (own : HaveOwnSelectors earlier) (own_sorts : AreOfTheirSorts earlier) (lists : HaveSortedChoices earlier) (keeps : KeepsLists earlier later) where
  -- a declared constructor, and the sort of one, are the same in both
  same_ctor : (c : CtorId) (ctor : Constructor) → slice_get earlier.ctors c.0 ≡ Some ctor → slice_get later.ctors c.0 ≡ slice_get earlier.ctors c.0
  same_ctor c ctor declared =
      ap (λ (cs : List Constructor). slice_get cs c.0) extends.ctors.1 ∙ slice_get-prefix earlier.ctors extends.ctors.0 c.0 (slice_get_within earlier.ctors c.0 ctor declared)

  same_sort : (s : SortId) (sort : Sort) → slice_get earlier.sorts s.0 ≡ Some sort → slice_get later.sorts s.0 ≡ slice_get earlier.sorts s.0
  same_sort s sort declared =
      ap (λ (ss : List Sort). slice_get ss s.0) extends.sorts.1 ∙ slice_get-prefix earlier.sorts extends.sorts.0 s.0 (slice_get_within earlier.sorts s.0 sort declared)

  fields_reach : (c : CtorId) (ctor : Constructor) (t : CoreTree) → slice_get earlier.ctors c.0 ≡ Some ctor → fields_of later c t ≡ fields_of earlier c t
  fields_reach c ctor t declared =
      ap (λ (o : Option Constructor). map (λ s. sel s t) (unwrap_or (option_map (λ (g : Constructor). g.sels) o) [])) (same_ctor c ctor declared)

  siblings_reach : (c : CtorId) (ctor : Constructor) → slice_get earlier.ctors c.0 ≡ Some ctor → siblings later c ≡ siblings earlier c
  siblings_reach c ctor declared =
      let of = own_sorts c.0 ctor declared in
      let list : Declarations → Option Constructor → List CtorId = λ d o. unwrap_or (option_map (λ (g : Constructor). ctor_ids_of_sort d g.sort) o) [] in
      let sorts : Option Sort → List CtorId = λ o. unwrap_or (option_map (λ (s : Sort). s.ctors) o) [] in
      ap (list later) (same_ctor c ctor declared ∙ declared) ∙ ap sorts (same_sort ctor.sort of.0 of.2) ∙ sym (ap (list earlier) declared)

  surely_reach : (before : List CtorId) (c : CtorId) (ctor : Constructor) → slice_get earlier.ctors c.0 ≡ Some ctor → surely_fits later before c ≡ surely_fits earlier before c
  surely_reach before c ctor declared = ap (list_all (λ k. (k.0 == c.0) || is_among before k)) (siblings_reach c ctor declared)

  -- a sorted term has the sort that is read off it in both
  abbrev OfSort : SortId → CoreTree → Type 0
  OfSort s t = HasTreeSort earlier t s

  equality_reach : (s : SortId) (a b : CoreTree) → OfSort s a → equality later a b ≡ equality earlier a b
  equality_reach s a b h =
      ap (λ (r : SortId). if r.0 == 0 then equivalence a b else equation a b) (HasTreeSort-read later a s (HasTreeSort-extends later earlier extends a s h) ∙ sym (HasTreeSort-read earlier a s h))

  neighbours_reach : (s : SortId) (t : CoreTree) (ts : List CoreTree) → OfSort s t → AllByRecursion (OfSort s) ts → neighbours_from (equality later) t ts ≡ neighbours_from (equality earlier) t ts
  neighbours_reach s t [] h k = refl
  neighbours_reach s t (u ∷ ts) h k =
      ap (λ (x : CoreTree). x ∷ neighbours_from (equality later) u ts) (equality_reach s t u h) ∙ ap (λ (xs : List CoreTree). equality earlier t u ∷ xs) (neighbours_reach s u ts k.0 k.1)

  chain_reach : (s : SortId) (ts : List CoreTree) → AllByRecursion (OfSort s) ts → neighbours (equality later) ts ≡ neighbours (equality earlier) ts
  chain_reach s [] h = refl
  chain_reach s (t ∷ ts) h = neighbours_reach s t ts h.0 h.1

  unequal_reach : (s : SortId) (t : CoreTree) (ts : List CoreTree) → OfSort s t → map (inequality later t) ts ≡ map (inequality earlier t) ts
  unequal_reach s t [] h = refl
  unequal_reach s t (u ∷ ts) h =
      ap (λ (x : CoreTree). negation x ∷ map (inequality later t) ts) (equality_reach s t u h) ∙ ap (λ (xs : List CoreTree). inequality earlier t u ∷ xs) (unequal_reach s t ts h)

  pairs_reach : (s : SortId) (ts : List CoreTree) → AllByRecursion (OfSort s) ts → pairs (inequality later) ts ≡ pairs (inequality earlier) ts
  pairs_reach s [] h = refl
  pairs_reach s (t ∷ ts) h =
      ap (λ (xs : List CoreTree). xs ++ pairs (inequality later) ts) (unequal_reach s t ts h.0) ∙ ap (λ (xs : List CoreTree). map (inequality earlier t) ts ++ xs) (pairs_reach s ts h.1)

  -- the definitions below the number give the same for terms of their sorts
  abbrev AreAlike : ℕ → (DefId → List CoreTree → CoreTree) → (DefId → List CoreTree → CoreTree) → Type 0
  AreAlike n call other = (k : DefId) (definition : Function) (ts : List CoreTree) → k.0 < n → slice_get earlier.definitions k.0 ≡ Some definition → AllZip (HasTreeSort earlier) ts definition.args → call k ts ≡ other k ts

  module _ (n : ℕ) (call other : DefId → List CoreTree → CoreTree) (alike : AreAlike n call other) (give : GiveSorted earlier n other) where
    -- the core terms in the earlier declarations have their sorts
    of_sort : (t : Formula) (env : List CoreTree) (sorts : List SortId) (s : SortId) → AllZip (HasTreeSort earlier) env sorts → MentionsBelow n t → IsSorted earlier sorts t s → HasTreeSort earlier (compiled earlier other env t) s
    of_sort t env sorts s fit m h = compiled_sorted earlier own lists n other give t env sorts s fit m h

    of_sorts : (ts : Formulas) (env : List CoreTree) (sorts ss : List SortId) → AllZip (HasTreeSort earlier) env sorts → AllMentionBelow n ts → AllSorted earlier sorts ts ss → AllZip (HasTreeSort earlier) (compiled_all earlier other env ts) ss
    of_sorts no_formulas env sorts [] fit m h = tt
    of_sorts no_formulas env sorts (s ∷ ss) fit m h = absurd h
    of_sorts (with_formula t ts) env sorts [] fit m h = absurd h
    of_sorts (with_formula t ts) env sorts (s ∷ ss) fit m h = (of_sort t env sorts s fit m.0 h.0, of_sorts ts env sorts ss fit m.1 h.1)

    of_one : (ts : Formulas) (env : List CoreTree) (sorts : List SortId) (s : SortId) → AllZip (HasTreeSort earlier) env sorts → AllMentionBelow n ts → AreOfSort earlier sorts ts s → AllByRecursion (OfSort s) (compiled_all earlier other env ts)
    of_one no_formulas env sorts s fit m h = tt
    of_one (with_formula t ts) env sorts s fit m h = (of_sort t env sorts s fit m.0 h.0, of_one ts env sorts s fit m.1 h.1)

    mutual
      pub compiled_reaches : (t : Formula) (env : List CoreTree) (sorts : List SortId) (s : SortId) → AllZip (HasTreeSort earlier) env sorts → MentionsBelow n t → IsSorted earlier sorts t s → compiled later call env t ≡ compiled earlier other env t
      compiled_reaches (Var k) env sorts s fit m h = refl
      compiled_reaches (Con c ts) env sorts s fit m h = ap (λ (us : List CoreTree). con c (trees_of us)) (all_reach ts env sorts h.1 fit m h.4)
      compiled_reaches (Sel r t) env sorts s fit m h = ap (sel r) (compiled_reaches t env sorts h.1.sort fit m h.4)
      compiled_reaches (Test c t) env sorts s fit m h = ap (test c) (compiled_reaches t env sorts h.0.sort fit m h.2)
      compiled_reaches (Apply f ts) env sorts s fit m h = ap (λ (us : List CoreTree). apply f (trees_of us)) (all_reach ts env sorts h.0.args fit m h.2)
      compiled_reaches (Def k ts) env sorts s fit m h =
          ap (call k) (all_reach ts env sorts h.0.args fit m.1 h.2) ∙ alike k h.0 (compiled_all earlier other env ts) m.0 h.1 (of_sorts ts env sorts h.0.args fit m.1 h.2)
      compiled_reaches (Not t) env sorts s fit m h = ap negation (compiled_reaches t env sorts bool_sort fit m h.0)
      compiled_reaches (And ts) env sorts s fit m h = ap all_of (one_reach ts env sorts bool_sort fit m h.1)
      compiled_reaches (Or ts) env sorts s fit m h = ap any_of (one_reach ts env sorts bool_sort fit m h.1)
      compiled_reaches (Xor ts) env sorts s fit m h = ap exclusive_of (one_reach ts env sorts bool_sort fit m h.1)
      compiled_reaches (Implies ts) env sorts s fit m h = ap implication_of (one_reach ts env sorts bool_sort fit m h.1)
      compiled_reaches (Equal ts) env sorts s fit m h =
          ap (λ (us : List CoreTree). all_of (neighbours (equality later) us)) (one_reach ts env sorts h.0 fit m h.2) ∙ ap all_of (chain_reach h.0 (compiled_all earlier other env ts) (of_one ts env sorts h.0 fit m h.2))
      compiled_reaches (Distinct ts) env sorts s fit m h =
          ap (λ (us : List CoreTree). all_of (pairs (inequality later) us)) (one_reach ts env sorts h.0 fit m h.2) ∙ ap all_of (pairs_reach h.0 (compiled_all earlier other env ts) (of_one ts env sorts h.0 fit m h.2))
      compiled_reaches (Ite c t u) env sorts s fit m h =
          ap (λ (x : CoreTree). choice x (compiled later call env t) (compiled later call env u)) (compiled_reaches c env sorts bool_sort fit m.0 h.0)
          ∙ ap (λ (x : CoreTree). choice (compiled earlier other env c) x (compiled later call env u)) (compiled_reaches t env sorts s fit m.1 h.1)
          ∙ ap (choice (compiled earlier other env c) (compiled earlier other env t)) (compiled_reaches u env sorts s fit m.2 h.2)
      compiled_reaches (Let ts u) env sorts s fit m h =
          ap (λ (us : List CoreTree). compiled later call (bind us env) u) (all_reach ts env sorts h.0 fit m.0 h.2)
          ∙ compiled_reaches u (bind (compiled_all earlier other env ts) env) (bind h.0 sorts) s
          (AllZip-bind (HasTreeSort earlier) (compiled_all earlier other env ts) h.0 env sorts (of_sorts ts env sorts h.0 fit m.0 h.2) fit) m.1 h.3
      compiled_reaches (Match t cases) env sorts s fit m h =
          ap (λ (x : CoreTree). compiled_cases later call env x [] cases) (compiled_reaches t env sorts h.0 fit m.0 h.1)
          ∙ cases_reach cases env sorts h.0 (compiled earlier other env t) [] s fit (of_sort t env sorts h.0 fit m.0 h.1) m.1 h.4
      compiled_reaches (Quantified q bound t) env sorts s fit m h =
          let new : List ClosedValue → CoreTree = λ vs. compiled later call (bind (map term_of vs) env) t in
          let old : List ClosedValue → CoreTree = λ vs. compiled earlier other (bind (map term_of vs) env) t in
          ap (λ (vss : List (List ClosedValue)). joined q (map new vss)) (choices_kept earlier later keeps bound h.0.listable)
          ∙ ap (joined q) (map_same new old (choices_of earlier bound) (λ vs inside.
          compiled_reaches t (bind (map term_of vs) env) (bind bound sorts) bool_sort
          (AllZip-bind (HasTreeSort earlier) (map term_of vs) bound env sorts (lists bound vs h.0.listable inside) fit) m h.1))

      all_reach : (ts : Formulas) (env : List CoreTree) (sorts ss : List SortId) → AllZip (HasTreeSort earlier) env sorts → AllMentionBelow n ts → AllSorted earlier sorts ts ss → compiled_all later call env ts ≡ compiled_all earlier other env ts
      all_reach no_formulas env sorts ss fit m h = refl
      all_reach (with_formula t ts) env sorts [] fit m h = absurd h
      all_reach (with_formula t ts) env sorts (s ∷ ss) fit m h =
          ap (λ (x : CoreTree). x ∷ compiled_all later call env ts) (compiled_reaches t env sorts s fit m.0 h.0) ∙ ap (λ (us : List CoreTree). compiled earlier other env t ∷ us) (all_reach ts env sorts ss fit m.1 h.1)

      one_reach : (ts : Formulas) (env : List CoreTree) (sorts : List SortId) (s : SortId) → AllZip (HasTreeSort earlier) env sorts → AllMentionBelow n ts → AreOfSort earlier sorts ts s → compiled_all later call env ts ≡ compiled_all earlier other env ts
      one_reach no_formulas env sorts s fit m h = refl
      one_reach (with_formula t ts) env sorts s fit m h =
          ap (λ (x : CoreTree). x ∷ compiled_all later call env ts) (compiled_reaches t env sorts s fit m.0 h.0) ∙ ap (λ (us : List CoreTree). compiled earlier other env t ∷ us) (one_reach ts env sorts s fit m.1 h.1)

      cases_reach : (cases : Cases) (env : List CoreTree) (sorts : List SortId) (side : SortId) (t : CoreTree) (before : List CtorId) (s : SortId) → AllZip (HasTreeSort earlier) env sorts → HasTreeSort earlier t side → CasesMentionBelow n cases → AreSortedCases earlier sorts side cases s → compiled_cases later call env t before cases ≡ compiled_cases earlier other env t before cases
      cases_reach no_cases env sorts side t before s fit of m h = refl
      cases_reach (with_case Any body cases) env sorts side t before s fit of m h =
          compiled_reaches body (t ∷ env) (side ∷ sorts) s (of, fit) m.0 (subst (λ (ss : List SortId). IsSorted earlier (bind ss sorts) body s) h.0.1 h.0.2)
      cases_reach (with_case (Ctor c) body cases) env sorts side t before s fit of m h =
          let ctor = h.0.1.0 in
          let declared = h.0.1.1 in
          let fields = fields_of_sorted earlier own c ctor t h.0.0 declared (subst (HasTreeSort earlier t) (sym h.0.1.2) of) h.0.1.3 in
          let first : compiled later call (bind (fields_of later c t) env) body ≡ compiled earlier other (bind (fields_of earlier c t) env) body =
          ap (λ (us : List CoreTree). compiled later call (bind us env) body) (fields_reach c ctor t declared)
          ∙ compiled_reaches body (bind (fields_of earlier c t) env) (bind h.0.0 sorts) s (AllZip-bind (HasTreeSort earlier) (fields_of earlier c t) h.0.0 env sorts fields fit) m.0 h.0.2 in
          ap (λ (b : Bool). if b || are_none cases then compiled later call (bind (fields_of later c t) env) body else choice (test c t) (compiled later call (bind (fields_of later c t) env) body) (compiled_cases later call env t (c ∷ before) cases)) (surely_reach before c ctor declared)
          ∙ ap (λ (x : CoreTree). if surely_fits earlier before c || are_none cases then x else choice (test c t) x (compiled_cases later call env t (c ∷ before) cases)) first
          ∙ ap (λ (x : CoreTree). if surely_fits earlier before c || are_none cases then compiled earlier other (bind (fields_of earlier c t) env) body else choice (test c t) (compiled earlier other (bind (fields_of earlier c t) env) body) x) (cases_reach cases env sorts side t (c ∷ before) s fit of m.1 h.1)

  -- with more definitions after those that are there, these give the same
  module _ (bodies more : List Formula) (sound : AreSound earlier bodies) where
    abbrev new_calls : ℕ → DefId → List CoreTree → CoreTree
    new_calls n = calls_below (compiled later) no_term (bodies ++ more) n

    abbrev old_calls : ℕ → DefId → List CoreTree → CoreTree
    old_calls n = calls_below (compiled earlier) no_term bodies n

    -- what both give for the next definition
    next_same : (b : Bool) (t u v w : CoreTree) → (b ≡ true → t ≡ v) → (b ≡ false → u ≡ w) → (if b then t else u) ≡ (if b then v else w)
    next_same true t u v w h k = h refl
    next_same false t u v w h k = k refl

    calls_alike : (n : ℕ) → n ≤ length bodies → AreAlike n (new_calls n) (old_calls n)
    calls_alike zero within k definition ts below declared of = absurd (omega (arith, below))
    calls_alike (suc n) within k definition ts below declared of =
        let body = slice_get-there bodies n (omega (arith, within)) in
        calls_below-suc (compiled later) no_term (bodies ++ more) n k ts
        ∙ next_same (k.0 == n) (body_call (compiled later) no_term (new_calls n) (slice_get (bodies ++ more) n) ts) (new_calls n k ts) (body_call (compiled earlier) no_term (old_calls n) (slice_get bodies n) ts) (old_calls n k ts)
        (λ e.
        let at : slice_get earlier.definitions n ≡ Some definition = ap (slice_get earlier.definitions) (sym (same_number k.0 n e)) ∙ declared in
        ap (λ (o : Option Formula). body_call (compiled later) no_term (new_calls n) o ts) (slice_get-append_left bodies more n body.0 body.1)
        ∙ compiled_reaches n (new_calls n) (old_calls n) (calls_alike n (omega (arith, within))) (given_sorted earlier own lists bodies sound n) body.0 (bind ts []) (bind definition.args []) definition.result (AllZip-bind (HasTreeSort earlier) ts definition.args [] [] of tt) (sound.earlier n body.0 body.1) (sound.sorted n definition body.0 at body.1)
        ∙ ap (λ (o : Option Formula). body_call (compiled earlier) no_term (old_calls n) o ts) (sym body.1))
        (λ e. calls_alike n (omega (arith, within)) k definition ts (below_next k.0 n below e) declared of)
        ∙ sym (calls_below-suc (compiled earlier) no_term bodies n k ts)

    -- bounds above a definition's number give the same
    bounded_step : (k : DefId) (ts : List CoreTree) (n : ℕ) (b : Bool) → (k.0 == n) ≡ b → (b ≡ false → new_calls n k ts ≡ new_calls (suc k.0) k ts) → new_calls (suc n) k ts ≡ new_calls (suc k.0) k ts
    bounded_step k ts n true e before = ap (λ (m : ℕ). new_calls (suc m) k ts) (sym (same_number k.0 n e))
    bounded_step k ts n false e before =
        calls_below-suc (compiled later) no_term (bodies ++ more) n k ts
        ∙ ap (λ (b : Bool). if b then body_call (compiled later) no_term (new_calls n) (slice_get (bodies ++ more) n) ts else new_calls n k ts) e
        ∙ before refl

    bounded_calls : (k : DefId) (ts : List CoreTree) (n : ℕ) → k.0 < n → new_calls n k ts ≡ new_calls (suc k.0) k ts
    bounded_calls k ts zero below = absurd (omega (arith, below))
    bounded_calls k ts (suc n) below = bounded_step k ts n (k.0 == n) refl (λ e. bounded_calls k ts n (below_next k.0 n below e))

    longer_within : (k : ℕ) → k < length bodies → k < length (bodies ++ more)
    longer_within k below = omega (arith, below, length-append bodies more)

    -- the core term of a formula over the definitions that are there stays
    pub core_of_reaches : (t : Formula) (env : List CoreTree) (sorts : List SortId) (s : SortId) → AllZip (HasTreeSort earlier) env sorts → IsSorted earlier sorts t s → core_of later (bodies ++ more) env t ≡ core_of earlier bodies env t
    core_of_reaches t env sorts s fit h =
        compiled_reaches (length bodies) (calls (compiled later) no_term (bodies ++ more)) (calls (compiled earlier) no_term bodies)
        (λ k definition ts below declared of.
        bounded_calls k ts (length (bodies ++ more)) (longer_within k.0 below)
        ∙ sym (bounded_calls k ts (length bodies) below)
        ∙ calls_alike (length bodies) (omega arith) k definition ts below declared of)
        (given_sorted earlier own lists bodies sound (length bodies)) t env sorts s fit
        (subst (λ (m : ℕ). MentionsBelow m t) (sym sound.one_each) (sorted_mentions earlier sorts t s h)) h
