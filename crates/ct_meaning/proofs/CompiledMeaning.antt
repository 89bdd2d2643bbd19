-- The core term of a formula means what the formula means.
use Rattle.std.proofs.Common.{Contains, ◌≡◌, ℕ, zero, suc, ◌<◌, Bool, true, false, not, ◌||◌, ◌==◌, List, [], ◌∷◌, length, map, Option, Some, option_map, unwrap_or, slice_get, if◌then◌else◌, refl, sym, ap, subst, ◌∙◌, inl, inr, arith, true≢false}
use Rattle.std.specs.List.{AllZip, AllByRecursion}
use Rattle.ct_lemmas.proofs.Booleans.{by_test}
use Rattle.ct_lemmas.proofs.Lists.{list_all-at}
use Rattle.ct_lemmas.proofs.Numbers.{below_next, not_same_number, same_number}
use Rattle.ct_lemmas.proofs.Pairs.{AllZip-from, AllZip-one_length}
use Rattle.ct_sorts.specs.declared.ids.CtorId.{CtorId}
use Rattle.ct_sorts.specs.declared.ids.DefId.{DefId}
use Rattle.ct_sorts.specs.declared.ids.SelId.{SelId}
use Rattle.ct_sorts.specs.declared.ids.SortId.{SortId}
use Rattle.ct_sorts.specs.Declarations.{Declarations, Sort, Constructor, Selector, Function, bool_sort}
use Rattle.ct_values.specs.declared.node.Head.TheVariants as heads
use Rattle.ct_values.specs.Value.{Value, construct, values_of, with_value}
use Rattle.ct_values.specs.Agreement.{head_of, children_of}
use Rattle.ct_values.specs.ValueSort.{HasValueSort}
use Rattle.ct_formulas.specs.declared.tree.Pattern.{Pattern}
use Rattle.ct_formulas.specs.declared.tree.Pattern.TheVariants.{Ctor, Any}
use Rattle.ct_formulas.specs.declared.tree.Quantifier.{Quantifier}
use Rattle.ct_formulas.specs.declared.tree.Quantifier.TheVariants.{Forall, Exists}
use Rattle.ct_listing.specs.Closed.{ClosedValue, ClosedValues, IsClosedOf, build, no_closed, with_closed, value_of, values_under, term_of, terms_under}
use Rattle.ct_formulas.specs.Choices.{choices_of}
use Rattle.ct_formulas.proofs.QuantifierLemmas.{all_mapped}
use Rattle.ct_terms.specs.CoreTree.{CoreTree, sel, test, choice, trees_of, no_term}
use Rattle.ct_terms.specs.CoreSorts.{IsFieldSort, AreFieldSorts, HasTreeSort, tree_sort}
use Rattle.ct_formulas.specs.Formula.{Formula, Formulas, Cases, Var, Con, Sel, Test, Apply, Def, Not, And, Or, Xor, Implies, Equal, Distinct, Ite, Let, Match, Quantified, no_formulas, with_formula, no_cases, with_case, bind, MentionsBelow, AllMentionBelow, CasesMentionBelow}
use Rattle.ct_formulas.specs.FormulaSorts.{IsSorted, AllSorted, AreOfSort, AreSortedCases, AreSound}
use Rattle.ct_formulas.specs.Calls.{body_call, calls_below, calls}
use Rattle.ct_terms.specs.Fields.{fields_of, ctor_ids_of_sort}
use Rattle.ct_formulas.specs.Compiled.{joined, siblings, is_among, surely_fits, are_none, compiled, compiled_all, compiled_cases, core_of}
use Rattle.ct_eval.specs.declared.interp.Interp.{Interp}
use Rattle.ct_values.specs.TruthValue.{truth, is_head, is_built, is_true}
use Rattle.ct_eval.specs.Evaluation.{select, table_value}
use Rattle.ct_eval.specs.TreeValue.{tree_value, tree_values}
use Rattle.ct_meaning.specs.Meaning.{holds, fits, meaning, meanings, case_meaning, eval, Agree, Means}
use Rattle.ct_meaning.proofs.MeaningFacts.{Facts, AllZip-bind, AllZip-either, zip_mapped, agree_equal, agree_truth, built_agrees, true_agrees, given_agrees, select_agrees, choice_agrees}
use Rattle.ct_meaning.proofs.MeaningSorted.{other_number, calls-next, head_fits, Covers, GiveValues, bound_sorted, covered_rest, meaning_sorted, body_at, values_given}
use Rattle.ct_meaning.proofs.CompiledOperators.{truth_is, values_mean, all_of_means, any_of_means, exclusive_of_means, implication_of_means, AreOfOne, equal_means, distinct_means}

-- neither of two is true
neither : (a b : Bool) → a ≡ false → b ≡ false → (a || b) ≡ false
neither a b h k = ap (λ (x : Bool). x || b) h ∙ k

module _ (d : Declarations) (i : Interp) (facts : Facts d i) where
  -- the term and the value are of the sort, and the term means the value
  pub record Stands (t : CoreTree) (v : Value) (s : SortId) : Type 0 where
    pub term_sorted : HasTreeSort d t s
    pub value_sorted : HasValueSort d i.graph v s
    pub means : Means d i t v

  -- the value of a field of a term that is built by the constructor
  field_means : (c : CtorId) (ctor : Constructor) (t : CoreTree) (k : ℕ) (s : SelId) (w : Value) → slice_get d.ctors c.0 ≡ Some ctor → is_built i.graph c (tree_value d i t) ≡ true → slice_get ctor.sels k ≡ Some s → slice_get (children_of i.graph (tree_value d i t)) k ≡ Some w → tree_value d i (sel s t) ≡ w
  field_means c ctor t k s w declared built at there =
      let own = facts.own_selectors c.0 k ctor s declared at in
      let v : Value = tree_value d i t in
      let picked : Selector → Value = λ f. if is_built i.graph f.ctor v then unwrap_or (slice_get (children_of i.graph v) f.place) v else table_value i (slice_get i.offs s.0) (v ∷ []) in
      ap (λ (o : Option Selector). select i s o v) own.1
      ∙ ap (λ (b : Bool). if b then unwrap_or (slice_get (children_of i.graph v) own.0.place) v else table_value i (slice_get i.offs s.0) (v ∷ [])) (ap (λ (n : ℕ). is_head (record { 0 = n }) (head_of i.graph v)) own.2 ∙ built)
      ∙ ap (λ (n : ℕ). unwrap_or (slice_get (children_of i.graph v) n) v) own.3
      ∙ ap (λ (o : Option Value). unwrap_or o v) there

  -- the fields of the term mean the children of the value
  means_child : (t : CoreTree) (vs ws : List Value) (sels : List SelId) → AllZip (λ s v. tree_value d i (sel s t) ≡ v) sels vs → AllZip (Agree i) vs ws → AllZip (Means d i) (map (λ s. sel s t) sels) ws
  means_child t [] [] [] h k = tt
  means_child t [] (w ∷ ws) sels h k = absurd k
  means_child t (v ∷ vs) [] sels h k = absurd k
  means_child t [] [] (s ∷ sels) h k = absurd h
  means_child t (v ∷ vs) (w ∷ ws) [] h k = absurd h
  means_child t (v ∷ vs) (w ∷ ws) (s ∷ sels) h k =
      (subst (λ (x : Value). Agree i x w) (sym h.0) k.0, means_child t vs ws sels h.1 k.1)

  fields_mean : (c : CtorId) (ctor : Constructor) (sorts : List SortId) (t : CoreTree) (v : Value) → slice_get d.ctors c.0 ≡ Some ctor → AreFieldSorts d ctor.sels sorts → Means d i t v → is_built i.graph c v ≡ true → AllZip (HasValueSort d i.graph) (children_of i.graph v) sorts → AllZip (Means d i) (fields_of d c t) (children_of i.graph v)
  fields_mean c ctor sorts t v declared fields h built children =
      let w : Value = tree_value d i t in
      let agree = facts.children w v h in
      let long : length ctor.sels ≡ length (children_of i.graph w) =
      AllZip-one_length (IsFieldSort d) ctor.sels sorts fields ∙ sym (AllZip-one_length (HasValueSort d i.graph) (children_of i.graph v) sorts children) ∙ sym (AllZip-one_length (Agree i) (children_of i.graph w) (children_of i.graph v) agree) in
      let each = AllZip-from (λ (s : SelId) (x : Value). tree_value d i (sel s t) ≡ x) ctor.sels (children_of i.graph w) long
      (λ k s x at there. field_means c ctor t k s x declared (built_agrees d i facts c w v h ∙ built) at there) in
      subst (λ (o : Option Constructor). AllZip (Means d i) (map (λ s. sel s t) (unwrap_or (option_map (λ (g : Constructor). g.sels) o) [])) (children_of i.graph v)) (sym declared)
      (means_child t (children_of i.graph w) (children_of i.graph v) ctor.sels each agree)

  -- a constructor of the sort that has no earlier case is the one of a case that surely fits
  surely : (earlier : List CtorId) (c k : CtorId) (ctor kctor : Constructor) → slice_get d.ctors c.0 ≡ Some ctor → slice_get d.ctors k.0 ≡ Some kctor → kctor.sort ≡ ctor.sort → is_among earlier k ≡ false → surely_fits d earlier c ≡ true → k.0 ≡ c.0
  surely earlier c k ctor kctor at_c at_k one absent sure =
      let of = facts.of_their_sorts k.0 kctor at_k in
      let all : siblings d c ≡ of.0.ctors =
      ap (λ (o : Option Constructor). unwrap_or (option_map (λ (g : Constructor). ctor_ids_of_sort d g.sort) o) []) at_c
      ∙ ap (λ (s : SortId). ctor_ids_of_sort d s) (sym one)
      ∙ ap (λ (o : Option Sort). unwrap_or (option_map (λ (s : Sort). s.ctors) o) []) of.2 in
      let test_k : ((k.0 == c.0) || is_among earlier k) ≡ true =
      list_all-at (λ (j : CtorId). (j.0 == c.0) || is_among earlier j) (siblings d c) of.1 k sure (ap (λ (cs : List CtorId). slice_get cs of.1) all ∙ of.3) in
      by (k.0 == c.0) refl test_k
    where
      by : (b : Bool) → (k.0 == c.0) ≡ b → (b || is_among earlier k) ≡ true → k.0 ≡ c.0
      by true e h = same_number k.0 c.0 e
      by false e h = absurd (true≢false (sym h ∙ absent))

  -- closed values of sorts are terms and values of these, and as terms they mean themselves
  closed_terms : (vs : List ClosedValue) (ss : List SortId) → AllZip (IsClosedOf d) vs ss → AllZip (HasTreeSort d) (map term_of vs) ss
  closed_terms [] [] h = tt
  closed_terms [] (s ∷ ss) h = absurd h
  closed_terms (v ∷ vs) [] h = absurd h
  closed_terms (v ∷ vs) (s ∷ ss) h = (facts.closed_term v s h.0, closed_terms vs ss h.1)

  closed_values : (vs : List ClosedValue) (ss : List SortId) → AllZip (IsClosedOf d) vs ss → AllZip (HasValueSort d i.graph) (map value_of vs) ss
  closed_values [] [] h = tt
  closed_values [] (s ∷ ss) h = absurd h
  closed_values (v ∷ vs) [] h = absurd h
  closed_values (v ∷ vs) (s ∷ ss) h = (facts.closed_value v s h.0, closed_values vs ss h.1)

  mutual
    closed_value_is : (v : ClosedValue) → tree_value d i (term_of v) ≡ value_of v
    closed_value_is (build c vs) = ap (construct c) (closed_values_are vs)

    closed_values_are : (vs : ClosedValues) → values_of (tree_values d i (terms_under vs)) ≡ values_under vs
    closed_values_are no_closed = refl
    closed_values_are (with_closed v vs) =
        ap (λ (x : Value). with_value x (values_of (tree_values d i (terms_under vs)))) (closed_value_is v) ∙ ap (with_value (value_of v)) (closed_values_are vs)

  closed_mean : (vs : List ClosedValue) → AllZip (Means d i) (map term_of vs) (map value_of vs)
  closed_mean [] = tt
  closed_mean (v ∷ vs) = (agree_equal d i facts (tree_value d i (term_of v)) (value_of v) (closed_value_is v), closed_mean vs)

  -- a quantifier over what the terms mean
  joined_means : (q : Quantifier) (ts : List CoreTree) (vs : List Value) → AllZip (Means d i) ts vs → AllByRecursion (λ v. HasValueSort d i.graph v bool_sort) vs → Means d i (joined q ts) (truth (holds q i.graph vs))
  joined_means Forall ts vs h of = all_of_means d i facts ts vs h of
  joined_means Exists ts vs h of = any_of_means d i facts ts vs h of

  -- definitions below the number: for terms that mean values, what they give as a term means what they give as a value
  abbrev GiveMeaning : ℕ → (DefId → List CoreTree → CoreTree) → (DefId → List Value → Value) → Type 0
  GiveMeaning n made call = (k : DefId) (definition : Function) (ts : List CoreTree) (vs : List Value) → k.0 < n → slice_get d.definitions k.0 ≡ Some definition → AllZip (HasTreeSort d) ts definition.args → AllZip (HasValueSort d i.graph) vs definition.args → AllZip (Means d i) ts vs → Means d i (made k ts) (call k vs)

  -- the fields of a term of a constructor have the sorts of the constructor's fields
  abbrev FieldTerms : Type 0
  FieldTerms = (c : CtorId) (ctor : Constructor) (t : CoreTree) (ss : List SortId) → slice_get d.ctors c.0 ≡ Some ctor → HasTreeSort d t ctor.sort → AreFieldSorts d ctor.sels ss → AllZip (HasTreeSort d) (fields_of d c t) ss

  -- a term of a sort has the sort that is read off it
  abbrev ReadsSorts : Type 0
  ReadsSorts = (s : SortId) (t : CoreTree) → HasTreeSort d t s → tree_sort d t ≡ s

  -- the core term of a formula has its sort
  abbrev CompilesSorted : (n : ℕ) → (DefId → List CoreTree → CoreTree) → Type 0
  CompilesSorted n made = (t : Formula) (env : List CoreTree) (sorts : List SortId) (sort : SortId) → AllZip (HasTreeSort d) env sorts → MentionsBelow n t → IsSorted d sorts t sort → HasTreeSort d (compiled d made env t) sort

  module _ (n : ℕ) (made : DefId → List CoreTree → CoreTree) (call : DefId → List Value → Value) (sorted : CompilesSorted n made) (values : GiveValues d i n call) (given : GiveMeaning n made call) (read : ReadsSorts) (field_terms : FieldTerms) where
    -- the environments: core terms and values of the sorts, each term meaning its value
    pub record Environment (trees : List CoreTree) (env : List Value) (sorts : List SortId) : Type 0 where
      pub terms_sorted : AllZip (HasTreeSort d) trees sorts
      pub values_sorted : AllZip (HasValueSort d i.graph) env sorts
      pub mean : AllZip (Means d i) trees env

    abbrev bound_environment : (ts : List CoreTree) (vs : List Value) (ss : List SortId) (trees : List CoreTree) (env : List Value) (sorts : List SortId) → Environment ts vs ss → Environment trees env sorts → Environment (bind ts trees) (bind vs env) (bind ss sorts)
    bound_environment ts vs ss trees env sorts new old = record {
      terms_sorted = AllZip-bind (HasTreeSort d) ts ss trees sorts new.terms_sorted old.terms_sorted;
      values_sorted = AllZip-bind (HasValueSort d i.graph) vs ss env sorts new.values_sorted old.values_sorted;
      mean = AllZip-bind (Means d i) ts vs trees env new.mean old.mean;
    }

    -- closed values of the sorts, as terms and as values
    chosen_environment : (ss : List SortId) (vs : List ClosedValue) → AllZip (IsClosedOf d) vs ss → Environment (map term_of vs) (map value_of vs) ss
    chosen_environment ss vs h = record {
      terms_sorted = closed_terms vs ss h;
      values_sorted = closed_values vs ss h;
      mean = closed_mean vs;
    }

    -- the meaning of a formula has its sort
    has_value : (t : Formula) (trees : List CoreTree) (env : List Value) (sorts : List SortId) (sort : SortId) → Environment trees env sorts → MentionsBelow n t → IsSorted d sorts t sort → HasValueSort d i.graph (meaning d i call env t) sort
    has_value t trees env sorts sort e m h = meaning_sorted d i facts n call values t env sorts sort e.values_sorted m h

    values_boolean : (ts : Formulas) (trees : List CoreTree) (env : List Value) (sorts : List SortId) (s : SortId) → Environment trees env sorts → AllMentionBelow n ts → AreOfSort d sorts ts s → AllByRecursion (λ v. HasValueSort d i.graph v s) (meanings d i call env ts)
    values_boolean no_formulas trees env sorts s e m h = tt
    values_boolean (with_formula t ts) trees env sorts s e m h = (has_value t trees env sorts s e m.0 h.0, values_boolean ts trees env sorts s e m.1 h.1)

    -- the environment of several formulas
    terms_of_all : (ts : Formulas) (trees : List CoreTree) (env : List Value) (sorts ss : List SortId) → Environment trees env sorts → AllMentionBelow n ts → AllSorted d sorts ts ss → AllZip (HasTreeSort d) (compiled_all d made trees ts) ss
    terms_of_all no_formulas trees env sorts [] e m h = tt
    terms_of_all no_formulas trees env sorts (s ∷ ss) e m h = absurd h
    terms_of_all (with_formula t ts) trees env sorts [] e m h = absurd h
    terms_of_all (with_formula t ts) trees env sorts (s ∷ ss) e m h = (sorted t trees sorts s e.terms_sorted m.0 h.0, terms_of_all ts trees env sorts ss e m.1 h.1)

    values_of_all : (ts : Formulas) (trees : List CoreTree) (env : List Value) (sorts ss : List SortId) → Environment trees env sorts → AllMentionBelow n ts → AllSorted d sorts ts ss → AllZip (HasValueSort d i.graph) (meanings d i call env ts) ss
    values_of_all no_formulas trees env sorts [] e m h = tt
    values_of_all no_formulas trees env sorts (s ∷ ss) e m h = absurd h
    values_of_all (with_formula t ts) trees env sorts [] e m h = absurd h
    values_of_all (with_formula t ts) trees env sorts (s ∷ ss) e m h = (has_value t trees env sorts s e m.0 h.0, values_of_all ts trees env sorts ss e m.1 h.1)

    -- terms and values of one sort, one for one
    of_one : (ts : Formulas) (trees : List CoreTree) (env : List Value) (sorts : List SortId) (s : SortId) → Environment trees env sorts → AllMentionBelow n ts → AreOfSort d sorts ts s → AllZip (Means d i) (compiled_all d made trees ts) (meanings d i call env ts) → AreOfOne d i facts s (compiled_all d made trees ts) (meanings d i call env ts)
    of_one no_formulas trees env sorts s e m h k = tt
    of_one (with_formula t ts) trees env sorts s e m h k =
        let of = sorted t trees sorts s e.terms_sorted m.0 h.0 in
        ((of, read s (compiled d made trees t) of, has_value t trees env sorts s e m.0 h.0, k.0), of_one ts trees env sorts s e m.1 h.1 k.1)

    -- one case: a test, the body, and the rest
    case_means : (cases : Cases) (sure b : Bool) (t u w : CoreTree) (x y : Value) → is_true i.graph (tree_value d i t) ≡ b → (b ≡ true → Means d i u x) → (b ≡ false → sure ≡ true → ⊥) → (b ≡ false → are_none cases ≡ true → ⊥) → (b ≡ false → Means d i w y) → Means d i (if sure || are_none cases then u else choice t u w) (if b then x else y)
    case_means cases sure true t u w x y is first not_sure not_last rest =
        by_test (λ (r : CoreTree). Means d i r x) (sure || are_none cases) u (choice t u w) (λ e. first refl)
        (λ e. subst (λ (c : Bool). Agree i (if c then tree_value d i u else tree_value d i w) x) (sym is) (first refl))
    case_means cases true false t u w x y is first not_sure not_last rest = absurd (not_sure refl refl)
    case_means no_cases false false t u w x y is first not_sure not_last rest = absurd (not_last refl refl)
    case_means (with_case p body cases) false false t u w x y is first not_sure not_last rest =
        subst (λ (c : Bool). Agree i (if c then tree_value d i u else tree_value d i w) y) (sym is) (rest refl)

    -- what a case of the constructor binds
    case_environment : (c : CtorId) (ctor : Constructor) (t : CoreTree) (v : Value) (side : SortId) (ss : List SortId) (k : CtorId) → Stands t v side → head_of i.graph v ≡ Some (heads.Con k) → is_built i.graph c v ≡ true → slice_get d.ctors c.0 ≡ Some ctor → ctor.sort ≡ side → AreFieldSorts d ctor.sels ss → Environment (fields_of d c t) (children_of i.graph v) ss
    case_environment c ctor t v side ss k stands head built at_c of_c fields =
        let values = bound_sorted d i facts (Ctor c) v side ss k stands.value_sorted head built (ctor, at_c, of_c, fields) in
        record {
          terms_sorted = field_terms c ctor t ss at_c (subst (HasTreeSort d t) (sym of_c) stands.term_sorted) fields;
          values_sorted = values;
          mean = fields_mean c ctor ss t v at_c fields stands.means built values;
        }

    -- a case is not the last where it does not fit
    not_last : (p : Pattern) (body : Formula) (cases : Cases) (v : Value) (k : CtorId) → head_of i.graph v ≡ Some (heads.Con k) → fits i.graph p v ≡ false → Covers k (with_case p body cases) → are_none cases ≡ true → ⊥
    not_last p body no_cases v k head misfit covers e = elim (covered_rest d i facts p body no_cases v k head misfit covers) [ inl h ↦ h | inr h ↦ h ]
    not_last p body (with_case q other cases) v k head misfit covers e = true≢false (sym e)

    mutual
      pub compiled_means : (t : Formula) (trees : List CoreTree) (env : List Value) (sorts : List SortId) (sort : SortId) → Environment trees env sorts → MentionsBelow n t → IsSorted d sorts t sort → Means d i (compiled d made trees t) (meaning d i call env t)
      compiled_means (Var k) trees env sorts sort e m h = AllZip-either (Means d i) trees env k no_term (truth false) e.mean (facts.itself (truth false))
      compiled_means (Con c ts) trees env sorts sort e m h =
          facts.joined c (tree_values d i (trees_of (compiled_all d made trees ts))) (meanings d i call env ts)
          (values_mean d i facts (compiled_all d made trees ts) (meanings d i call env ts) (all_mean ts trees env sorts h.1 e m h.4))
      compiled_means (Sel s t) trees env sorts sort e m h =
          select_agrees d i facts s (slice_get d.sels s.0) (tree_value d i (compiled d made trees t)) (meaning d i call env t) (compiled_means t trees env sorts h.1.sort e m h.4)
      compiled_means (Test c t) trees env sorts sort e m h =
          agree_truth d i facts _ _ (built_agrees d i facts c (tree_value d i (compiled d made trees t)) (meaning d i call env t) (compiled_means t trees env sorts h.0.sort e m h.2))
      compiled_means (Apply f ts) trees env sorts sort e m h =
          agree_equal d i facts _ _ (given_agrees d i facts (slice_get i.funs f.0) (tree_values d i (trees_of (compiled_all d made trees ts))) (meanings d i call env ts)
          (values_mean d i facts (compiled_all d made trees ts) (meanings d i call env ts) (all_mean ts trees env sorts h.0.args e m h.2)))
      compiled_means (Def k ts) trees env sorts sort e m h =
          given k h.0 (compiled_all d made trees ts) (meanings d i call env ts) m.0 h.1 (terms_of_all ts trees env sorts h.0.args e m.1 h.2) (values_of_all ts trees env sorts h.0.args e m.1 h.2) (all_mean ts trees env sorts h.0.args e m.1 h.2)
      compiled_means (Not t) trees env sorts sort e m h =
          agree_truth d i facts _ _ (ap not (true_agrees d i facts (tree_value d i (compiled d made trees t)) (meaning d i call env t) (compiled_means t trees env sorts bool_sort e m h.0)))
      compiled_means (And ts) trees env sorts sort e m h =
          all_of_means d i facts (compiled_all d made trees ts) (meanings d i call env ts) (one_mean ts trees env sorts bool_sort e m h.1) (values_boolean ts trees env sorts bool_sort e m h.1)
      compiled_means (Or ts) trees env sorts sort e m h =
          any_of_means d i facts (compiled_all d made trees ts) (meanings d i call env ts) (one_mean ts trees env sorts bool_sort e m h.1) (values_boolean ts trees env sorts bool_sort e m h.1)
      compiled_means (Xor ts) trees env sorts sort e m h =
          exclusive_of_means d i facts (compiled_all d made trees ts) (meanings d i call env ts) (one_mean ts trees env sorts bool_sort e m h.1) (values_boolean ts trees env sorts bool_sort e m h.1)
      compiled_means (Implies no_formulas) trees env sorts sort e m h = absurd h.0
      compiled_means (Implies (with_formula t ts)) trees env sorts sort e m h =
          implication_of_means d i facts (compiled_all d made trees ts) (meanings d i call env ts) (compiled d made trees t) (meaning d i call env t)
          (compiled_means t trees env sorts bool_sort e m.0 h.1.0, one_mean ts trees env sorts bool_sort e m.1 h.1.1)
          (has_value t trees env sorts bool_sort e m.0 h.1.0, values_boolean ts trees env sorts bool_sort e m.1 h.1.1)
      compiled_means (Equal ts) trees env sorts sort e m h =
          agree_equal d i facts _ _ (equal_means d i facts h.0 (compiled_all d made trees ts) (meanings d i call env ts) (of_one ts trees env sorts h.0 e m h.2 (one_mean ts trees env sorts h.0 e m h.2)))
      compiled_means (Distinct ts) trees env sorts sort e m h =
          agree_equal d i facts _ _ (distinct_means d i facts h.0 (compiled_all d made trees ts) (meanings d i call env ts) (of_one ts trees env sorts h.0 e m h.2 (one_mean ts trees env sorts h.0 e m h.2)))
      compiled_means (Ite c t u) trees env sorts sort e m h =
          choice_agrees d i facts (is_true i.graph (tree_value d i (compiled d made trees c))) (is_true i.graph (meaning d i call env c)) (tree_value d i (compiled d made trees t)) (tree_value d i (compiled d made trees u)) (meaning d i call env t) (meaning d i call env u)
          (true_agrees d i facts (tree_value d i (compiled d made trees c)) (meaning d i call env c) (compiled_means c trees env sorts bool_sort e m.0 h.0))
          (compiled_means t trees env sorts sort e m.1 h.1) (compiled_means u trees env sorts sort e m.2 h.2)
      compiled_means (Let ts u) trees env sorts sort e m h =
          let new : Environment (compiled_all d made trees ts) (meanings d i call env ts) h.0 = record {
            terms_sorted = terms_of_all ts trees env sorts h.0 e m.0 h.2;
            values_sorted = values_of_all ts trees env sorts h.0 e m.0 h.2;
            mean = all_mean ts trees env sorts h.0 e m.0 h.2;
          } in
          compiled_means u (bind (compiled_all d made trees ts) trees) (bind (meanings d i call env ts) env) (bind h.0 sorts) sort
          (bound_environment (compiled_all d made trees ts) (meanings d i call env ts) h.0 trees env sorts new e) m.1 h.3
      compiled_means (Match t cases) trees env sorts sort e m h =
          let of = has_value t trees env sorts h.0 e m.0 h.1 in
          let c = facts.matched (meaning d i call env t) h.0 h.2.0 of h.2.1 h.2.2 in
          cases_mean cases trees env sorts h.0 (compiled d made trees t) (meaning d i call env t) [] c.0 c.1 sort e
          (record { term_sorted = sorted t trees sorts h.0 e.terms_sorted m.0 h.1; value_sorted = of; means = compiled_means t trees env sorts h.0 e m.0 h.1 })
          c.2 c.3 c.4 refl (elim h.5 [ inl any ↦ inl any | inr each ↦ inr (each c.0 c.1 c.3 c.4) ]) m.1 h.4
      compiled_means (Quantified q bound t) trees env sorts sort e m h =
          let term : List ClosedValue → CoreTree = λ vs. compiled d made (bind (map term_of vs) trees) t in
          let value : List ClosedValue → Value = λ vs. meaning d i call (bind (map value_of vs) env) t in
          let inner : (vs : List ClosedValue) → Contains (choices_of d bound) vs → Environment (bind (map term_of vs) trees) (bind (map value_of vs) env) (bind bound sorts) =
          λ vs inside. bound_environment (map term_of vs) (map value_of vs) bound trees env sorts (chosen_environment bound vs (facts.chosen bound vs h.0.listable inside)) e in
          joined_means q (map term (choices_of d bound)) (map value (choices_of d bound))
          (zip_mapped (Means d i) term value (choices_of d bound) (λ vs inside. compiled_means t (bind (map term_of vs) trees) (bind (map value_of vs) env) (bind bound sorts) bool_sort (inner vs inside) m h.1))
          (all_mapped (λ v. HasValueSort d i.graph v bool_sort) value (choices_of d bound) (λ vs inside. has_value t (bind (map term_of vs) trees) (bind (map value_of vs) env) (bind bound sorts) bool_sort (inner vs inside) m h.1))

      all_mean : (ts : Formulas) (trees : List CoreTree) (env : List Value) (sorts ss : List SortId) → Environment trees env sorts → AllMentionBelow n ts → AllSorted d sorts ts ss → AllZip (Means d i) (compiled_all d made trees ts) (meanings d i call env ts)
      all_mean no_formulas trees env sorts ss e m h = tt
      all_mean (with_formula t ts) trees env sorts [] e m h = absurd h
      all_mean (with_formula t ts) trees env sorts (s ∷ ss) e m h = (compiled_means t trees env sorts s e m.0 h.0, all_mean ts trees env sorts ss e m.1 h.1)

      one_mean : (ts : Formulas) (trees : List CoreTree) (env : List Value) (sorts : List SortId) (s : SortId) → Environment trees env sorts → AllMentionBelow n ts → AreOfSort d sorts ts s → AllZip (Means d i) (compiled_all d made trees ts) (meanings d i call env ts)
      one_mean no_formulas trees env sorts s e m h = tt
      one_mean (with_formula t ts) trees env sorts s e m h = (compiled_means t trees env sorts s e m.0 h.0, one_mean ts trees env sorts s e m.1 h.1)

      cases_mean : (cases : Cases) (trees : List CoreTree) (env : List Value) (sorts : List SortId) (side : SortId) (t : CoreTree) (v : Value) (earlier : List CtorId) (k : CtorId) (kctor : Constructor) (sort : SortId) → Environment trees env sorts → Stands t v side → head_of i.graph v ≡ Some (heads.Con k) → slice_get d.ctors k.0 ≡ Some kctor → kctor.sort ≡ side → is_among earlier k ≡ false → Covers k cases → CasesMentionBelow n cases → AreSortedCases d sorts side cases sort → Means d i (compiled_cases d made trees t earlier cases) (case_meaning d i call env v cases)
      cases_mean no_cases trees env sorts side t v earlier k kctor sort e stands head declared one absent (inl h) m s = absurd h
      cases_mean no_cases trees env sorts side t v earlier k kctor sort e stands head declared one absent (inr h) m s = absurd h
      cases_mean (with_case Any body cases) trees env sorts side t v earlier k kctor sort e stands head declared one absent covers m s =
          let new : Environment (t ∷ trees) (v ∷ env) (side ∷ sorts) = record {
            terms_sorted = (stands.term_sorted, e.terms_sorted);
            values_sorted = (stands.value_sorted, e.values_sorted);
            mean = (stands.means, e.mean);
          } in
          compiled_means body (t ∷ trees) (v ∷ env) (side ∷ sorts) sort new m.0 (subst (λ (ss : List SortId). IsSorted d (bind ss sorts) body sort) s.0.1 s.0.2)
      cases_mean (with_case (Ctor c) body cases) trees env sorts side t v earlier k kctor sort e stands head declared one absent covers m s =
          let ctor = s.0.1.0 in
          let at_c = s.0.1.1 in
          let of_c = s.0.1.2 in
          let fits_is : is_built i.graph c v ≡ (k.0 == c.0) = head_fits c k (head_of i.graph v) head in
          case_means cases (surely_fits d earlier c) (is_built i.graph c v) (test c t) (compiled d made (bind (fields_of d c t) trees) body) (compiled_cases d made trees t (c ∷ earlier) cases) (meaning d i call (bind (children_of i.graph v) env) body) (case_meaning d i call env v cases)
          (truth_is d i facts (is_built i.graph c (tree_value d i t)) ∙ built_agrees d i facts c (tree_value d i t) v stands.means)
          (λ built.
          let new : Environment (fields_of d c t) (children_of i.graph v) s.0.0 = case_environment c ctor t v side s.0.0 k stands head built at_c of_c s.0.1.3 in
          compiled_means body (bind (fields_of d c t) trees) (bind (children_of i.graph v) env) (bind s.0.0 sorts) sort
          (bound_environment (fields_of d c t) (children_of i.graph v) s.0.0 trees env sorts new e) m.0 s.0.2)
          (λ misfit sure. not_same_number k.0 c.0 (sym fits_is ∙ misfit) (surely earlier c k ctor kctor at_c declared (one ∙ sym of_c) absent sure))
          (λ misfit last. not_last (Ctor c) body cases v k head misfit covers last)
          (λ misfit.
          cases_mean cases trees env sorts side t v (c ∷ earlier) k kctor sort e stands head declared one
          (neither (c.0 == k.0) (is_among earlier k) (other_number c.0 k.0 (λ same. not_same_number k.0 c.0 (sym fits_is ∙ misfit) (sym same))) absent)
          (covered_rest d i facts (Ctor c) body cases v k head misfit covers) m.1 s.1)

  -- so it is with definitions
  module _ (bodies : List Formula) (sound : AreSound d bodies) (read : ReadsSorts) (field_terms : FieldTerms) (compiles : (n : ℕ) → CompilesSorted n (calls_below (compiled d) no_term bodies n)) where
    abbrev made_below : ℕ → DefId → List CoreTree → CoreTree
    made_below n = calls_below (compiled d) no_term bodies n

    abbrev given_below : ℕ → DefId → List Value → Value
    given_below n = calls_below (meaning d i) (truth false) bodies n

    both_ways : (b : Bool) (t u : CoreTree) (v w : Value) → (b ≡ true → Means d i t v) → (b ≡ false → Means d i u w) → Means d i (if b then t else u) (if b then v else w)
    both_ways true t u v w h k = h refl
    both_ways false t u v w h k = k refl

    body_means : (n : ℕ) (definition : Function) (body : Formula) (o : Option Formula) (ts : List CoreTree) (vs : List Value) → GiveMeaning n (made_below n) (given_below n) → o ≡ Some body → slice_get bodies n ≡ Some body → slice_get d.definitions n ≡ Some definition → AllZip (HasTreeSort d) ts definition.args → AllZip (HasValueSort d i.graph) vs definition.args → AllZip (Means d i) ts vs → Means d i (body_call (compiled d) no_term (made_below n) o ts) (body_call (meaning d i) (truth false) (given_below n) o vs)
    body_means n definition body o ts vs give is at declared of_ts of_vs mean =
        subst (λ (x : Option Formula). Means d i (body_call (compiled d) no_term (made_below n) x ts) (body_call (meaning d i) (truth false) (given_below n) x vs)) (sym is)
        (compiled_means n (made_below n) (given_below n) (compiles n) (values_given d i facts bodies sound n) give read field_terms body (bind ts []) (bind vs []) (bind definition.args []) definition.result
        (record {
          terms_sorted = AllZip-bind (HasTreeSort d) ts definition.args [] [] of_ts tt;
          values_sorted = AllZip-bind (HasValueSort d i.graph) vs definition.args [] [] of_vs tt;
          mean = AllZip-bind (Means d i) ts vs [] [] mean tt;
        })
        (sound.earlier n body at) (sound.sorted n definition body declared at))

    calls_mean : (n : ℕ) → GiveMeaning n (made_below n) (given_below n)
    calls_mean zero k definition ts vs below declared of_ts of_vs mean = absurd (omega (arith, below))
    calls_mean (suc n) k definition ts vs below declared of_ts of_vs mean =
        subst (λ (t : CoreTree). Means d i t (given_below (suc n) k vs)) (sym (calls-next (compiled d) no_term bodies n k ts))
        (subst (λ (v : Value). Means d i (if k.0 == n then body_call (compiled d) no_term (made_below n) (slice_get bodies n) ts else made_below n k ts) v) (sym (calls-next (meaning d i) (truth false) bodies n k vs))
        (both_ways (k.0 == n) (body_call (compiled d) no_term (made_below n) (slice_get bodies n) ts) (made_below n k ts) (body_call (meaning d i) (truth false) (given_below n) (slice_get bodies n) vs) (given_below n k vs)
        (λ e.
        let at : slice_get d.definitions n ≡ Some definition = ap (slice_get d.definitions) (sym (same_number k.0 n e)) ∙ declared in
        let body = body_at d i facts bodies sound n definition at in
        body_means n definition body.0 (slice_get bodies n) ts vs (calls_mean n) body.1 body.1 at of_ts of_vs mean)
        (λ e. calls_mean n k definition ts vs (below_next k.0 n below e) declared of_ts of_vs mean)))

    pub core_of_means : (t : Formula) (trees : List CoreTree) (env : List Value) (sorts : List SortId) (sort : SortId) → AllZip (HasTreeSort d) trees sorts → AllZip (HasValueSort d i.graph) env sorts → AllZip (Means d i) trees env → MentionsBelow (length bodies) t → IsSorted d sorts t sort → Means d i (core_of d bodies trees t) (eval d i bodies env t)
    core_of_means t trees env sorts sort of_trees of_env mean m h =
        compiled_means (length bodies) (calls (compiled d) no_term bodies) (calls (meaning d i) (truth false) bodies) (compiles (length bodies)) (values_given d i facts bodies sound (length bodies)) (calls_mean (length bodies)) read field_terms t trees env sorts sort
        (record { terms_sorted = of_trees; values_sorted = of_env; mean = mean }) m h
