-- A formula does not see definitions that it cannot reach, nor declarations that it does not name.
use Rattle.std.proofs.Common.{◌≡◌, ℕ, zero, suc, ◌<◌, ◌≤◌, Bool, true, false, not, ◌==◌, List, [], ◌∷◌, ◌++◌, length, map, Option, Some, slice_get, if◌then◌else◌, refl, sym, ap, subst, ◌∙◌, arith, length-append}
use Rattle.std.specs.List.{list_all, list_any}
use Rattle.std.proofs.lemmas.Option.{slice_get_within}
use Rattle.ct_lemmas.proofs.Booleans.{by_test}
use Rattle.ct_lemmas.proofs.Lists.{slice_get-append_left, slice_get-prefix, slice_get-there}
use Rattle.ct_lemmas.proofs.Numbers.{below_next, same_number}
use Rattle.ct_sorts.specs.declared.ids.DefId.{DefId}
use Rattle.ct_sorts.specs.declared.ids.SelId.{SelId}
use Rattle.ct_sorts.specs.declared.ids.SortId.{SortId}
use Rattle.ct_sorts.specs.Declarations.{Declarations, Selector, Function, bool_sort}
use Rattle.ct_sorts.specs.Grown.{Extends}
use Rattle.ct_values.specs.Value.{Value, construct, values_of}
use Rattle.ct_formulas.specs.Formula.{Formula, Formulas, Cases, Var, Con, Sel, Test, Apply, Def, Not, And, Or, Xor, Implies, Equal, Distinct, Ite, Let, Match, Quantified, no_formulas, with_formula, no_cases, with_case, bind, MentionsBelow, AllMentionBelow, CasesMentionBelow}
use Rattle.ct_formulas.specs.FormulaSorts.{IsSorted, AllSorted, AreOfSort, AreSortedCases, AreSound}
use Rattle.ct_formulas.specs.Calls.{body_call, calls_below, calls}
use Rattle.ct_eval.specs.declared.interp.Interp.{Interp}
use Rattle.ct_values.specs.TruthValue.{truth, is_built, is_true}
use Rattle.ct_eval.specs.Evaluation.{table_value, select}
use Rattle.ct_meaning.specs.Meaning.{xor_all, implies_all, are_chained, are_distinct, holds, fits, matched_values, meaning, meanings, case_meaning, eval}
use Rattle.ct_listing.specs.Closed.{ClosedValue, value_of}
use Rattle.ct_listing.proofs.ListLemmas.{map_same}
use Rattle.ct_formulas.specs.Choices.{choices_of}
use Rattle.ct_formulas.proofs.QuantifierLemmas.{KeepsLists, choices_kept}
use Rattle.ct_meaning.proofs.MeaningSorted.{calls-next}

module _ (later earlier : Declarations) (i : Interp) (extends : Extends later earlier) (keeps : KeepsLists earlier later) where
  -- a declared selector is the same in both
  same_selector : (s : SelId) (selector : Selector) → slice_get earlier.sels s.0 ≡ Some selector → slice_get later.sels s.0 ≡ slice_get earlier.sels s.0
  same_selector s selector declared =
      ap (λ (ss : List Selector). slice_get ss s.0) extends.sels.1 ∙ slice_get-prefix earlier.sels extends.sels.0 s.0 (slice_get_within earlier.sels s.0 selector declared)

  -- the definitions below the number give the same
  abbrev AreAlike : ℕ → (DefId → List Value → Value) → (DefId → List Value → Value) → Type 0
  AreAlike n call other = (k : DefId) (vs : List Value) → k.0 < n → call k vs ≡ other k vs

  module _ (n : ℕ) (call other : DefId → List Value → Value) (alike : AreAlike n call other) where
    mutual
      pub meaning_reaches : (t : Formula) (env : List Value) (sorts : List SortId) (sort : SortId) → MentionsBelow n t → IsSorted earlier sorts t sort → meaning later i call env t ≡ meaning earlier i other env t
      meaning_reaches (Var k) env sorts sort m h = refl
      meaning_reaches (Con c ts) env sorts sort m h = ap (λ (vs : List Value). construct c (values_of vs)) (all_reach ts env sorts h.1 m h.4)
      meaning_reaches (Sel s t) env sorts sort m h =
          ap (select i s (slice_get later.sels s.0)) (meaning_reaches t env sorts h.1.sort m h.4) ∙ ap (λ (o : Option Selector). select i s o (meaning earlier i other env t)) (same_selector s h.0 h.2)
      meaning_reaches (Test c t) env sorts sort m h = ap (λ (v : Value). truth (is_built i.graph c v)) (meaning_reaches t env sorts h.0.sort m h.2)
      meaning_reaches (Apply f ts) env sorts sort m h = ap (table_value i (slice_get i.funs f.0)) (all_reach ts env sorts h.0.args m h.2)
      meaning_reaches (Def k ts) env sorts sort m h = alike k (meanings later i call env ts) m.0 ∙ ap (other k) (all_reach ts env sorts h.0.args m.1 h.2)
      meaning_reaches (Not t) env sorts sort m h = ap (λ (v : Value). truth (not (is_true i.graph v))) (meaning_reaches t env sorts bool_sort m h.0)
      meaning_reaches (And ts) env sorts sort m h = ap (λ (vs : List Value). truth (list_all (is_true i.graph) vs)) (one_reach ts env sorts bool_sort m h.1)
      meaning_reaches (Or ts) env sorts sort m h = ap (λ (vs : List Value). truth (list_any (is_true i.graph) vs)) (one_reach ts env sorts bool_sort m h.1)
      meaning_reaches (Xor ts) env sorts sort m h = ap (λ (vs : List Value). truth (xor_all (map (is_true i.graph) vs))) (one_reach ts env sorts bool_sort m h.1)
      meaning_reaches (Implies ts) env sorts sort m h = ap (λ (vs : List Value). truth (implies_all (map (is_true i.graph) vs))) (one_reach ts env sorts bool_sort m h.1)
      meaning_reaches (Equal ts) env sorts sort m h = ap (λ (vs : List Value). truth (are_chained i.graph vs)) (one_reach ts env sorts h.0 m h.2)
      meaning_reaches (Distinct ts) env sorts sort m h = ap (λ (vs : List Value). truth (are_distinct i.graph vs)) (one_reach ts env sorts h.0 m h.2)
      meaning_reaches (Ite c t u) env sorts sort m h =
          let ite : Value → Value → Value → Value = λ v w x. if is_true i.graph v then w else x in
          ap (λ (v : Value). ite v (meaning later i call env t) (meaning later i call env u)) (meaning_reaches c env sorts bool_sort m.0 h.0)
          ∙ ap (λ (v : Value). ite (meaning earlier i other env c) v (meaning later i call env u)) (meaning_reaches t env sorts sort m.1 h.1)
          ∙ ap (λ (v : Value). ite (meaning earlier i other env c) (meaning earlier i other env t) v) (meaning_reaches u env sorts sort m.2 h.2)
      meaning_reaches (Let ts u) env sorts sort m h =
          meaning_reaches u (bind (meanings later i call env ts) env) (bind h.0 sorts) sort m.1 h.3
          ∙ ap (λ (vs : List Value). meaning earlier i other (bind vs env) u) (all_reach ts env sorts h.0 m.0 h.2)
      meaning_reaches (Match t cases) env sorts sort m h =
          cases_reach cases env sorts h.0 (meaning later i call env t) sort m.1 h.4
          ∙ ap (λ (v : Value). case_meaning earlier i other env v cases) (meaning_reaches t env sorts h.0 m.0 h.1)
      meaning_reaches (Quantified q bound t) env sorts sort m h =
          let new : List ClosedValue → Value = λ vs. meaning later i call (bind (map value_of vs) env) t in
          let old : List ClosedValue → Value = λ vs. meaning earlier i other (bind (map value_of vs) env) t in
          ap (λ (vss : List (List ClosedValue)). truth (holds q i.graph (map new vss))) (choices_kept earlier later keeps bound h.0.listable)
          ∙ ap (λ (vs : List Value). truth (holds q i.graph vs)) (map_same new old (choices_of earlier bound) (λ vs inside. meaning_reaches t (bind (map value_of vs) env) (bind bound sorts) bool_sort m h.1))

      all_reach : (ts : Formulas) (env : List Value) (sorts ss : List SortId) → AllMentionBelow n ts → AllSorted earlier sorts ts ss → meanings later i call env ts ≡ meanings earlier i other env ts
      all_reach no_formulas env sorts ss m h = refl
      all_reach (with_formula t ts) env sorts [] m h = absurd h
      all_reach (with_formula t ts) env sorts (s ∷ ss) m h =
          ap (λ (v : Value). v ∷ meanings later i call env ts) (meaning_reaches t env sorts s m.0 h.0) ∙ ap (λ (vs : List Value). meaning earlier i other env t ∷ vs) (all_reach ts env sorts ss m.1 h.1)

      one_reach : (ts : Formulas) (env : List Value) (sorts : List SortId) (s : SortId) → AllMentionBelow n ts → AreOfSort earlier sorts ts s → meanings later i call env ts ≡ meanings earlier i other env ts
      one_reach no_formulas env sorts s m h = refl
      one_reach (with_formula t ts) env sorts s m h =
          ap (λ (v : Value). v ∷ meanings later i call env ts) (meaning_reaches t env sorts s m.0 h.0) ∙ ap (λ (vs : List Value). meaning earlier i other env t ∷ vs) (one_reach ts env sorts s m.1 h.1)

      cases_reach : (cases : Cases) (env : List Value) (sorts : List SortId) (side : SortId) (v : Value) (sort : SortId) → CasesMentionBelow n cases → AreSortedCases earlier sorts side cases sort → case_meaning later i call env v cases ≡ case_meaning earlier i other env v cases
      cases_reach no_cases env sorts side v sort m h = refl
      cases_reach (with_case p body cases) env sorts side v sort m h =
          ap (λ (w : Value). if fits i.graph p v then w else case_meaning later i call env v cases) (meaning_reaches body (bind (matched_values i.graph p v) env) (bind h.0.0 sorts) sort m.0 h.0.2)
          ∙ ap (λ (w : Value). if fits i.graph p v then meaning earlier i other (bind (matched_values i.graph p v) env) body else w) (cases_reach cases env sorts side v sort m.1 h.1)

  -- with more definitions after those that are there, these give the same
  module _ (bodies more : List Formula) (sound : AreSound earlier bodies) where
    body_alike : (n : ℕ) (definition : Function) (body : Formula) (vs : List Value) → AreAlike n (calls_below (meaning later i) (truth false) (bodies ++ more) n) (calls_below (meaning earlier i) (truth false) bodies n) → slice_get earlier.definitions n ≡ Some definition → slice_get bodies n ≡ Some body → body_call (meaning later i) (truth false) (calls_below (meaning later i) (truth false) (bodies ++ more) n) (slice_get (bodies ++ more) n) vs ≡ body_call (meaning earlier i) (truth false) (calls_below (meaning earlier i) (truth false) bodies n) (slice_get bodies n) vs
    body_alike n definition body vs alike declared at =
        ap (λ (o : Option Formula). body_call (meaning later i) (truth false) (calls_below (meaning later i) (truth false) (bodies ++ more) n) o vs) (slice_get-append_left bodies more n body at)
        ∙ meaning_reaches n (calls_below (meaning later i) (truth false) (bodies ++ more) n) (calls_below (meaning earlier i) (truth false) bodies n) alike body (bind vs []) (bind definition.args []) definition.result (sound.earlier n body at) (sound.sorted n definition body declared at)
        ∙ ap (λ (o : Option Formula). body_call (meaning earlier i) (truth false) (calls_below (meaning earlier i) (truth false) bodies n) o vs) (sym at)

    calls_alike : (n : ℕ) → n ≤ length bodies → AreAlike n (calls_below (meaning later i) (truth false) (bodies ++ more) n) (calls_below (meaning earlier i) (truth false) bodies n)
    calls_alike zero within k vs below = absurd (omega (arith, below))
    calls_alike (suc n) within k vs below =
        let body = slice_get-there bodies n (omega (arith, within)) in
        let definition = slice_get-there earlier.definitions n (subst (λ (m : ℕ). n < m) sound.one_each (omega (arith, within))) in
        let before = calls_alike n (omega (arith, within)) in
        calls-next (meaning later i) (truth false) (bodies ++ more) n k vs
        ∙ by_test (λ (v : Value). v ≡ calls_below (meaning earlier i) (truth false) bodies (suc n) k vs) (k.0 == n) _ _
        (λ e. body_alike n definition.0 body.0 vs before definition.1 body.1 ∙ sym (picked n k vs e))
        (λ e. before k vs (below_next k.0 n below e) ∙ sym (passed n k vs e))
      where
        picked : (n : ℕ) (k : DefId) (vs : List Value) → (k.0 == n) ≡ true → calls_below (meaning earlier i) (truth false) bodies (suc n) k vs ≡ body_call (meaning earlier i) (truth false) (calls_below (meaning earlier i) (truth false) bodies n) (slice_get bodies n) vs
        picked n k vs e = calls-next (meaning earlier i) (truth false) bodies n k vs ∙ ap (λ (b : Bool). if b then body_call (meaning earlier i) (truth false) (calls_below (meaning earlier i) (truth false) bodies n) (slice_get bodies n) vs else calls_below (meaning earlier i) (truth false) bodies n k vs) e

        passed : (n : ℕ) (k : DefId) (vs : List Value) → (k.0 == n) ≡ false → calls_below (meaning earlier i) (truth false) bodies (suc n) k vs ≡ calls_below (meaning earlier i) (truth false) bodies n k vs
        passed n k vs e = calls-next (meaning earlier i) (truth false) bodies n k vs ∙ ap (λ (b : Bool). if b then body_call (meaning earlier i) (truth false) (calls_below (meaning earlier i) (truth false) bodies n) (slice_get bodies n) vs else calls_below (meaning earlier i) (truth false) bodies n k vs) e

    -- bounds above a definition's number give the same
    bounded_calls : (k : DefId) (vs : List Value) (n : ℕ) → k.0 < n → calls_below (meaning later i) (truth false) (bodies ++ more) n k vs ≡ calls_below (meaning later i) (truth false) (bodies ++ more) (suc k.0) k vs
    bounded_calls k vs zero below = absurd (omega (arith, below))
    bounded_calls k vs (suc n) below =
        calls-next (meaning later i) (truth false) (bodies ++ more) n k vs
        ∙ by_test (λ (v : Value). v ≡ calls_below (meaning later i) (truth false) (bodies ++ more) (suc k.0) k vs) (k.0 == n) _ _
        (λ e. sym (calls-next (meaning later i) (truth false) (bodies ++ more) n k vs ∙ ap (λ (b : Bool). if b then body_call (meaning later i) (truth false) (calls_below (meaning later i) (truth false) (bodies ++ more) n) (slice_get (bodies ++ more) n) vs else calls_below (meaning later i) (truth false) (bodies ++ more) n k vs) e) ∙ ap (λ (m : ℕ). calls_below (meaning later i) (truth false) (bodies ++ more) (suc m) k vs) (sym (same_number k.0 n e)))
        (λ e. bounded_calls k vs n (below_next k.0 n below e))

    -- the meaning of a formula over the definitions that are there stays
    pub eval_reaches : (t : Formula) (env : List Value) (sorts : List SortId) (sort : SortId) → MentionsBelow (length bodies) t → IsSorted earlier sorts t sort → eval later i (bodies ++ more) env t ≡ eval earlier i bodies env t
    eval_reaches t env sorts sort m h =
        meaning_reaches (length bodies) (calls (meaning later i) (truth false) (bodies ++ more)) (calls (meaning earlier i) (truth false) bodies)
        (λ k vs below.
        bounded_calls k vs (length (bodies ++ more)) (longer k.0 below)
        ∙ sym (bounded_calls k vs (length bodies) below)
        ∙ calls_alike (length bodies) (omega arith) k vs below)
        t env sorts sort m h
      where
        longer : (k : ℕ) → k < length bodies → k < length (bodies ++ more)
        longer k below = omega (arith, below, length-append bodies more)
