-- The meaning of a well-sorted formula is a value of its sort.
use Rattle.std.proofs.Common.{◌≡◌, ◌⊎◌, ℕ, zero, suc, ◌<◌, Bool, true, false, ◌==◌, List, [], ◌∷◌, length, Option, Some, unwrap_or, slice_get, if◌then◌else◌, refl, sym, ap, subst, ◌∙◌, inl, inr, arith, true≢false}
use Rattle.std.specs.List.{AllZip}
use Rattle.std.proofs.lemmas.Option.{slice_get_within}
use Rattle.std.proofs.lemmas.Bool.Decides.{Decides-eqb}
use Rattle.ct_lemmas.proofs.Booleans.{by_test}
use Rattle.ct_lemmas.proofs.Lists.{slice_get-there}
use Rattle.ct_lemmas.proofs.Numbers.{below_next, same_number}
use Rattle.ct_lemmas.proofs.Pairs.{AllZip-at_right}
use Rattle.ct_sorts.specs.declared.ids.CtorId.{CtorId}
use Rattle.ct_sorts.specs.declared.ids.DefId.{DefId}
use Rattle.ct_sorts.specs.declared.ids.SortId.{SortId}
use Rattle.ct_sorts.specs.Declarations.{Declarations, Function, bool_sort}
use Rattle.ct_values.specs.declared.node.Head.{Head}
use Rattle.ct_values.specs.declared.node.Head.TheVariants as heads
use Rattle.ct_values.specs.Value.{Value, construct, values_of}
use Rattle.ct_values.specs.Agreement.{head_of}
use Rattle.ct_values.specs.ValueSort.{HasValueSort}
use Rattle.ct_formulas.specs.declared.tree.Pattern.{Pattern}
use Rattle.ct_formulas.specs.declared.tree.Pattern.TheVariants.{Ctor, Any}
use Rattle.ct_formulas.specs.Formula.{Formula, Formulas, Cases, Var, Con, Sel, Test, Apply, Def, Not, And, Or, Xor, Implies, Equal, Distinct, Ite, Let, Match, Quantified, no_formulas, with_formula, no_cases, with_case, bind, MentionsBelow, AllMentionBelow, CasesMentionBelow}
use Rattle.ct_formulas.specs.FormulaSorts.{BindsSorts, HasPattern, IsSorted, AllSorted, AreSortedCases, AreSound}
use Rattle.ct_formulas.specs.Calls.{body_call, calls_below, calls}
use Rattle.ct_eval.specs.declared.interp.Interp.{Interp}
use Rattle.ct_values.specs.TruthValue.{truth, is_head, is_built, is_true}
use Rattle.ct_eval.specs.Evaluation.{select}
use Rattle.ct_meaning.specs.Meaning.{fits, matched_values, meaning, meanings, case_meaning, eval}
use Rattle.ct_meaning.proofs.MeaningFacts.{Facts, AllZip-bind}

pub other_number : (k n : ℕ) → (k ≡ n → ⊥) → (k == n) ≡ false
other_number k n other = by (k == n) refl
  where
    by : (b : Bool) → (k == n) ≡ b → (k == n) ≡ false
    by true e = absurd (other (same_number k n e))
    by false e = e

-- what a definition gives below the next number
pub calls-next : {X : Type 0} (read : (DefId → List X → X) → List X → Formula → X) (other : X) (bodies : List Formula) (n : ℕ) (k : DefId) (args : List X) → calls_below read other bodies (suc n) k args ≡ (if k.0 == n then body_call read other (calls_below read other bodies n) (slice_get bodies n) args else calls_below read other bodies n k args)
unfolding calls_below
calls-next read other bodies n k args = refl

-- a case that fits a value of this head has its constructor, or is for every value
pub head_fits : (c k : CtorId) (o : Option Head) → o ≡ Some (heads.Con k) → is_head c o ≡ (k.0 == c.0)
head_fits c k o e = ap (is_head c) e

-- some case fits the values of the constructor
abbrev pub Covers : CtorId → Cases → Type 0
Covers k cases = HasPattern Any cases ⊎ HasPattern (Ctor k) cases

-- definitions below the number give values of their results for values of their parameters' sorts
abbrev pub GiveValues : Declarations → Interp → ℕ → (DefId → List Value → Value) → Type 0
GiveValues d i n call = (k : DefId) (definition : Function) (vs : List Value) → k.0 < n → slice_get d.definitions k.0 ≡ Some definition → AllZip (HasValueSort d i.graph) vs definition.args → HasValueSort d i.graph (call k vs) definition.result

module _ (d : Declarations) (i : Interp) (facts : Facts d i) where
  -- the value is of this sort
  abbrev Of : SortId → Value → Type 0
  Of s v = HasValueSort d i.graph v s

  answer : (b : Bool) (sort : SortId) → bool_sort ≡ sort → HasValueSort d i.graph (truth b) sort
  answer b sort is = subst (HasValueSort d i.graph (truth b)) is (facts.truth_sorted b)

  -- what a pattern that fits binds has the sorts that the pattern binds
  pub bound_sorted : (p : Pattern) (v : Value) (side : SortId) (sorts : List SortId) (k : CtorId) → HasValueSort d i.graph v side → head_of i.graph v ≡ Some (heads.Con k) → fits i.graph p v ≡ true → BindsSorts d side p sorts → AllZip (HasValueSort d i.graph) (matched_values i.graph p v) sorts
  bound_sorted (Ctor c) v side sorts k of head fit binds =
      let same : k.0 ≡ c.0 = same_number k.0 c.0 (sym (head_fits c k (head_of i.graph v) head) ∙ fit) in
      let id : ℕ → CtorId = λ n. record { 0 = n } in
      facts.fields v side c binds.0 sorts of (head ∙ ap (λ (n : ℕ). Some (heads.Con (id n))) same) binds.1 binds.3
  bound_sorted Any v side sorts k of head fit binds = subst (AllZip (HasValueSort d i.graph) (v ∷ [])) (sym binds) (of, tt)

  -- a case that does not fit covers nothing
  pub covered_rest : (p : Pattern) (body : Formula) (cases : Cases) (v : Value) (k : CtorId) → head_of i.graph v ≡ Some (heads.Con k) → fits i.graph p v ≡ false → Covers k (with_case p body cases) → Covers k cases
  covered_rest p body cases v k head misfit (inl (inl any)) = absurd (true≢false (ap (λ (q : Pattern). fits i.graph q v) any ∙ misfit))
  covered_rest p body cases v k head misfit (inl (inr rest)) = inl rest
  covered_rest p body cases v k head misfit (inr (inl ctor)) =
      absurd (true≢false (sym ((Decides-eqb k.0 k.0).1 refl) ∙ sym (head_fits k k (head_of i.graph v) head) ∙ ap (λ (q : Pattern). fits i.graph q v) ctor ∙ misfit))
  covered_rest p body cases v k head misfit (inr (inr rest)) = inr rest

  module _ (n : ℕ) (call : DefId → List Value → Value) (give : GiveValues d i n call) where
    mutual
      pub meaning_sorted : (t : Formula) (env : List Value) (sorts : List SortId) (sort : SortId) → AllZip (HasValueSort d i.graph) env sorts → MentionsBelow n t → IsSorted d sorts t sort → HasValueSort d i.graph (meaning d i call env t) sort
      meaning_sorted (Var k) env sorts sort fit m h =
          let found = AllZip-at_right (HasValueSort d i.graph) env sorts k sort fit h in
          subst (λ (o : Option Value). HasValueSort d i.graph (unwrap_or o (truth false)) sort) (sym found.1) found.2
      meaning_sorted (Con c ts) env sorts sort fit m h =
          subst (HasValueSort d i.graph (construct c (values_of (meanings d i call env ts)))) h.5 (facts.construct_sorted c h.0 h.1 (meanings d i call env ts) h.2 h.3 (all_sorted ts env sorts h.1 fit m h.4))
      meaning_sorted (Sel s t) env sorts sort fit m h =
          subst (HasValueSort d i.graph (select i s (slice_get d.sels s.0) (meaning d i call env t))) h.5 (facts.select_sorted s h.0 h.1 (meaning d i call env t) h.2 h.3 (meaning_sorted t env sorts h.1.sort fit m h.4))
      meaning_sorted (Test c t) env sorts sort fit m h = answer (is_built i.graph c (meaning d i call env t)) sort h.3
      meaning_sorted (Apply f ts) env sorts sort fit m h = subst (HasValueSort d i.graph (meaning d i call env (Apply f ts))) h.3 (facts.given_sorted f h.0 (meanings d i call env ts) h.1)
      meaning_sorted (Def k ts) env sorts sort fit m h =
          subst (HasValueSort d i.graph (call k (meanings d i call env ts))) h.3 (give k h.0 (meanings d i call env ts) m.0 h.1 (all_sorted ts env sorts h.0.args fit m.1 h.2))
      meaning_sorted (Not t) env sorts sort fit m h = answer _ sort h.1
      meaning_sorted (And ts) env sorts sort fit m h = answer _ sort h.2
      meaning_sorted (Or ts) env sorts sort fit m h = answer _ sort h.2
      meaning_sorted (Xor ts) env sorts sort fit m h = answer _ sort h.2
      meaning_sorted (Implies ts) env sorts sort fit m h = answer _ sort h.2
      meaning_sorted (Equal ts) env sorts sort fit m h = answer _ sort h.3
      meaning_sorted (Distinct ts) env sorts sort fit m h = answer _ sort h.3
      meaning_sorted (Ite c t u) env sorts sort fit m h =
          by_test (Of sort) (is_true i.graph (meaning d i call env c)) (meaning d i call env t) (meaning d i call env u)
          (λ e. meaning_sorted t env sorts sort fit m.1 h.1) (λ e. meaning_sorted u env sorts sort fit m.2 h.2)
      meaning_sorted (Let ts u) env sorts sort fit m h =
          meaning_sorted u (bind (meanings d i call env ts) env) (bind h.0 sorts) sort
          (AllZip-bind (HasValueSort d i.graph) (meanings d i call env ts) h.0 env sorts (all_sorted ts env sorts h.0 fit m.0 h.2) fit) m.1 h.3
      meaning_sorted (Match t cases) env sorts sort fit m h =
          let v = meaning d i call env t in
          let of = meaning_sorted t env sorts h.0 fit m.0 h.1 in
          let c = facts.matched v h.0 h.2.0 of h.2.1 h.2.2 in
          cases_sorted cases env sorts h.0 v c.0 sort fit of c.2
          (elim h.5 [ inl any ↦ inl any | inr each ↦ inr (each c.0 c.1 c.3 c.4) ]) m.1 h.4
      meaning_sorted (Quantified q bound t) env sorts sort fit m h = answer _ sort h.2

      all_sorted : (ts : Formulas) (env : List Value) (sorts ss : List SortId) → AllZip (HasValueSort d i.graph) env sorts → AllMentionBelow n ts → AllSorted d sorts ts ss → AllZip (HasValueSort d i.graph) (meanings d i call env ts) ss
      all_sorted no_formulas env sorts [] fit m h = tt
      all_sorted no_formulas env sorts (s ∷ ss) fit m h = absurd h
      all_sorted (with_formula t ts) env sorts [] fit m h = absurd h
      all_sorted (with_formula t ts) env sorts (s ∷ ss) fit m h = (meaning_sorted t env sorts s fit m.0 h.0, all_sorted ts env sorts ss fit m.1 h.1)

      cases_sorted : (cases : Cases) (env : List Value) (sorts : List SortId) (side : SortId) (v : Value) (k : CtorId) (sort : SortId) → AllZip (HasValueSort d i.graph) env sorts → HasValueSort d i.graph v side → head_of i.graph v ≡ Some (heads.Con k) → Covers k cases → CasesMentionBelow n cases → AreSortedCases d sorts side cases sort → HasValueSort d i.graph (case_meaning d i call env v cases) sort
      cases_sorted no_cases env sorts side v k sort fit of head (inl none) m h = absurd none
      cases_sorted no_cases env sorts side v k sort fit of head (inr none) m h = absurd none
      cases_sorted (with_case p body cases) env sorts side v k sort fit of head covers m h =
          by_test (Of sort) (fits i.graph p v) (meaning d i call (bind (matched_values i.graph p v) env) body) (case_meaning d i call env v cases)
          (λ e. meaning_sorted body (bind (matched_values i.graph p v) env) (bind h.0.0 sorts) sort (AllZip-bind (HasValueSort d i.graph) (matched_values i.graph p v) h.0.0 env sorts (bound_sorted p v side h.0.0 k of head e h.0.1) fit) m.0 h.0.2)
          (λ e. cases_sorted cases env sorts side v k sort fit of head (covered_rest p body cases v k head e covers) m.1 h.1)

  module _ (bodies : List Formula) (sound : AreSound d bodies) where
    pub body_at : (k : ℕ) (definition : Function) → slice_get d.definitions k ≡ Some definition → (body : Formula) × (slice_get bodies k ≡ Some body)
    body_at k definition declared = slice_get-there bodies k (subst (λ (m : ℕ). k < m) (sym sound.one_each) (slice_get_within d.definitions k definition declared))

    pub values_given : (n : ℕ) → GiveValues d i n (calls_below (meaning d i) (truth false) bodies n)
    values_given zero k definition vs below declared h = absurd (omega (arith, below))
    values_given (suc n) k definition vs below declared h =
        subst (λ (v : Value). HasValueSort d i.graph v definition.result) (sym (calls-next (meaning d i) (truth false) bodies n k vs))
        (by_test (λ (v : Value). HasValueSort d i.graph v definition.result) (k.0 == n) (body_call (meaning d i) (truth false) (calls_below (meaning d i) (truth false) bodies n) (slice_get bodies n) vs) (calls_below (meaning d i) (truth false) bodies n k vs)
        (λ e.
        let at : slice_get d.definitions n ≡ Some definition = ap (slice_get d.definitions) (sym (same_number k.0 n e)) ∙ declared in
        let body = body_at n definition at in
        subst (λ (o : Option Formula). HasValueSort d i.graph (body_call (meaning d i) (truth false) (calls_below (meaning d i) (truth false) bodies n) o vs) definition.result) (sym body.1)
        (meaning_sorted n (calls_below (meaning d i) (truth false) bodies n) (values_given n) body.0 (bind vs []) (bind definition.args []) definition.result (AllZip-bind (HasValueSort d i.graph) vs definition.args [] [] h tt) (sound.earlier n body.0 body.1) (sound.sorted n definition body.0 at body.1)))
        (λ e. values_given n k definition vs (below_next k.0 n below e) declared h))

    pub eval_sorted : (env : List Value) (sorts : List SortId) (t : Formula) (sort : SortId) → AllZip (HasValueSort d i.graph) env sorts → MentionsBelow (length bodies) t → IsSorted d sorts t sort → HasValueSort d i.graph (eval d i bodies env t) sort
    eval_sorted env sorts t sort fit m h = meaning_sorted (length bodies) (calls (meaning d i) (truth false) bodies) (values_given (length bodies)) t env sorts sort fit m h
