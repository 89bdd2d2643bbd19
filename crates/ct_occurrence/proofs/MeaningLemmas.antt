-- The meaning of a formula sees no definition but those that it names.
use Rattle.std.proofs.Common.{◌≡◌, not, List, ◌∷◌, map, slice_get, if◌then◌else◌, refl, ap, ◌∙◌}
use Rattle.std.specs.List.{list_all, list_any}
use Rattle.ct_sorts.specs.declared.ids.DefId.{DefId}
use Rattle.ct_sorts.specs.Declarations.{Declarations}
use Rattle.ct_values.specs.Value.{Value, construct, values_of}
use Rattle.ct_values.specs.TruthValue.{truth, is_built, is_true}
use Rattle.ct_listing.specs.Closed.{value_of}
use Rattle.ct_listing.proofs.ListLemmas.{map_same}
use Rattle.ct_formulas.specs.Choices.{choices_of}
use Rattle.ct_formulas.specs.Formula.{Formula, Formulas, Cases, Var, Con, Sel, Test, Apply, Def, Not, And, Or, Xor, Implies, Equal, Distinct, Ite, Let, Match, Quantified, no_formulas, with_formula, no_cases, with_case, bind}
use Rattle.ct_eval.specs.declared.interp.Interp.{Interp}
use Rattle.ct_eval.specs.Evaluation.{table_value, select}
use Rattle.ct_meaning.specs.Meaning.{xor_all, implies_all, are_chained, are_distinct, holds, fits, matched_values, meaning, meanings, case_meaning}
use Rattle.ct_occurrence.specs.Calls.{CallsAre, AllCallsAre, CaseCallsAre}
use Rattle.ct_occurrence.proofs.CallLemmas.{GiveSame, SeesNamed}

module _ (d : Declarations) (i : Interp) (P : DefId → Type 0) where
  module _ (call other : DefId → List Value → Value) (give : GiveSame P call other) where
    mutual
      one_same : (t : Formula) (env : List Value) → CallsAre P t → meaning d i call env t ≡ meaning d i other env t
      one_same (Var k) env h = refl
      one_same (Con c ts) env h = ap (λ (vs : List Value). construct c (values_of vs)) (all_same ts env h)
      one_same (Sel s t) env h = ap (select i s (slice_get d.sels s.0)) (one_same t env h)
      one_same (Test c t) env h = ap (λ (v : Value). truth (is_built i.graph c v)) (one_same t env h)
      one_same (Apply f ts) env h = ap (table_value i (slice_get i.funs f.0)) (all_same ts env h)
      one_same (Def k ts) env h = give k (meanings d i call env ts) h.0 ∙ ap (other k) (all_same ts env h.1)
      one_same (Not t) env h = ap (λ (v : Value). truth (not (is_true i.graph v))) (one_same t env h)
      one_same (And ts) env h = ap (λ (vs : List Value). truth (list_all (is_true i.graph) vs)) (all_same ts env h)
      one_same (Or ts) env h = ap (λ (vs : List Value). truth (list_any (is_true i.graph) vs)) (all_same ts env h)
      one_same (Xor ts) env h = ap (λ (vs : List Value). truth (xor_all (map (is_true i.graph) vs))) (all_same ts env h)
      one_same (Implies ts) env h = ap (λ (vs : List Value). truth (implies_all (map (is_true i.graph) vs))) (all_same ts env h)
      one_same (Equal ts) env h = ap (λ (vs : List Value). truth (are_chained i.graph vs)) (all_same ts env h)
      one_same (Distinct ts) env h = ap (λ (vs : List Value). truth (are_distinct i.graph vs)) (all_same ts env h)
      one_same (Ite c t u) env h =
          let ite : Value → Value → Value → Value = λ v w x. if is_true i.graph v then w else x in
          ap (λ (v : Value). ite v (meaning d i call env t) (meaning d i call env u)) (one_same c env h.0)
          ∙ ap (λ (v : Value). ite (meaning d i other env c) v (meaning d i call env u)) (one_same t env h.1)
          ∙ ap (λ (v : Value). ite (meaning d i other env c) (meaning d i other env t) v) (one_same u env h.2)
      one_same (Let ts u) env h =
          one_same u (bind (meanings d i call env ts) env) h.1 ∙ ap (λ (vs : List Value). meaning d i other (bind vs env) u) (all_same ts env h.0)
      one_same (Match t cases) env h =
          cases_same cases env (meaning d i call env t) h.1 ∙ ap (λ (v : Value). case_meaning d i other env v cases) (one_same t env h.0)
      one_same (Quantified q sorts t) env h =
          ap (λ (vs : List Value). truth (holds q i.graph vs)) (map_same (λ vs. meaning d i call (bind (map value_of vs) env) t) (λ vs. meaning d i other (bind (map value_of vs) env) t) (choices_of d sorts) (λ vs inside. one_same t (bind (map value_of vs) env) h))

      all_same : (ts : Formulas) (env : List Value) → AllCallsAre P ts → meanings d i call env ts ≡ meanings d i other env ts
      all_same no_formulas env h = refl
      all_same (with_formula t ts) env h =
          ap (λ (v : Value). v ∷ meanings d i call env ts) (one_same t env h.0) ∙ ap (λ (vs : List Value). meaning d i other env t ∷ vs) (all_same ts env h.1)

      cases_same : (cases : Cases) (env : List Value) (v : Value) → CaseCallsAre P cases → case_meaning d i call env v cases ≡ case_meaning d i other env v cases
      cases_same no_cases env v h = refl
      cases_same (with_case p body cases) env v h =
          ap (λ (w : Value). if fits i.graph p v then w else case_meaning d i call env v cases) (one_same body (bind (matched_values i.graph p v) env) h.0)
          ∙ ap (λ (w : Value). if fits i.graph p v then meaning d i other (bind (matched_values i.graph p v) env) body else w) (cases_same cases env v h.1)

  pub meaning_sees_named : SeesNamed P (meaning d i)
  meaning_sees_named call other t env give h = one_same call other give t env h
