-- The core term of a formula sees no definition but those that it names.
use Rattle.std.proofs.Common.{◌≡◌, ◌||◌, List, [], ◌∷◌, map, if◌then◌else◌, refl, ap, ◌∙◌}
use Rattle.ct_sorts.specs.declared.ids.CtorId.{CtorId}
use Rattle.ct_sorts.specs.declared.ids.DefId.{DefId}
use Rattle.ct_sorts.specs.Declarations.{Declarations}
use Rattle.ct_formulas.specs.declared.tree.Pattern.TheVariants.{Ctor, Any}
use Rattle.ct_terms.specs.CoreTree.{CoreTree, con, sel, test, apply, negation, choice, trees_of}
use Rattle.ct_formulas.specs.Formula.{Formula, Formulas, Cases, Var, Con, Sel, Test, Apply, Def, Not, And, Or, Xor, Implies, Equal, Distinct, Ite, Let, Match, Quantified, no_formulas, with_formula, no_cases, with_case, bind}
use Rattle.ct_listing.specs.Closed.{term_of}
use Rattle.ct_listing.proofs.ListLemmas.{map_same}
use Rattle.ct_formulas.specs.Choices.{choices_of}
use Rattle.ct_formulas.specs.Pairs.{neighbours, pairs}
use Rattle.ct_terms.specs.Fields.{fields_of}
use Rattle.ct_formulas.specs.Compiled.{all_of, any_of, exclusive_of, implication_of, equality, inequality, joined, surely_fits, are_none, compiled, compiled_all, compiled_cases}
use Rattle.ct_occurrence.specs.Calls.{CallsAre, AllCallsAre, CaseCallsAre}
use Rattle.ct_occurrence.proofs.CallLemmas.{GiveSame, SeesNamed}

module _ (d : Declarations) (P : DefId → Type 0) where
  module _ (call other : DefId → List CoreTree → CoreTree) (give : GiveSame P call other) where
    mutual
      one_same : (t : Formula) (env : List CoreTree) → CallsAre P t → compiled d call env t ≡ compiled d other env t
      one_same (Var k) env h = refl
      one_same (Con c ts) env h = ap (λ (us : List CoreTree). con c (trees_of us)) (all_same ts env h)
      one_same (Sel s t) env h = ap (sel s) (one_same t env h)
      one_same (Test c t) env h = ap (test c) (one_same t env h)
      one_same (Apply f ts) env h = ap (λ (us : List CoreTree). apply f (trees_of us)) (all_same ts env h)
      one_same (Def k ts) env h = give k (compiled_all d call env ts) h.0 ∙ ap (other k) (all_same ts env h.1)
      one_same (Not t) env h = ap negation (one_same t env h)
      one_same (And ts) env h = ap all_of (all_same ts env h)
      one_same (Or ts) env h = ap any_of (all_same ts env h)
      one_same (Xor ts) env h = ap exclusive_of (all_same ts env h)
      one_same (Implies ts) env h = ap implication_of (all_same ts env h)
      one_same (Equal ts) env h = ap (λ (us : List CoreTree). all_of (neighbours (equality d) us)) (all_same ts env h)
      one_same (Distinct ts) env h = ap (λ (us : List CoreTree). all_of (pairs (inequality d) us)) (all_same ts env h)
      one_same (Ite c t u) env h =
          ap (λ (x : CoreTree). choice x (compiled d call env t) (compiled d call env u)) (one_same c env h.0)
          ∙ ap (λ (x : CoreTree). choice (compiled d other env c) x (compiled d call env u)) (one_same t env h.1)
          ∙ ap (choice (compiled d other env c) (compiled d other env t)) (one_same u env h.2)
      one_same (Let ts u) env h =
          one_same u (bind (compiled_all d call env ts) env) h.1 ∙ ap (λ (us : List CoreTree). compiled d other (bind us env) u) (all_same ts env h.0)
      one_same (Match t cases) env h =
          cases_same cases env (compiled d call env t) [] h.1 ∙ ap (λ (x : CoreTree). compiled_cases d other env x [] cases) (one_same t env h.0)
      one_same (Quantified q sorts t) env h =
          ap (joined q) (map_same (λ vs. compiled d call (bind (map term_of vs) env) t) (λ vs. compiled d other (bind (map term_of vs) env) t) (choices_of d sorts) (λ vs inside. one_same t (bind (map term_of vs) env) h))

      all_same : (ts : Formulas) (env : List CoreTree) → AllCallsAre P ts → compiled_all d call env ts ≡ compiled_all d other env ts
      all_same no_formulas env h = refl
      all_same (with_formula t ts) env h =
          ap (λ (x : CoreTree). x ∷ compiled_all d call env ts) (one_same t env h.0) ∙ ap (λ (us : List CoreTree). compiled d other env t ∷ us) (all_same ts env h.1)

      cases_same : (cases : Cases) (env : List CoreTree) (t : CoreTree) (earlier : List CtorId) → CaseCallsAre P cases → compiled_cases d call env t earlier cases ≡ compiled_cases d other env t earlier cases
      cases_same no_cases env t earlier h = refl
      cases_same (with_case Any body cases) env t earlier h = one_same body (t ∷ env) h.0
      cases_same (with_case (Ctor c) body cases) env t earlier h =
          let fields = bind (fields_of d c t) env in
          ap (λ (x : CoreTree). if surely_fits d earlier c || are_none cases then x else choice (test c t) x (compiled_cases d call env t (c ∷ earlier) cases)) (one_same body fields h.0)
          ∙ ap (λ (x : CoreTree). if surely_fits d earlier c || are_none cases then compiled d other fields body else choice (test c t) (compiled d other fields body) x) (cases_same cases env t (c ∷ earlier) h.1)

  pub compiled_sees_named : SeesNamed P (compiled d)
  compiled_sees_named call other t env give h = one_same call other give t env h
