-- Where sorts were added, arguments that met what was expected meet it still.
use Rattle.std.proofs.Common.{◌≡◌, ℕ, Bool, List, [], ◌∷◌, option_map, Option, Some, None, Result, Ok, Err, refl, sym, ◌∙◌, ap, subst}
use Rattle.ct_generics.specs.Expression.{Expression}
use Rattle.ct_sexpr.specs.Expression.{Expression as Sexpr, Expressions as Sexprs, none, more}
use Rattle.ct_sorts.specs.declared.ids.SortId.{SortId}
use Rattle.ct_sorts.specs.declared.ids.CtorId.{CtorId}
use Rattle.ct_sorts.specs.Consistent.{IsConsistent}
use Rattle.ct_sorts.specs.Declarations.{Declarations, IsSort, bool_sort}
use Rattle.ct_formulas.specs.Formula.{Formulas, no_formulas, with_formula}
use Rattle.ct_instances.specs.declared.among.NamedCtor.{NamedCtor}
use Rattle.ct_instances.specs.Among.{origin_of, ctor_among, IsNamedCtor}
use Rattle.ct_instances.specs.Matching.{Assignment, matched}
use Rattle.ct_names.specs.Needs.{Grows}
use Rattle.ct_names.specs.Outcome.{Outcome, Elaborated, Sorted, and_then, unless_refused, step, is_sort}
use Rattle.ct_names.specs.Refusals.{wrong_sort}
use Rattle.ct_names.specs.Variables.{Variable, ScopeIn}
use Rattle.ct_names.specs.Elaboration.{meaning_of_part, part_of, parts_of}
use Rattle.ct_names.proofs.LastingLemmas.{origin_same, among_same}
use Rattle.ct_names.proofs.StayLemmas.{Stays, Any, stays_ok, stays_err, stays_same, stays_then, stays_step, stays_unless_refused}
use Rattle.ct_names.proofs.StayPatterns.{IsIn}
use Rattle.ct_names.proofs.StayTerms.{elaborated_stays}
use Rattle.ct_check.specs.Expected.{Expectation, these, same, choice, fields, owner, if_met, next_same, next_expected, expected_terms}

-- what is expected is about what is declared
abbrev pub IsAbout : Declarations → Expectation → Type 0
IsAbout d (these sorts) = Unit {0}
IsAbout d (same s) = Unit {0}
IsAbout d choice = Unit {0}
IsAbout d (fields rest m) = Unit {0}
IsAbout d (owner ctor last) = IsNamedCtor d ctor

module _ (later d : Declarations) (grows : Grows later d) (c : IsConsistent d) where
  tested : (b : Bool) (x : Expectation) → IsAbout d x → Stays (IsAbout d) (unless_refused b wrong_sort (Ok x)) (unless_refused b wrong_sort (Ok x))
  tested b x about = stays_unless_refused (IsAbout d) b b wrong_sort (Ok x) (Ok x) refl (stays_ok (IsAbout d) x about)

  met : (o : Option Expectation) → ((x : Expectation) → o ≡ Some x → IsAbout d x) → Stays (IsAbout d) (if_met o) (if_met o)
  met None about = stays_err (IsAbout d) wrong_sort (Err wrong_sort)
  met (Some x) about = stays_ok (IsAbout d) x (about x refl)

  field_about : (rest : List Expression) (o : Option Assignment) (x : Expectation) → option_map (fields rest) o ≡ Some x → IsAbout d x
  field_about rest None x e = absurd cc
  field_about rest (Some m) x e = let is : fields rest m ≡ x = cc in subst (IsAbout d) is tt

  owner_about : (k : NamedCtor) (s : SortId) → IsNamedCtor d k → (o : Option CtorId) (x : Expectation) → option_map (λ (n : CtorId). owner k (Some s)) o ≡ Some x → IsAbout d x
  owner_about k s about None x e = absurd cc
  owner_about k s about (Some n) x e = let is : owner k (Some s) ≡ x = cc in subst (IsAbout d) is about

  pub next_stays : (x : Expectation) → IsAbout d x → (s : SortId) → IsSort d s → Stays (IsAbout d) (next_expected d x s) (next_expected later x s)
  next_stays (these []) about s is = stays_err (IsAbout d) wrong_sort (Err wrong_sort)
  next_stays (these (first ∷ sorts)) about s is = tested (is_sort s first) (these sorts) tt
  next_stays (same None) about s is = stays_ok (IsAbout d) (same (Some s)) tt
  next_stays (same (Some first)) about s is = tested (is_sort s first) (same (Some s)) tt
  next_stays choice about s is = tested (is_sort s bool_sort) (same None) tt
  next_stays (fields [] m) about s is = stays_err (IsAbout d) wrong_sort (Err wrong_sort)
  next_stays (fields (e ∷ rest) m) about s is =
      subst (λ (x : Expression). Stays (IsAbout d) (if_met (option_map (fields rest) (matched e (origin_of d s) m))) (if_met (option_map (fields rest) (matched e x m)))) (sym (origin_same later d grows c s is))
      (met (option_map (fields rest) (matched e (origin_of d s) m)) (field_about rest (matched e (origin_of d s) m)))
  next_stays (owner k last) about s is =
      subst (λ (o : Option CtorId). Stays (IsAbout d) (if_met (option_map (λ (n : CtorId). owner k (Some s)) (ctor_among d k s))) (if_met (option_map (λ (n : CtorId). owner k (Some s)) o))) (sym (among_same later d grows c k about s is))
      (met (option_map (λ (n : CtorId). owner k (Some s)) (ctor_among d k s)) (owner_about k s about (ctor_among d k s)))

  abbrev pub IsMet : Formulas × Expectation → Type 0
  IsMet r = IsAbout d r.1

  pub expected_stay : (scope : List Variable) → ScopeIn d scope → (x : Expectation) → IsAbout d x → (es : Sexprs) → Stays IsMet (expected_terms d scope x (parts_of d es)) (expected_terms later scope x (parts_of later es))
  expected_stay scope inside x about none = stays_ok IsMet (no_formulas, x) about
  expected_stay scope inside x about (more e es) =
      stays_then (IsIn d) IsMet (meaning_of_part d scope (part_of d e)) (meaning_of_part later scope (part_of later e)) _ _ (elaborated_stays later d grows c scope inside e)
      (λ t is. stays_then (IsAbout d) IsMet (step (next_expected d x t.1)) (step (next_expected later x t.1)) _ _ (stays_step (IsAbout d) (next_expected d x t.1) (next_expected later x t.1) (next_stays x about t.1 is))
      (λ y on. stays_then IsMet IsMet (expected_terms d scope y (parts_of d es)) (expected_terms later scope y (parts_of later es)) _ _ (expected_stay scope inside y on es)
      (λ rest last. stays_ok IsMet (with_formula t.0 rest.0, rest.1) last)))
